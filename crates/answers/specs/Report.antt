-- The report of a peeler that is not stuck.
use Rattle.std.specs.Prelude.{ℕ, pos, Float}
use Rattle.std.specs.Float.{binary64}
use Rattle.std.specs.Float.Ieee.{of_int}
use Rattle.answers.specs.declared.refusal.StuckReport.{StuckReport}

-- a count as an f64
abbrev pub count : ℕ → Float
count k = of_int binary64 (pos k)

-- with any answer but stuck: 0, 0 and 0.0
abbrev pub no_report : StuckReport
no_report = record { peeled = 0; edges = 0; unpeeled = count 0 }
