-- The report of a stuck peeler.
use Rattle.std.specs.Prelude.{ℕ, ◌-◌, Float}
use Rattle.std.specs.Float.{binary64}
use Rattle.std.specs.Float.Ieee.{mul, div}
use Rattle.answers.specs.declared.refusal.StuckReport.{StuckReport}
-- a count as an f64, and with any other answer 0, 0 and 0.0
pub use Rattle.answers.specs.Report.{count, no_report}

-- 100.0 times the unpeeled count, then divided by the edges in all, each step rounded once
abbrev pub percentage : ℕ → ℕ → Float
percentage unpeeled edges = div binary64 (mul binary64 (count 100) (count unpeeled)) (count edges)

abbrev pub report_of : ℕ → ℕ → StuckReport
report_of peeled edges = record { peeled = peeled; edges = edges; unpeeled = percentage (edges - peeled) edges }
