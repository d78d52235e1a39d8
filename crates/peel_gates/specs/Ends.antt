-- What a peeler answers at the end of its run.
use Rattle.std.specs.Prelude.{ℕ, Result, Ok, Err, ltb}
use Rattle.answers.specs.declared.refusal.StuckReport.{StuckReport}
use Rattle.answers.specs.declared.refusal.Unpeeled.{Unpeeled}
use Rattle.answers.specs.declared.refusal.Unpeeled.TheVariants as unpeeled
use Rattle.answers.specs.Calls.{pick}
use Rattle.answers.specs.Answers.{Answer, Solved, Stuck, refusal_of}
use Rattle.peel_rules.specs.Report.{no_report, report_of}

pub record Peeling : Type 0 where
  pub answer : Answer
  -- told where a core is left
  pub report : StuckReport

-- what the code's result of a peeler comes to
abbrev pub peeling_of : {A : Type 0} → Result A Unpeeled → Peeling
peeling_of (Ok x) = record { answer = Solved; report = no_report }
peeling_of (Err (unpeeled.Refused refusal)) = record { answer = refusal_of refusal; report = no_report }
peeling_of (Err (unpeeled.Stuck report)) = record { answer = Stuck report.peeled; report = report }

-- what is told at the end of a run in which some of m edges were peeled
abbrev pub end_of : ℕ → ℕ → Peeling
end_of m peeled = pick (ltb peeled m) (record { answer = Stuck peeled; report = report_of peeled m }) (record { answer = Solved; report = no_report })
