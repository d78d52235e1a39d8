-- What is refused before the run, as one answer.
use Rattle.std.specs.Prelude.{Bool, true, false, ◌&&◌, ℕ, Result, Ok, Err, eqb, leb, ltb}
use Rattle.answers.specs.Sizes.{max_variables, max_equations}
use Rattle.answers.specs.Calls.{pick}
use Rattle.answers.specs.declared.refusal.Refusal.{Refusal}
use Rattle.answers.specs.Answers.{Answer, Solved, TooLarge, BadEntry, WrongSolution, ShortArea, refusal_of}
use Rattle.peel_rules.specs.Report.{no_report}
use Rattle.peel_gates.specs.Ends.{Peeling}
use Rattle.peel_gates.specs.Rooms.{numbers_room, bytes_room}

-- whether the run may begin; if not, what is answered
pub record Gate : Type 0 where
  pub opened : Bool
  pub refusal : Peeling

abbrev pub unrefused : Gate
unrefused = record { opened = true; refusal = record { answer = Solved; report = no_report } }

abbrev pub shut : Answer → Gate
shut answer = record { opened = false; refusal = record { answer = answer; report = no_report } }

-- what the code's result of a gate comes to
abbrev pub gate_by : {A : Type 0} → Result A Refusal → Gate
gate_by (Ok x) = unrefused
gate_by (Err r) = shut (refusal_of r)

-- the order 1, 3, 4, 5; `bad` is the lowest edge that breaks its rule, or m
abbrev pub gate_of : Bool → ℕ → ℕ → ℕ → ℕ → ℕ → ℕ → Gate
gate_of high n m bad cells numbers bytes =
    pick (leb n max_variables && leb m max_equations)
    (pick (ltb bad m) (shut (BadEntry bad))
    (pick (eqb cells n)
    (pick (leb (numbers_room high n m) numbers && leb (bytes_room high n m) bytes) unrefused (shut ShortArea))
    (shut WrongSolution)))
    (shut TooLarge)
