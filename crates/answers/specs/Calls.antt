-- What a solver's call answers, and what it leaves in every cell that it was lent.
use Rattle.std.specs.Prelude.{List, Bool, true, false, ◌&&◌, ℕ, length, eqb, leb}
use Rattle.areas.specs.Stretch.{cleared}
use Rattle.gf2.specs.Result.{Result, unsolvable, ok}
use Rattle.answers.specs.Answers.{Answer}
use Rattle.answers.specs.Answers.{Solved, WrongSolution, ShortArea, Unsolvable}
use Rattle.answers.specs.Answers.{Rules}
use Rattle.answers.specs.Answers.{Kept, Broken}

pub record Call : Type 0 where
  pub answer : Answer
  pub solution : List ℕ
  pub numbers : List ℕ
  pub words : List ℕ

abbrev pub pick : {A : Type 0} → Bool → A → A → A
pick true a b = a
pick false a b = b

-- a refusal that comes before the run leaves everything as lent
abbrev pub refused : Answer → List ℕ → List ℕ → List ℕ → Call
refused answer solution numbers words = record { answer = answer; solution = solution; numbers = numbers; words = words }

-- after a run the room is zero; the solution is written only where there is one
abbrev pub ran : ℕ → ℕ → Result (List ℕ) → List ℕ → List ℕ → List ℕ → Call
ran kn kw unsolvable solution numbers words =
    record { answer = Unsolvable; solution = solution; numbers = cleared kn numbers; words = cleared kw words }
ran kn kw (ok x) solution numbers words = record { answer = Solved; solution = x; numbers = cleared kn numbers; words = cleared kw words }

-- what was lent beside the system: the solution has n words, then each area its room
abbrev pub lengths_rules : ℕ → ℕ → ℕ → List ℕ → List ℕ → List ℕ → Rules
lengths_rules n kn kw solution numbers words =
    pick (eqb (length solution) n) (pick (leb kn (length numbers) && leb kw (length words)) Kept (Broken ShortArea)) (Broken WrongSolution)

-- rules that are tried one after the other
abbrev pub both_rules : Rules → Rules → Rules
both_rules Kept later = later
both_rules (Broken answer) later = Broken answer

-- a system that keeps its rules: the solution has n words, the areas have their room of kn numbers and kw words, then the run
abbrev pub admitted : ℕ → ℕ → ℕ → Result (List ℕ) → List ℕ → List ℕ → List ℕ → Call
admitted n kn kw run solution numbers words =
    pick (eqb (length solution) n)
    (pick (leb kn (length numbers) && leb kw (length words)) (ran kn kw run solution numbers words) (refused ShortArea solution numbers words))
    (refused WrongSolution solution numbers words)

-- a solver's call: the rules 1 to 3 of what was lent, then 4, 5 and the run
abbrev pub solver_call : Rules → ℕ → ℕ → ℕ → Result (List ℕ) → List ℕ → List ℕ → List ℕ → Call
solver_call (Broken answer) n kn kw run solution numbers words = refused answer solution numbers words
solver_call Kept n kn kw run solution numbers words = admitted n kn kw run solution numbers words
