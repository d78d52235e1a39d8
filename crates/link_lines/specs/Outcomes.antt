-- What a call comes to, and the lines that tell it.
use Rattle.std.specs.Prelude.{List, [], ◌++◌, ℕ, eqb}
use Rattle.answers.specs.Calls.{pick}
use Rattle.answers.specs.Numbers.{number_of, place_of}
use Rattle.answers.specs.Answers.{Answer}
use Rattle.link_lines.specs.Lines.{answer_line, value_lines}

-- what a call answers, and the solution that it leaves
pub record Outcome : Type 0 where
  pub answer : Answer
  pub values : List ℕ

abbrev pub outcome : Answer → List ℕ → Outcome
outcome answer values = record { answer = answer; values = values }

-- number and place of an answer
abbrev pub refusal_text : Answer → List ℕ
refusal_text answer = answer_line (number_of answer) (place_of answer)

-- the answer; after 0 only, the values
unfoldable pub outcome_text : Outcome → List ℕ
outcome_text r = refusal_text r.answer ++ pick (eqb (number_of r.answer) 0) (value_lines r.values) []
