-- What a call tells, from the equations of its answer and its cells, and back.
use mathlib.Core.Path.{◌≡◌, refl, ap, ◌∙◌}
use mathlib.Core.List.{List}
use Prim.Native.Nat.{ℕ}
use Rattle.answers.specs.Numbers.{number_of, place_of}
use Rattle.answers.specs.Calls.{Call}
use Rattle.answers.specs.Told.{Tells}
use Rattle.answers.specs.Answers.{Answer}
use Rattle.answers.proofs.Numbers.{same_answer}

-- the definition's own result
pub call_tells : {c : Call} → Tells c (number_of c.answer) (place_of c.answer) c.solution c.numbers c.words
call_tells = record { number_is = refl; place_is = refl; solution_is = refl; numbers_are = refl; words_are = refl }

-- the answer, the solution and both areas are those of the call
abbrev pub Says : Call → Answer → List ℕ → List ℕ → List ℕ → Type 0
Says c answer solution numbers words = (answer ≡ c.answer) × ((solution ≡ c.solution) × ((numbers ≡ c.numbers) × (words ≡ c.words)))

module _ {c : Call} {answer : Answer} {solution numbers words : List ℕ} where
  pub tells : Says c answer solution numbers words → Tells c (number_of answer) (place_of answer) solution numbers words
  tells e = record { number_is = ap number_of e.0; place_is = ap place_of e.0; solution_is = e.1.0; numbers_are = e.1.1.0; words_are = e.1.1.1 }

  -- number and place fix the answer
  pub tells_answer : Tells c (number_of answer) (place_of answer) solution numbers words → answer ≡ c.answer
  tells_answer t = same_answer answer c.answer t.number_is t.place_is

-- told on by its number and its place
pub told_on : {c : Call} {number place number' place' : ℕ} {solution numbers words : List ℕ} → Tells c number place solution numbers words → number' ≡ number → place' ≡ place
    → Tells c number' place' solution numbers words
told_on t e f =
    record { number_is = e ∙ t.number_is; place_is = f ∙ t.place_is; solution_is = t.solution_is; numbers_are = t.numbers_are; words_are = t.words_are }
