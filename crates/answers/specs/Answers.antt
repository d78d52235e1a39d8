-- What a call comes to: solved, or one of the refusals of the rules. In the code a call hands back a result, whose error is the refusal.
use Rattle.std.specs.Prelude.{ℕ, Result, Ok, Err}
use Rattle.answers.specs.declared.refusal.Refusal.{Refusal}
use Rattle.answers.specs.declared.refusal.Refusal.TheVariants as refusal
use Rattle.answers.specs.declared.refusal.Unpeeled.{Unpeeled}
use Rattle.answers.specs.declared.refusal.Unpeeled.TheVariants as unpeeled

pub data Answer : Type 0 where
  Solved : Answer
  TooLarge : Answer
  BadShape : Answer
  BadEntry : ℕ → Answer
  WrongSolution : Answer
  ShortArea : Answer
  Unsolvable : Answer
  CrowdedVertex : ℕ → Answer
  Stuck : ℕ → Answer
  BadFile : Answer
  OutsideDomain : Answer

-- whether what was lent keeps the rules that come before the solution and the work areas
pub data Rules : Type 0 where
  Kept : Rules
  Broken : Answer → Rules

-- what a refusal of the code comes to
abbrev pub refusal_of : Refusal → Answer
refusal_of refusal.TooLarge = TooLarge
refusal_of refusal.BadShape = BadShape
refusal_of (refusal.BadEntry place) = BadEntry place
refusal_of refusal.WrongSolution = WrongSolution
refusal_of refusal.ShortArea = ShortArea
refusal_of refusal.Unsolvable = Unsolvable
refusal_of (refusal.CrowdedVertex vertex) = CrowdedVertex vertex
refusal_of refusal.BadFile = BadFile
refusal_of refusal.OutsideDomain = OutsideDomain

-- what a peeler's reason comes to: stuck with the edges outside the core
abbrev pub unpeeled_of : Unpeeled → Answer
unpeeled_of (unpeeled.Refused refusal) = refusal_of refusal
unpeeled_of (unpeeled.Stuck report) = Stuck report.peeled

-- what a call's result comes to, by what its reasons come to
abbrev pub answer_by : {A E : Type 0} → (E → Answer) → Result A E → Answer
answer_by f (Ok x) = Solved
answer_by f (Err e) = f e

abbrev pub answer_of : {A : Type 0} → Result A Refusal → Answer
answer_of r = answer_by refusal_of r

-- what the result of a call that tries the rules says of them
abbrev pub rules_of : {A : Type 0} → Result A Refusal → Rules
rules_of (Ok x) = Kept
rules_of (Err r) = Broken (refusal_of r)
