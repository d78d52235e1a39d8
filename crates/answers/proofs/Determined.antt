-- What a solver promises determines its result and every lent cell: two results that meet the promise are equal.
use mathlib.Core.Path.{◌≡◌, refl, sym, ap, ◌∙◌}
use mathlib.Core.List.{List, [], ◌∷◌}
use Prim.Native.Nat.{ℕ}
use lib.ListN.{get_or}
use Rattle.std.specs.Prelude.{Result, Ok, Err}
use Rattle.answers.specs.Answers.{Answer, Solved, Rules, Kept, Broken, refusal_of, answer_of, rules_of}
use Rattle.answers.specs.Numbers.{number_of, place_of}
use Rattle.answers.specs.Calls.{Call}
use Rattle.answers.specs.Reported.{reported}
use Rattle.answers.specs.Told.{Tells}
use Rattle.answers.specs.declared.refusal.Refusal.{Refusal}
use Rattle.answers.specs.declared.refusal.Refusal.TheVariants as refusal
use Rattle.answers.specs.declared.refusal.Built.{Built}
use Rattle.answers.proofs.Told.{tells_answer}

-- the refusal that comes to this answer, if one does
meant : Answer → Refusal
meant a =
    get_or
    (refusal.BadFile ∷ refusal.TooLarge ∷ refusal.BadShape ∷ refusal.BadEntry (place_of a) ∷ refusal.WrongSolution ∷ refusal.ShortArea ∷ refusal.Unsolvable ∷ refusal.CrowdedVertex (place_of a) ∷ refusal.BadFile
    ∷ refusal.BadFile ∷ refusal.OutsideDomain ∷ [])
    (number_of a) refusal.BadFile

meant_of : (r : Refusal) → meant (refusal_of r) ≡ r
unfolding meant
meant_of refusal.TooLarge = refl
meant_of refusal.BadShape = refl
meant_of (refusal.BadEntry place) = refl
meant_of refusal.WrongSolution = refl
meant_of refusal.ShortArea = refl
meant_of refusal.Unsolvable = refl
meant_of (refusal.CrowdedVertex vertex) = refl
meant_of refusal.BadFile = refl
meant_of refusal.OutsideDomain = refl

-- what a refusal comes to determines it
pub same_refusal : (r s : Refusal) → refusal_of r ≡ refusal_of s → r ≡ s
same_refusal r s e = sym (meant_of r) ∙ ap meant e ∙ meant_of s

result_of : Answer → Result (Unit {0}) Refusal
result_of a = get_or (Ok tt ∷ []) (number_of a) (Err (meant a))

result_back : (r : Result (Unit {0}) Refusal) → result_of (answer_of r) ≡ r
unfolding result_of meant
result_back (Ok tt) = refl
result_back (Err refusal.TooLarge) = refl
result_back (Err refusal.BadShape) = refl
result_back (Err (refusal.BadEntry place)) = refl
result_back (Err refusal.WrongSolution) = refl
result_back (Err refusal.ShortArea) = refl
result_back (Err refusal.Unsolvable) = refl
result_back (Err (refusal.CrowdedVertex vertex)) = refl
result_back (Err refusal.BadFile) = refl
result_back (Err refusal.OutsideDomain) = refl

-- what a call's result comes to determines it
pub same_result : (r s : Result (Unit {0}) Refusal) → answer_of r ≡ answer_of s → r ≡ s
same_result r s e = sym (result_back r) ∙ ap result_of e ∙ result_back s

pub determined : (call : Call) {solution solution' numbers numbers' words words' : List ℕ} (answer answer' : Answer) → Tells call (number_of answer) (place_of answer) solution numbers words
    → Tells call (number_of answer') (place_of answer') solution' numbers' words' → (answer ≡ answer') × (solution ≡ solution') × (numbers ≡ numbers') × (words ≡ words')
determined call answer answer' p q =
    (tells_answer p ∙ sym (tells_answer q), p.solution_is ∙ sym q.solution_is, p.numbers_are ∙ sym q.numbers_are, p.words_are ∙ sym q.words_are)

-- .. and so of the result that comes to the answer
pub result_determined : (call : Call) {solution solution' numbers numbers' words words' : List ℕ} (r r' : Result (Unit {0}) Refusal)
    → Tells call (number_of (answer_of r)) (place_of (answer_of r)) solution numbers words
    → Tells call (number_of (answer_of r')) (place_of (answer_of r')) solution' numbers' words' → (r ≡ r') × (solution ≡ solution') × (numbers ≡ numbers') × (words ≡ words')
result_determined call r r' p q = let d = determined call (answer_of r) (answer_of r') p q in (same_result r r' d.0, d.1, d.2, d.3)

-- what a solver that counts promises: what the call tells, and of its sums the total of a run
abbrev pub Promised : Call → ℕ → Built Refusal → List ℕ → List ℕ → List ℕ → Type 0
Promised call total built solution numbers words =
    Tells call (number_of (answer_of built.answer)) (place_of (answer_of built.answer)) solution numbers words × (built.cancelled ≡ reported call.answer total)

pub built_determined : (call : Call) (total : ℕ) {solution solution' numbers numbers' words words' : List ℕ} (built built' : Built Refusal) → Promised call total built solution numbers words
    → Promised call total built' solution' numbers' words' → (built ≡ built') × (solution ≡ solution') × (numbers ≡ numbers') × (words ≡ words')
built_determined call total built built' p q =
    let d = result_determined call built.answer built'.answer p.0 q.0 in
    ((λ i. record { answer = d.0 i; cancelled = (p.1 ∙ sym q.1) i }), d.1, d.2, d.3)

rules_answer : Rules → Answer
rules_answer Kept = Solved
rules_answer (Broken answer) = answer

rules_answer_of : (r : Result (Unit {0}) Refusal) → rules_answer (rules_of r) ≡ answer_of r
unfolding rules_answer
rules_answer_of (Ok x) = refl
rules_answer_of (Err refusal) = refl

-- what a result says of the rules determines it
pub same_rules : (r s : Result (Unit {0}) Refusal) → rules_of r ≡ rules_of s → r ≡ s
same_rules r s e = same_result r s (sym (rules_answer_of r) ∙ ap rules_answer e ∙ rules_answer_of s)
