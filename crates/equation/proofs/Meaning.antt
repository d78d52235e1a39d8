-- What the sum means: it is the sum of the two equations, is met exactly where they agree, and tells how many variables both had.
use mathlib.Core.Path.{◌≡◌, refl, sym, ap, ◌∙◌, subst}
use mathlib.Core.Logic.{◌↔◌, ◌≢◌, ◌⊎◌, inl, inr}
use mathlib.Core.Bool.{Bool, true, false, ◌&&◌}
use mathlib.Core.List.{List}
use Prim.Native.Nat.{ℕ, ◌+◌, ◌≤◌, ◌<◌}
use native.Mathlib.Omega.{arith}
use borrow.Author.Tests.{le-leb, lt-leb, leb-false}
use lib.ListN.{length}
use lib.Dec.{leb}
use lib.Bits.{bit_xor}
use Rattle.gf2.specs.Equation.{Equation, eqn, Increasing, Meets, sym_diff, sum}
use Rattle.gf2.specs.Common.{common}
use Rattle.gf2.proofs.Sums.{meets_sum, meets_other}
use Rattle.gf2.proofs.SymDiff.{length-sym_diff-le}
use Rattle.areas.specs.Stretch.{stretch}
use Rattle.areas.specs.Rows.{padded}
use Rattle.areas.proofs.Stretch.{stretch-put_within}
use Rattle.areas.proofs.Rows.{length-padded, stretch-padded}
use Rattle.answers.specs.Sizes.{max_summed}
use Rattle.answers.specs.Numbers.{number_of}
use Rattle.answers.specs.Calls.{pick}
use Rattle.answers.specs.Answers.{Answer}
use Rattle.answers.specs.Answers.{Solved, TooLarge, BadEntry, ShortArea}
use Rattle.equation.specs.Increase.{rises}
use Rattle.equation.specs.Sums.{SumCall, sum_call, made_sum, refused_sum}
use Rattle.equation.proofs.Rise.{increasing_rises}

-- two increasing lists that keep the sizes are added
pub sum_made : (l r : List ℕ) (lc rc : ℕ) (out : List ℕ) → length l ≤ max_summed → length r ≤ max_summed → Increasing l → Increasing r
    → length l + length r ≤ length out → sum_call l r lc rc out ≡ made_sum l r lc rc out
unfolding sum_call
sum_made l r lc rc out hl hr il ir room = simp (le-leb _ _ hl, le-leb _ _ hr, increasing_rises l il, increasing_rises r ir, le-leb _ _ room)

-- a list that is too long, the left one or the right one, comes before all else
pub sum_large_refused : (l r : List ℕ) (lc rc : ℕ) (out : List ℕ) → (max_summed < length l) ⊎ (max_summed < length r) → sum_call l r lc rc out ≡ refused_sum TooLarge out
unfolding sum_call
sum_large_refused l r lc rc out (inl h) = simp (lt-leb _ _ h)
sum_large_refused l r lc rc out (inr h) = rw (lt-leb (length r) max_summed h) (ap (λ (t : Bool). pick t inner (refused_sum TooLarge out)) (and_false (leb (length l) max_summed)))
  where
    inner : SumCall
    inner =
        pick (rises l) (pick (rises r) (pick (leb (length l + length r) (length out)) (made_sum l r lc rc out) (refused_sum ShortArea out)) (refused_sum (BadEntry 1) out)) (refused_sum (BadEntry 0) out)

    and_false : (b : Bool) → (b && false) ≡ false
    and_false true = refl
    and_false false = refl

-- 1 exactly where one of the two lists is too long
pub sum_too_large : (l r : List ℕ) (lc rc : ℕ) (out : List ℕ) → ((sum_call l r lc rc out).result.answer ≡ TooLarge) ↔ ((max_summed < length l) ⊎ (max_summed < length r))
unfolding sum_call
sum_too_large l r lc rc out =
    ((λ e. go (leb (length l) max_summed) (leb (length r) max_summed) refl refl e), (λ h. ap (λ (call : SumCall). call.result.answer) (sum_large_refused l r lc rc out h)))
  where
    other : (answer : Answer) → number_of answer ≢ 1 → answer ≢ TooLarge
    other answer h e = h (ap number_of e)

    either : (t : Bool) (a b : SumCall) → a.result.answer ≢ TooLarge → b.result.answer ≢ TooLarge → (pick t a b).result.answer ≢ TooLarge
    either true a b p q = p
    either false a b p q = q

    go : (a b : Bool) → leb (length l) max_summed ≡ a → leb (length r) max_summed ≡ b
        → (pick (a && b) (pick (rises l) (pick (rises r) (pick (leb (length l + length r) (length out)) (made_sum l r lc rc out) (refused_sum ShortArea out)) (refused_sum (BadEntry 1) out)) (refused_sum (BadEntry 0) out)) (refused_sum TooLarge out)).result.answer ≡ TooLarge
        → (max_summed < length l) ⊎ (max_summed < length r)
    go true true p q e =
        absurd (either (rises l) _ _
        (either (rises r) _ _ (either (leb (length l + length r) (length out)) (made_sum l r lc rc out) _ (other Solved (λ z. absurd (omega arith))) (other ShortArea (λ z. absurd (omega arith))))
        (other (BadEntry 1) (λ z. absurd (omega arith)))) (other (BadEntry 0) (λ z. absurd (omega arith))) e)
    go true false p q e = inr (leb-false (length r) max_summed q)
    go false b p q e = inl (leb-false (length l) max_summed p)

-- the equation that a call leaves: the first `len` numbers of `out`, and the constant
abbrev pub summed_equation : SumCall → Equation
summed_equation call = eqn (stretch 0 call.result.len call.out) call.result.constant

-- .. is the sum of the two
pub sum_is_sum : (l r : List ℕ) (lc rc : ℕ) (out : List ℕ) → length l + length r ≤ length out
    → summed_equation (made_sum l r lc rc out) ≡ sum (eqn l lc) (eqn r rc)
sum_is_sum l r lc rc out room =
    let short = length-sym_diff-le l r in
    let long = length-padded (length l + length r) (sym_diff l r) (omega arith) in
    ap (λ (vs : List ℕ). eqn vs (bit_xor lc rc))
    (stretch-put_within 0 (length (sym_diff l r)) 0 (padded (length l + length r) (sym_diff l r)) out (omega arith) (omega arith) (omega arith) ∙ stretch-padded (length l + length r) (sym_diff l r))

-- values that meet one of two equations meet their sum exactly where they meet the other
pub sum_call_meets : (x l r : List ℕ) (lc rc : ℕ) (out : List ℕ) → length l ≤ max_summed → length r ≤ max_summed → Increasing l → Increasing r
    → length l + length r ≤ length out → Meets x (eqn l lc) → (Meets x (summed_equation (sum_call l r lc rc out)) ↔ Meets x (eqn r rc))
sum_call_meets x l r lc rc out hl hr il ir room h =
    let e : summed_equation (sum_call l r lc rc out) ≡ sum (eqn l lc) (eqn r rc) = ap summed_equation (sum_made l r lc rc out hl hr il ir room) ∙ sum_is_sum l r lc rc out room in
    subst (λ (q : Equation). Meets x q ↔ Meets x (eqn r rc)) (sym e) ((λ k. meets_other x (eqn l lc) (eqn r rc) h k), (λ k. meets_sum x (eqn l lc) (eqn r rc) h k))

-- 0: how many variables stood in both lists; after a refusal none is told
pub data TellsCommon (l r : List ℕ) : Answer → ℕ → Type 0 where
  of_both : TellsCommon l r Solved (common l r)
  of_none : {answer : Answer} → answer ≢ Solved → TellsCommon l r answer 0

abbrev Tells : List ℕ → List ℕ → SumCall → Type 0
Tells l r call = TellsCommon l r call.result.answer call.result.cancelled

pub sum_common : (l r : List ℕ) (lc rc : ℕ) (out : List ℕ) → Tells l r (sum_call l r lc rc out)
unfolding sum_call
sum_common l r lc rc out =
    either (leb (length l) max_summed && leb (length r) max_summed) _ _
    (either (rises l) _ _
    (either (rises r) _ _ (either (leb (length l + length r) (length out)) (made_sum l r lc rc out) _ of_both (refused ShortArea (omega arith)))
    (refused (BadEntry 1) (omega arith)))
    (refused (BadEntry 0) (omega arith)))
    (refused TooLarge (omega arith))
  where
    either : (t : Bool) (a b : SumCall) → Tells l r a → Tells l r b → Tells l r (pick t a b)
    either true a b p q = p
    either false a b p q = q

    refused : (answer : Answer) → 1 ≤ number_of answer → Tells l r (refused_sum answer out)
    refused answer h = of_none (λ e. let z : number_of answer ≡ 0 = ap number_of e in absurd (omega arith))
