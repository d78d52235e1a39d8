-- The test whether a list is increasing, and what its answer means.
use mathlib.Core.Path.{◌≡◌, refl, sym}
use mathlib.Core.Bool.{Bool, true, false, ◌&&◌, and-false, false≢true}
use mathlib.Core.Logic.{◌↔◌}
use mathlib.Core.List.{List, [], ◌∷◌}
use Prim.Native.Nat.{ℕ, zero, suc, ◌<◌}
use native.Mathlib.Numerals.{add-one, unary_clauses}
use native.Mathlib.Omega.{arith}
use borrow.Author.Tests.{lt-ltb, ltb-true}
use lib.ListN.{length, get_or}
use lib.Dec.{ltb}
use Rattle.std.specs.List.{AllAdjacentBelow, IsAllAdjacentAnswer}
use Rattle.gf2.specs.Equation.{Above, Increasing}
use Rattle.gf2.proofs.VarLists.{above_trans}
use Rattle.equation.specs.Increase.{rises, rises_from}

-- what is told of each element and the next is whether the list rises
all_above : (p : ℕ) (s : List ℕ) → AllAdjacentBelow (λ x y. true ≡ ltb x y) (p ∷ s) (suc (length s)) → true ≡ rises_from p s
unfolding rises_from
all_above p [] h = refl
all_above p (x ∷ s) h = rw (← (h 0 0 (omega arith))) (all_above x s (λ k d l. rw add-one (simp unary_clauses at (h (suc k) d (omega arith)))))

one_falls : (p : ℕ) (s : List ℕ) (k : ℕ) → k < length s → false ≡ ltb (get_or (p ∷ s) k 0) (get_or s k 0) → false ≡ rises_from p s
unfolding rises_from
one_falls p [] k h e = absurd (omega arith)
one_falls p (x ∷ s) zero h e = rw (← e) refl
one_falls p (x ∷ s) (suc k) h e = rw (← (one_falls x s k (omega arith) e)) (sym (and-false (ltb p x)))

pub rises_adjacent : (s : List ℕ) (r : Bool) → IsAllAdjacentAnswer (λ x y b. b ≡ ltb x y) s r → r ≡ rises s
unfolding rises
rises_adjacent [] true h = refl
rises_adjacent [] false h = absurd (omega (arith, h.1))
rises_adjacent (x ∷ s) true h = all_above x s h
rises_adjacent (x ∷ s) false h = one_falls x s h.0 (omega (arith, h.1)) (rw add-one at (h.2 0))

-- ---- the test says what it should

and_left : (a b : Bool) → (a && b) ≡ true → a ≡ true
and_left true b e = refl
and_left false b e = absurd (false≢true e)

and_right : (a b : Bool) → (a && b) ≡ true → b ≡ true
and_right true b e = e
and_right false b e = absurd (false≢true e)

rises_from_above : (p : ℕ) (s : List ℕ) → rises_from p s ≡ true → Above p s × Increasing s
unfolding rises_from
rises_from_above p [] e = (tt, tt)
rises_from_above p (x ∷ xs) e =
    let h : p < x = ltb-true p x (and_left (ltb p x) (rises_from x xs) e) in
    let r = rises_from_above x xs (and_right (ltb p x) (rises_from x xs) e) in
    ((h, above_trans xs h r.0), r)

pub rises_increasing : (s : List ℕ) → rises s ≡ true → Increasing s
unfolding rises
rises_increasing [] e = tt
rises_increasing (x ∷ xs) e = rises_from_above x xs e

above_rises_from : (p : ℕ) (s : List ℕ) → Above p s → Increasing s → rises_from p s ≡ true
unfolding rises_from
above_rises_from p [] a i = refl
above_rises_from p (x ∷ xs) a i = rw (lt-ltb p x a.0) (above_rises_from x xs i.0 i.1)

pub increasing_rises : (s : List ℕ) → Increasing s → rises s ≡ true
unfolding rises
increasing_rises [] i = refl
increasing_rises (x ∷ xs) i = above_rises_from x xs i.0 i.1

pub rises_iff : (s : List ℕ) → (rises s ≡ true) ↔ Increasing s
rises_iff s = (rises_increasing s, increasing_rises s)
