-- How many variables two lists share: the sum tells it by its length, since each of them is missing twice.
use mathlib.Core.Path.{◌≡◌, refl, ap, ap₂, subst, ◌∙◌}
use mathlib.Core.Bool.{Bool, true, false, cond}
use mathlib.Core.List.{List, [], ◌∷◌}
use Prim.Native.Nat.{ℕ, suc, ◌+◌, ◌-◌, ◌*◌, ◌/◌, ◌≤◌}
use native.Mathlib.Nat.{ne_of_gt, zero-add}
use native.Mathlib.Omega.{arith}
use lib.ListN.{length}
use Rattle.gf2.specs.Equation.{Above, Increasing, Rising, lists, sym_diff}
use Rattle.gf2.proofs.Tests.{eqb_ne}
use Rattle.gf2.proofs.VarLists.{above_trans, above_not_listed, lists_head, sym_diff_comm}
use Rattle.gf2.proofs.SymDiff.{Merge, no_left, no_right, left, right, merge, rising_length}
use Rattle.gf2.proofs.SymDiff as merging
use Rattle.gf2.specs.NumberLists.{keep, one, count}
use Rattle.gf2.specs.Common.{common}

common_none : (vs : List ℕ) → common vs [] ≡ 0
unfolding common count one lists
common_none [] = refl
common_none (v ∷ vs) = zero-add (common vs []) ∙ common_none vs

-- a variable below all of a list counts for nothing
common_below : (y : ℕ) (xs ys : List ℕ) → Above y xs → common xs (y ∷ ys) ≡ common xs ys
unfolding common count lists
common_below y [] ys h = refl
common_below y (x ∷ xs) ys h = rw (eqb_ne x y (ne_of_gt h.0), common_below y xs ys h.1)

common_cons : (x : ℕ) (xs ys : List ℕ) → common (x ∷ xs) ys ≡ one (lists x ys) + common xs ys
unfolding common count
common_cons x xs ys = refl

cancelled : {a b d : List ℕ} → Merge a b d → Increasing a → Increasing b → length d + 2 * common a b ≡ length a + length b
unfolding common count one
cancelled no_left i j = omega arith
cancelled (no_right {x} {xs}) i j = rw (common_none (x ∷ xs)) (omega arith)
cancelled (left {x} {y} {xs} {ys} h m) i j =
    let k = cancelled m i.1 j in
    let e : common (x ∷ xs) (y ∷ ys) ≡ common xs (y ∷ ys) =
    common_cons x xs (y ∷ ys) ∙ rw (above_not_listed x (y ∷ ys) (h, above_trans ys h j.0)) (zero-add (common xs (y ∷ ys))) in
    rw e (omega arith)
cancelled (merging.same {x} {y} {xs} {ys} h m) i j =
    let k = cancelled m i.1 j.1 in
    let at_x : common (x ∷ xs) (x ∷ ys) ≡ 1 + common xs ys =
    common_cons x xs (x ∷ ys) ∙ ap₂ (λ b c. one b + c) (lists_head x ys) (common_below x xs ys i.0) in
    let e : common (x ∷ xs) (y ∷ ys) ≡ 1 + common xs ys = subst (λ w. common (x ∷ xs) (w ∷ ys) ≡ 1 + common xs ys) h at_x in
    rw e (omega arith)
cancelled (right {x} {y} {xs} {ys} h m) i j =
    let k = cancelled m i j.1 in
    rw (common_below y (x ∷ xs) ys (h, above_trans xs h i.0)) (omega arith)

-- the sum is shorter than both lists together by two for each variable that they share
pub length-sym_diff : (a b : List ℕ) → Increasing a → Increasing b → length (sym_diff a b) + 2 * common a b ≡ length a + length b
length-sym_diff a b i j = cancelled (merge a b) i j

-- .. so the lengths tell how many they share
pub common_half : (a b : List ℕ) (len : ℕ) → Increasing a → Increasing b → len ≡ length (sym_diff a b) → (length a + length b - len) / 2 ≡ common a b
common_half a b len i j q = let e = length-sym_diff a b i j in omega arith

-- .. in either order
pub common_comm : (a b : List ℕ) → Increasing a → Increasing b → common a b ≡ common b a
common_comm a b i j =
    let e = length-sym_diff a b i j in
    let f = length-sym_diff b a j i in
    let g : length (sym_diff a b) ≡ length (sym_diff b a) = ap length (sym_diff_comm a b i j) in
    omega arith

-- they are the variables of one list that the other lists too
pub common_keep : (vs us : List ℕ) → common vs us ≡ length (keep (λ v. lists v us) vs)
unfolding common count one keep
common_keep [] us = refl
common_keep (v ∷ vs) us = go (lists v us) (common_keep vs us)
  where
    go : (t : Bool) → count (λ u. lists u us) vs ≡ length (keep (λ u. lists u us) vs)
        → one t + count (λ u. lists u us) vs ≡ length (cond t (v ∷ keep (λ u. lists u us) vs) (keep (λ u. lists u us) vs))
    go true e = omega arith
    go false e = omega arith

-- no more than the first list has
count-le : (p : ℕ → Bool) (l : List ℕ) → count p l ≤ length l
unfolding count one
count-le p [] = omega arith
count-le p (v ∷ vs) = go (p v) (count-le p vs)
  where
    go : (t : Bool) → count p vs ≤ length vs → one t + count p vs ≤ suc (length vs)
    go true h = omega arith
    go false h = omega arith

pub common_le : (n : ℕ) (vs us : List ℕ) → Rising 0 n vs → common vs us ≤ n
unfolding common
common_le n vs us h = let a = count-le (λ v. lists v us) vs in let b = rising_length 0 n vs (omega arith) h in omega arith
