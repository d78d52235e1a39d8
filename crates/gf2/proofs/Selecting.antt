-- Numbers counted up, and what selecting by a test keeps.
use mathlib.Core.Path.{◌≡◌, refl, sym, ap, ◌∙◌, subst}
use mathlib.Core.Logic.{◌≢◌}
use mathlib.Core.List.{List, [], ◌∷◌, map}
use mathlib.Core.Bool.{Bool, true, false, not, cond, ◌&&◌, ◌||◌, true≢false, false≢true}
use Prim.Native.Nat.{ℕ, zero, suc, ◌+◌, ◌≤◌, ◌<◌}
use native.Mathlib.Omega.{arith}
use lib.ListN.{length, get_or}
use lib.Dec.{eqb}
use Rattle.gf2.specs.Equation.{Each, Above, Increasing, lists}
use Rattle.gf2.specs.NumberLists.{up_from, keep, first_of, Distinct}
use Rattle.gf2.proofs.Tests.{eqb_same, eqb_ne}
use Rattle.gf2.proofs.Members.{Same, eq, ne, same?, or_r, and_true, head_listed, tail_listed}

-- ---- selection

pub lists_keep : (p : ℕ → Bool) (v : ℕ) (l : List ℕ) → lists v (keep p l) ≡ (p v && lists v l)
unfolding lists keep
lists_keep p v [] = and_false (p v)
  where
    and_false : (b : Bool) → false ≡ (b && false)
    and_false true = refl
    and_false false = refl
lists_keep p v (u ∷ us) = go (p u) refl (same? v u) (lists_keep p v us)
  where
    go : (b : Bool) → p u ≡ b → Same v u → lists v (keep p us) ≡ (p v && lists v us)
        → lists v (cond b (u ∷ keep p us) (keep p us)) ≡ (p v && (eqb v u || lists v us))
    go true e (eq r t) ih = rw (t, r, e)
    go true e (ne r t) ih = rw t ih
    go false e (eq r t) ih = rw (t, ih, r, e)
    go false e (ne r t) ih = rw (t, ih)

pub distinct_keep : (p : ℕ → Bool) (l : List ℕ) → Distinct l → Distinct (keep p l)
unfolding keep
distinct_keep p [] h = tt
distinct_keep p (u ∷ us) h = go (p u) (distinct_keep p us h.1)
  where
    drop_false : (b c : Bool) → c ≡ false → (b && c) ≡ false
    drop_false true c e = e
    drop_false false c e = refl

    go : (b : Bool) → Distinct (keep p us) → Distinct (cond b (u ∷ keep p us) (keep p us))
    go true ih = (lists_keep p u us ∙ drop_false (p u) (lists u us) h.0, ih)
    go false ih = ih

above_up : (v k n : ℕ) → v < k → Above v (up_from k n)
unfolding up_from
above_up v k zero h = tt
above_up v k (suc n) h = (h, above_up v (suc k) n (omega arith))

pub increasing_up : (k n : ℕ) → Increasing (up_from k n)
unfolding up_from
increasing_up k zero = tt
increasing_up k (suc n) = (above_up k (suc k) n (omega arith), increasing_up (suc k) n)

pub lists_up : (v k n : ℕ) → k ≤ v → v < k + n → lists v (up_from k n) ≡ true
unfolding lists up_from
lists_up v k zero h l = absurd (omega arith)
lists_up v k (suc n) h l = go (same? v k) (lists_up v (suc k) n)
  where
    go : Same v k → (suc k ≤ v → v < suc k + n → lists v (up_from (suc k) n) ≡ true) → (eqb v k || lists v (up_from (suc k) n)) ≡ true
    go (eq r t) ih = rw t
    go (ne r t) ih = rw t (ih (omega arith) (omega arith))

pub up_below : (v k n : ℕ) → lists v (up_from k n) ≡ true → v < k + n
unfolding lists up_from
up_below v k zero h = absurd (false≢true h)
up_below v k (suc n) h = go (same? v k) (up_below v (suc k) n)
  where
    go : Same v k → (lists v (up_from (suc k) n) ≡ true → v < suc k + n) → v < k + suc n
    go (eq r t) ih = omega arith
    go (ne r t) ih = let l : v < suc k + n = ih (rw t at h) in omega arith

-- the first that passes passes, and is in the list
pub first_of_true : (p : ℕ → Bool) (v : ℕ) (l : List ℕ) → lists v l ≡ true → p v ≡ true → (p (first_of p l) ≡ true) × (lists (first_of p l) l ≡ true)
unfolding lists first_of
first_of_true p v [] h q = absurd (false≢true h)
first_of_true p v (u ∷ us) h q = go (p u) refl (same? v u) (first_of_true p v us)
  where
    go : (b : Bool) → p u ≡ b → Same v u → (lists v us ≡ true → p v ≡ true → (p (first_of p us) ≡ true) × (lists (first_of p us) us ≡ true))
        → (p (cond b u (first_of p us)) ≡ true) × ((eqb (cond b u (first_of p us)) u || lists (cond b u (first_of p us)) us) ≡ true)
    go true e s ih = (e, ap (λ t. t || lists u us) (eqb_same u))
    go false e (eq r t) ih = absurd (false≢true (sym e ∙ ap p (sym r) ∙ q))
    go false e (ne r t) ih = let k = ih (rw t at h) q in (k.0, or_r (eqb (first_of p us) u) k.1)

-- what holds of each of the list holds of each that is kept
pub each_keep : (Q : ℕ → Type 0) (p : ℕ → Bool) (l : List ℕ) → Each Q l → Each Q (keep p l)
unfolding keep
each_keep Q p [] h = tt
each_keep Q p (v ∷ vs) h = go (p v) (each_keep Q p vs h.1)
  where
    go : (b : Bool) → Each Q (keep p vs) → Each Q (cond b (v ∷ keep p vs) (keep p vs))
    go true ih = (h.0, ih)
    go false ih = ih

pub increasing_keep : (p : ℕ → Bool) (l : List ℕ) → Increasing l → Increasing (keep p l)
unfolding keep
increasing_keep p [] h = tt
increasing_keep p (v ∷ vs) h = go (p v) (increasing_keep p vs h.1)
  where
    go : (b : Bool) → Increasing (keep p vs) → Increasing (cond b (v ∷ keep p vs) (keep p vs))
    go true ih = (each_keep (λ u. v < u) p vs h.0, ih)
    go false ih = ih

pub keep_same : (p q : ℕ → Bool) (l : List ℕ) → ((v : ℕ) → lists v l ≡ true → p v ≡ q v) → keep p l ≡ keep q l
unfolding keep lists
keep_same p q [] h = refl
keep_same p q (v ∷ vs) h = rw (h v (head_listed v vs), keep_same p q vs (λ u k. h u (tail_listed u v vs k)))

pub length-keep : (p : ℕ → Bool) (l : List ℕ) → length (keep p l) ≤ length l
unfolding keep
length-keep p [] = omega arith
length-keep p (v ∷ vs) = go (p v) (length-keep p vs)
  where
    go : (b : Bool) → length (keep p vs) ≤ length vs → length (cond b (v ∷ keep p vs) (keep p vs)) ≤ suc (length vs)
    go true h = omega arith
    go false h = omega arith

pub length_zero : (l : List ℕ) (v : ℕ) → length l ≡ 0 → lists v l ≡ false
unfolding lists
length_zero [] v h = refl
length_zero (x ∷ xs) v h = absurd (omega arith)

pub length_up : (k n : ℕ) → length (up_from k n) ≡ n
unfolding up_from
length_up k zero = refl
length_up k (suc n) = ap suc (length_up (suc k) n)

pub get_or-map_up : (f : ℕ → ℕ) (k n i : ℕ) → i < n → get_or (map f (up_from k n)) i 0 ≡ f (k + i)
unfolding up_from
get_or-map_up f k zero i h = absurd (omega arith)
get_or-map_up f k (suc n) zero h = ap f (omega arith)
get_or-map_up f k (suc n) (suc i) h = get_or-map_up f (suc k) n i (omega arith) ∙ ap f (omega arith)

-- ---- how long a distinct list is

-- a number that is not listed takes nothing away
keep_all : (w : ℕ) (l : List ℕ) → lists w l ≡ false → length (keep (λ v. not (eqb v w)) l) ≡ length l
unfolding keep lists
keep_all w [] h = refl
keep_all w (u ∷ us) h = go (same? w u) (keep_all w us)
  where
    go : Same w u → (lists w us ≡ false → length (keep (λ v. not (eqb v w)) us) ≡ length us)
        → length (cond (not (eqb u w)) (u ∷ keep (λ v. not (eqb v w)) us) (keep (λ v. not (eqb v w)) us)) ≡ suc (length us)
    go (eq r t) ih = absurd (true≢false (rw t at h))
    go (ne r t) ih = rw (eqb_ne u w (λ p. r (sym p))) (ap suc (ih (rw t at h)))

-- without one number a distinct list is at most one shorter
without : (w : ℕ) (l : List ℕ) → Distinct l → length l ≤ suc (length (keep (λ v. not (eqb v w)) l))
unfolding keep
without w [] d = omega arith
without w (v ∷ vs) d = go (same? v w) (without w vs d.1)
  where
    go : Same v w → length vs ≤ suc (length (keep (λ v. not (eqb v w)) vs))
        → suc (length vs) ≤ suc (length (cond (not (eqb v w)) (v ∷ keep (λ v. not (eqb v w)) vs) (keep (λ v. not (eqb v w)) vs)))
    go (eq r t) ih = rw t (let k = keep_all w vs (subst (λ x. lists x vs ≡ false) r d.0) in let z : suc (length vs) ≤ suc (length (keep (λ v. not (eqb v w)) vs)) = omega arith in z)
    go (ne r t) ih = rw t (let z : suc (length vs) ≤ suc (suc (length (keep (λ v. not (eqb v w)) vs))) = omega arith in z)

-- a distinct list of numbers below m has at most m
pub distinct_room : (m : ℕ) (l : List ℕ) → Distinct l → ((v : ℕ) → lists v l ≡ true → v < m) → length l ≤ m
distinct_room zero [] d h = omega arith
distinct_room zero (v ∷ vs) d h = let k = h v (head_listed v vs) in absurd (omega arith)
distinct_room (suc m) l d h =
    let a = without m l d in
    let b = distinct_room m (keep (λ v. not (eqb v m)) l) (distinct_keep (λ v. not (eqb v m)) l d) (λ v k. go v k) in
    omega arith
  where
    go : (v : ℕ) → lists v (keep (λ v. not (eqb v m)) l) ≡ true → v < m
    go v k =
        let p = and_true (not (eqb v m)) (lists v l) (sym (lists_keep (λ v. not (eqb v m)) v l) ∙ k) in
        let b = h v p.1 in
        let n : v ≢ m = λ e. true≢false (sym p.0 ∙ ap (λ x. not (eqb x m)) e ∙ rw (eqb_same m)) in
        omega arith
