-- How many of a list pass a test.
use mathlib.Core.Path.{◌≡◌, refl, sym, ap, ap₂, ◌∙◌, subst}
use mathlib.Core.Logic.{◌≢◌}
use mathlib.Core.List.{List, [], ◌∷◌}
use mathlib.Core.Bool.{Bool, true, false, not, cond, ◌&&◌, ◌||◌, true≢false, false≢true}
use Prim.Native.Nat.{ℕ, ◌+◌, ◌≤◌, ◌<◌}
use native.Mathlib.Omega.{arith}
use lib.ListN.{length}
use lib.Dec.{eqb}
use Rattle.gf2.specs.Equation.{lists}
use Rattle.gf2.specs.NumberLists.{keep, one, count, Distinct}
use Rattle.gf2.proofs.Tests.{eqb_same, eqb_ne}
use Rattle.gf2.proofs.Members.{Same, eq, ne, same?, or_r, head_listed, tail_listed}
use Rattle.gf2.proofs.Selecting.{lists_keep, distinct_keep}

-- one test passes v, the other does not, and they agree elsewhere
pub count-drop : (p q : ℕ → Bool) (v : ℕ) → p v ≡ true → q v ≡ false → ((u : ℕ) → u ≢ v → q u ≡ p u)
    → (l : List ℕ) → Distinct l → count p l ≡ one (lists v l) + count q l
unfolding count lists one
count-drop p q v pv qv same [] h = refl
count-drop p q v pv qv same (u ∷ us) h = go (same? v u) (count-drop p q v pv qv same us h.1)
  where
    go : Same v u → count p us ≡ one (lists v us) + count q us
        → one (p u) + count p us ≡ one (eqb v u || lists v us) + (one (q u) + count q us)
    go (eq r t) ih = rw (t, ← r, pv, qv, ih, r, h.0) (omega arith)
    go (ne r t) ih = rw (t, same u (λ e. r (sym e)), ih) (omega arith)

-- two tests that agree on the list
pub count_same : (p q : ℕ → Bool) (l : List ℕ) → ((u : ℕ) → lists u l ≡ true → q u ≡ p u) → count p l ≡ count q l
unfolding count lists
count_same p q [] h = refl
count_same p q (u ∷ us) h =
    ap₂ (λ a b. one a + b) (sym (h u (ap (λ t. t || lists u us) (eqb_same u)))) (count_same p q us (λ w k. h w (or_r (eqb w u) k)))

-- a count that is not 0 has a witness
pub count_some : (p : ℕ → Bool) (l : List ℕ) → 0 < count p l → (v : ℕ) × (p v ≡ true) × (lists v l ≡ true)
unfolding count lists one
count_some p [] h = absurd (omega arith)
count_some p (u ∷ us) h = go (p u) refl (count_some p us)
  where
    go : (b : Bool) → p u ≡ b → (0 < count p us → (v : ℕ) × (p v ≡ true) × (lists v us ≡ true))
        → (v : ℕ) × (p v ≡ true) × ((eqb v u || lists v us) ≡ true)
    go true e ih = (u, e, ap (λ t. t || lists u us) (eqb_same u))
    go false e ih =
        let k = ih (omega (arith, rw e at h)) in
        (k.0, k.1, or_r (eqb k.0 u) k.2)

pub count_one : (p : ℕ → Bool) (v : ℕ) (l : List ℕ) → p v ≡ true → lists v l ≡ true → 0 < count p l
unfolding count lists one
count_one p v [] e h = absurd (false≢true h)
count_one p v (u ∷ us) e h = go (same? v u) (count_one p v us e)
  where
    go : Same v u → (lists v us ≡ true → 0 < count p us) → 0 < one (p u) + count p us
    go (eq r t) ih = rw (← r, e) (omega arith)
    go (ne r t) ih = let k : 0 < count p us = ih (rw t at h) in omega arith

pub count_all : (p : ℕ → Bool) (l : List ℕ) → ((v : ℕ) → lists v l ≡ true → p v ≡ true) → count p l ≡ length l
unfolding count one
count_all p [] h = refl
count_all p (v ∷ vs) h =
    let ih = count_all p vs (λ u k. h u (tail_listed u v vs k)) in
    rw (h v (head_listed v vs)) (omega arith)

pub count_mono : (p q : ℕ → Bool) (l : List ℕ) → ((v : ℕ) → lists v l ≡ true → p v ≡ true → q v ≡ true) → count p l ≤ count q l
unfolding count one
count_mono p q [] h = omega arith
count_mono p q (v ∷ vs) h = go (p v) refl (count_mono p q vs (λ u k. h u (tail_listed u v vs k)))
  where
    go : (b : Bool) → p v ≡ b → count p vs ≤ count q vs → one b + count p vs ≤ one (q v) + count q vs
    go true e ih = rw (h v (head_listed v vs) e) (omega arith)
    go false e ih = omega arith

-- ---- a count depends on what is listed, not on the order

all_kept : (p : ℕ → Bool) (v : ℕ) (l : List ℕ) → lists v l ≡ false → count p (keep (λ u. not (eqb u v)) l) ≡ count p l
unfolding count keep lists
all_kept p v [] k = refl
all_kept p v (w ∷ ws) k = by (same? v w) (all_kept p v ws)
  where
    by : Same v w → (lists v ws ≡ false → count p (keep (λ u. not (eqb u v)) ws) ≡ count p ws)
        → count p (cond (not (eqb w v)) (w ∷ keep (λ u. not (eqb u v)) ws) (keep (λ u. not (eqb u v)) ws)) ≡ one (p w) + count p ws
    by (eq r t) ih = absurd (true≢false (rw t at k))
    by (ne r t) ih = rw (eqb_ne w v (λ e. r (sym e))) (ap (λ x. one (p w) + x) (ih (rw t at k)))

count_remove : (p : ℕ → Bool) (v : ℕ) (l : List ℕ) → Distinct l → lists v l ≡ true → count p l ≡ one (p v) + count p (keep (λ u. not (eqb u v)) l)
unfolding count keep lists
count_remove p v [] d h = absurd (false≢true h)
count_remove p v (u ∷ us) d h = go (same? u v) (count_remove p v us d.1)
  where
    go : Same u v → (lists v us ≡ true → count p us ≡ one (p v) + count p (keep (λ u. not (eqb u v)) us))
        → one (p u) + count p us ≡ one (p v) + count p (cond (not (eqb u v)) (u ∷ keep (λ u. not (eqb u v)) us) (keep (λ u. not (eqb u v)) us))
    go (eq r t) ih = rw (t, all_kept p v us (subst (λ x. lists x us ≡ false) r d.0), r)
    go (ne r t) ih =
        let k = ih (tail (same? v u)) in
        rw t (let z : one (p u) + count p us ≡ one (p v) + (one (p u) + count p (keep (λ u. not (eqb u v)) us)) = omega arith in z)
      where
        tail : Same v u → lists v us ≡ true
        tail (eq q c) = absurd (r (sym q))
        tail (ne q c) = rw c at h

pub count_permuted : (p : ℕ → Bool) (a b : List ℕ) → Distinct a → Distinct b → ((v : ℕ) → lists v a ≡ lists v b) → count p a ≡ count p b
unfolding count lists
count_permuted p [] [] da db h = refl
count_permuted p [] (v ∷ vs) da db h = absurd (false≢true (h v ∙ head_listed v vs))
count_permuted p (v ∷ vs) b da db h =
    ap (λ x. one (p v) + x) (count_permuted p vs (keep (λ u. not (eqb u v)) b) da.1 (distinct_keep (λ u. not (eqb u v)) b db) same)
    ∙ sym (count_remove p v b db (sym (h v) ∙ head_listed v vs))
  where
    same : (w : ℕ) → lists w vs ≡ lists w (keep (λ u. not (eqb u v)) b)
    same w = go (same? w v) ∙ sym (lists_keep (λ u. not (eqb u v)) w b)
      where
        go : Same w v → lists w vs ≡ (not (eqb w v) && lists w b)
        go (eq r t) = ap (λ x. lists x vs) r ∙ da.0 ∙ rw t
        go (ne r t) = let z : (eqb w v || lists w vs) ≡ lists w b = h w in rw t (rw t at z)
