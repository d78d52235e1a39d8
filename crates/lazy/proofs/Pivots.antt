-- The facts of one pop: which equations list a variable, what is free, what is solved, and the rows after a solved equation is added into others.
use mathlib.Core.Path.{◌≡◌, refl, sym, ap, ap₂, ◌∙◌}
use mathlib.Core.Logic.{◌≢◌}
use mathlib.Core.List.{List, [], ◌∷◌, ◌++◌, map}
use mathlib.Core.Bool.{Bool, true, false, not, cond, ◌&&◌, ◌||◌, true≢false, false≢true}
use Prim.Native.Nat.{ℕ, zero, suc, ◌<◌}
use native.Mathlib.Omega.{arith}
use native.Mathlib.Decide.{dec_lt}
use lib.ListN.{length, get_or, set, get_or-eq_default, length-set}
use lib.Seq.{get_or-set_same, get_or-set_other}
use lib.Dec.{eqb}
use Rattle.gf2.specs.ByNumber.{row_of, lists_at, blank}
use Rattle.gf2.specs.Equation.{Equation, lists, sum}
use Rattle.gf2.specs.NumberLists.{up_from, pos, Distinct}
use Rattle.lazy.specs.Invariant.{free, is_solved, solves}
use Rattle.lazy.specs.Lazy.{Solved, listing, others, added_into}
use Rattle.gf2.proofs.Members.{Same, eq, ne, same?, or_assoc, or_false, or_r, and_true, increasing_distinct, head_listed, tail_listed}
use Rattle.gf2.proofs.Selecting.{lists_keep, distinct_keep, increasing_up, lists_up}
use Rattle.gf2.proofs.Tests.{not_true→false, eqb_same, eqb_ne}

-- ---- which equations list v

pub lists_at_below : (sys : List Equation) (v e : ℕ) → lists_at sys v e ≡ true → e < length sys
unfolding lists
lists_at_below sys v e h = go (dec_lt e (length sys))
  where
    go : Dec (e < length sys) → e < length sys
    go (yes k) = k
    go (no k) = absurd (false≢true (sym (ap (λ (r : Equation). lists v r.vars) (get_or-eq_default sys blank {n = e} (omega arith))) ∙ h))

pub lists_listing : (sys : List Equation) (v e : ℕ) → lists e (listing sys v) ≡ lists_at sys v e
unfolding listing
lists_listing sys v e = lists_keep (lists_at sys v) e (up_from 0 (length sys)) ∙ go (lists_at sys v e) refl
  where
    go : (b : Bool) → lists_at sys v e ≡ b → (b && lists e (up_from 0 (length sys))) ≡ b
    go true h = lists_up e 0 (length sys) (omega arith) (let k = lists_at_below sys v e h in omega arith)
    go false h = refl

pub distinct_listing : (sys : List Equation) (v : ℕ) → Distinct (listing sys v)
unfolding listing
distinct_listing sys v = distinct_keep (lists_at sys v) (up_from 0 (length sys)) (increasing_distinct (up_from 0 (length sys)) (increasing_up 0 (length sys)))

pub lists_others : (sys : List Equation) (v e f : ℕ) → lists f (others sys v e) ≡ (not (eqb f e) && lists_at sys v f)
unfolding others
lists_others sys v e f = lists_keep (λ g. not (eqb g e)) f (listing sys v) ∙ ap (λ b. not (eqb f e) && b) (lists_listing sys v f)

pub distinct_others : (sys : List Equation) (v e : ℕ) → Distinct (others sys v e)
unfolding others
distinct_others sys v e = distinct_keep (λ g. not (eqb g e)) (listing sys v) (distinct_listing sys v)

-- ---- set to the default

pub get_or-set_default : {A : Type 0} (l : List A) (i : ℕ) (d : A) → get_or (set l i d) i d ≡ d
get_or-set_default [] i d = refl
get_or-set_default (x ∷ xs) zero d = refl
get_or-set_default (x ∷ xs) (suc i) d = get_or-set_default xs i d

-- ---- what is free

pub free_idle : (idle : List Bool) (weight : List ℕ) (v : ℕ) → free idle weight v ≡ true → get_or idle v false ≡ true
unfolding free
free_idle idle weight v h = (and_true (get_or idle v false) (pos (get_or weight v 0)) h).0

pub free_weight : (idle : List Bool) (weight : List ℕ) (v : ℕ) → free idle weight v ≡ true → get_or weight v 0 ≢ 0
unfolding free pos
free_weight idle weight v h e = false≢true (sym (ap pos e) ∙ (and_true (get_or idle v false) (pos (get_or weight v 0)) h).1)

pub is_free : (idle : List Bool) (weight : List ℕ) (v : ℕ) → get_or idle v false ≡ true → get_or weight v 0 ≢ 0 → free idle weight v ≡ true
unfolding free pos
is_free idle weight v h k = rw h (go (get_or weight v 0) k)
  where
    go : (w : ℕ) → w ≢ 0 → pos w ≡ true
    go zero k = absurd (k refl)
    go (suc w) k = refl

pub activated : (idle : List Bool) (weight : List ℕ) (v : ℕ) → free (set idle v false) weight v ≡ false
unfolding free
activated idle weight v = rw (get_or-set_default idle v false)

pub activated_other : (idle : List Bool) (weight : List ℕ) (v u : ℕ) → u ≢ v → free (set idle v false) weight u ≡ free idle weight u
unfolding free
activated_other idle weight v u h = rw (get_or-set_other idle v u false false h)

pub weight_zero : (idle : List Bool) (weight : List ℕ) (v : ℕ) → get_or weight v 0 ≡ 0 → free idle weight v ≡ false
weight_zero idle weight v z = not_true→false (free idle weight v) (λ h. free_weight idle weight v h z)

pub weightless : (idle : List Bool) (weight : List ℕ) (v : ℕ) → free idle (set weight v 0) v ≡ false
unfolding free pos
weightless idle weight v = rw (get_or-set_default weight v 0) (go (get_or idle v false))
  where
    go : (b : Bool) → (b && false) ≡ false
    go true = refl
    go false = refl

pub weightless_other : (idle : List Bool) (weight : List ℕ) (v u : ℕ) → u ≢ v → free idle (set weight v 0) u ≡ free idle weight u
unfolding free
weightless_other idle weight v u h = rw (get_or-set_other weight v u 0 0 h)

-- ---- what is solved

pub solves_solved : (ds : List Solved) (e v : ℕ) → solves ds e v ≡ true → is_solved ds e ≡ true
unfolding solves is_solved
solves_solved [] e v h = absurd (false≢true h)
solves_solved (d ∷ ds) e v h = go (eqb e d.equation) refl (solves_solved ds e v)
  where
    go : (b : Bool) → eqb e d.equation ≡ b → (solves ds e v ≡ true → is_solved ds e ≡ true) → (b || is_solved ds e) ≡ true
    go true t ih = refl
    go false t ih = ih (rw t at h)

pub solves_snoc : (ds : List Solved) (d : Solved) (e v : ℕ) → solves (ds ++ (d ∷ [])) e v ≡ (solves ds e v || (eqb e d.equation && eqb v d.pivot))
unfolding solves
solves_snoc [] d e v = or_f (eqb e d.equation && eqb v d.pivot)
  where
    or_f : (b : Bool) → (b || false) ≡ b
    or_f true = refl
    or_f false = refl
solves_snoc (c ∷ ds) d e v =
    ap (λ b. (eqb e c.equation && eqb v c.pivot) || b) (solves_snoc ds d e v)
    ∙ or_assoc (eqb e c.equation && eqb v c.pivot) (solves ds e v) (eqb e d.equation && eqb v d.pivot)

-- a pivot has an equation
pub pivot_solves : (ds : List Solved) (v : ℕ) → lists v (map (λ d. d.pivot) ds) ≡ true → (e : ℕ) × (solves ds e v ≡ true)
unfolding solves lists
pivot_solves [] v h = absurd (false≢true h)
pivot_solves (d ∷ ds) v h = go (same? v d.pivot) (pivot_solves ds v)
  where
    go : Same v d.pivot → (lists v (map (λ c. c.pivot) ds) ≡ true → (e : ℕ) × (solves ds e v ≡ true))
        → (e : ℕ) × (((eqb e d.equation && eqb v d.pivot) || solves ds e v) ≡ true)
    go (eq r t) ih = (d.equation, rw (eqb_same d.equation, t))
    go (ne r t) ih = let k = ih (rw t at h) in (k.0, or_r (eqb k.0 d.equation && eqb v d.pivot) k.1)

pub distinct_pivots : (ds : List Solved) (d : Solved) → Distinct (map (λ c. c.pivot) ds) → lists d.pivot (map (λ c. c.pivot) ds) ≡ false
    → Distinct (map (λ c. c.pivot) (ds ++ (d ∷ [])))
unfolding lists
distinct_pivots [] d h k = (refl, tt)
distinct_pivots (c ∷ ds) d h k = (
  snoc ds ∙ ap₂ ◌||◌ h.0 (eqb_ne c.pivot d.pivot (λ p. true≢false (sym (ap (eqb d.pivot) p ∙ eqb_same d.pivot) ∙ (or_false _ _ k).0))),
  distinct_pivots ds d h.1 (or_false (eqb d.pivot c.pivot) (lists d.pivot (map (λ c. c.pivot) ds)) k).1,
)
  where
    or_f : (b : Bool) → (b || false) ≡ b
    or_f true = refl
    or_f false = refl

    snoc : (l : List Solved) → lists c.pivot (map (λ c. c.pivot) (l ++ (d ∷ []))) ≡ (lists c.pivot (map (λ c. c.pivot) l) || eqb c.pivot d.pivot)
    snoc [] = or_f (eqb c.pivot d.pivot)
    snoc (b ∷ l) = ap (λ t. eqb c.pivot b.pivot || t) (snoc l) ∙ or_assoc (eqb c.pivot b.pivot) (lists c.pivot (map (λ c. c.pivot) l)) (eqb c.pivot d.pivot)

-- ---- the rows after a solved equation is added into others

pub length-added_into : (es : List ℕ) (e : ℕ) (rows : List Equation) → length (added_into es e rows) ≡ length rows
unfolding added_into
length-added_into [] e rows = refl
length-added_into (f ∷ fs) e rows = length-added_into fs e (set rows f (sum (row_of rows f) (row_of rows e))) ∙ simp length-set

pub added_into_at : (es : List ℕ) (e : ℕ) (rows : List Equation) (f : ℕ) → Distinct es → lists e es ≡ false
    → ((g : ℕ) → lists g es ≡ true → g < length rows)
    → row_of (added_into es e rows) f ≡ cond (lists f es) (sum (row_of rows f) (row_of rows e)) (row_of rows f)
unfolding added_into lists
added_into_at [] e rows f h k b = refl
added_into_at (g ∷ gs) e rows f h k b =
    go (same? f g) (added_into_at gs e rows' f h.1 (or_false (eqb e g) (lists e gs) k).1
    (λ j q. rw (length-set rows g (sum (row_of rows g) (row_of rows e))) (b j (tail_listed j g gs q))))
  where
    rows' : List Equation
    rows' = set rows g (sum (row_of rows g) (row_of rows e))

    e_same : row_of rows' e ≡ row_of rows e
    e_same = get_or-set_other rows g e (sum (row_of rows g) (row_of rows e)) blank
        (λ p. true≢false (sym (ap (λ x. eqb x g) p ∙ eqb_same g) ∙ (or_false (eqb e g) (lists e gs) k).0))

    go : Same f g → row_of (added_into gs e rows') f ≡ cond (lists f gs) (sum (row_of rows' f) (row_of rows' e)) (row_of rows' f)
        → row_of (added_into gs e rows') f ≡ cond (eqb f g || lists f gs) (sum (row_of rows f) (row_of rows e)) (row_of rows f)
    go (eq r t) ih = rw (ih, t, r, h.0) (get_or-set_same rows g (sum (row_of rows g) (row_of rows e)) blank (b g (head_listed g gs)))
    go (ne r t) ih = rw (ih, e_same, t, get_or-set_other rows g f (sum (row_of rows g) (row_of rows e)) blank r)
