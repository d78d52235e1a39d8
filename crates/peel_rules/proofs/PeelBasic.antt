-- Degrees, the edge found at a vertex, and the list without it.
use mathlib.Core.Path.{◌≡◌, refl, sym}
use mathlib.Core.List.{List, [], ◌∷◌}
use mathlib.Core.Bool.{Bool, true, false, cond, ◌||◌}
use mathlib.Core.Option.{Option, none, some}
use Prim.Native.Nat.{ℕ, zero, suc, ◌≤◌}
use native.Mathlib.Omega.{arith}
use lib.Dec.{eqb}
use borrow.Author.Tests.{eqb-true, eq-eqb}
use Rattle.peel_rules.specs.Peel.{Peeled, State, popped, pop, step, run}
use Rattle.gf2.specs.Equation.{Each}
use Rattle.peel_rules.specs.Edges.{touches, bump, degree, edge_at, without, Side, side0, side1, side2, side_of, pivot, first, second}
use Rattle.peeling.specs.declared.numbers.Edge.{Edge}

pub bump_comm : (s t : Bool) (k : ℕ) → bump s (bump t k) ≡ bump t (bump s k)
bump_comm true true k = refl
bump_comm true false k = refl
bump_comm false true k = refl
bump_comm false false k = refl

pub bump_le : (t : Bool) (k : ℕ) → k ≤ bump t k
bump_le true k = omega arith
bump_le false k = omega arith

-- ---- sides
pub pivot_of_lem : (v : ℕ) (e : Edge) → touches v e ≡ true → pivot (side_of v e) e ≡ v
unfolding touches side_of pivot
pivot_of_lem v e h = go (eqb v e.a.0) refl (eqb v e.b.0) refl h
  where
    go : (p : Bool) → eqb v e.a.0 ≡ p → (q : Bool) → eqb v e.b.0 ≡ q → (p || (q || eqb v e.c.0)) ≡ true → pivot (cond p side0 (cond q side1 side2)) e ≡ v
    go true hp q hq t = sym (eqb-true v e.a.0 hp)
    go false hp true hq t = sym (eqb-true v e.b.0 hq)
    go false hp false hq t = sym (eqb-true v e.c.0 t)

or_r : (p : Bool) {q : Bool} → q ≡ true → (p || q) ≡ true
or_r true h = refl
or_r false h = h

pub touches_a : (e : Edge) → touches e.a.0 e ≡ true
unfolding touches
touches_a e = rw (eq-eqb e.a.0 e.a.0 refl)

pub touches_b : (e : Edge) → touches e.b.0 e ≡ true
unfolding touches
touches_b e = or_r (eqb e.b.0 e.a.0) (rw (eq-eqb e.b.0 e.b.0 refl))

pub touches_c : (e : Edge) → touches e.c.0 e ≡ true
unfolding touches
touches_c e = or_r (eqb e.c.0 e.a.0) (or_r (eqb e.c.0 e.b.0) (eq-eqb e.c.0 e.c.0 refl))

pub touches_first : (s : Side) (e : Edge) → touches (first s e) e ≡ true
unfolding first
touches_first side0 e = touches_b e
touches_first side1 e = touches_a e
touches_first side2 e = touches_a e

pub touches_second : (s : Side) (e : Edge) → touches (second s e) e ≡ true
unfolding second
touches_second side0 e = touches_c e
touches_second side1 e = touches_c e
touches_second side2 e = touches_b e

-- ---- the edge at a vertex
pub at_touches : (v : ℕ) (es : List Edge) {e : Edge} → edge_at v es ≡ some e → touches v e ≡ true
unfolding edge_at
at_touches v [] h = cc
at_touches v (d ∷ es) {e} h = go (touches v d) refl (at_touches v es) h
  where
    go : (t : Bool) → touches v d ≡ t → (edge_at v es ≡ some e → touches v e ≡ true) → cond t (some d) (edge_at v es) ≡ some e → touches v e ≡ true
    go true q ih g = let s : d ≡ e = cc in rw (← s) q
    go false q ih g = ih g

-- the degrees before the removal, by the degrees after it
pub degree_split : (v : ℕ) (es : List Edge) {e : Edge} → edge_at v es ≡ some e → (w : ℕ) → degree w es ≡ bump (touches w e) (degree w (without v es))
unfolding edge_at without degree
degree_split v [] h w = cc
degree_split v (d ∷ es) {e} h w = go (touches v d) (λ g. degree_split v es g w) h
  where
    go : (t : Bool) → (edge_at v es ≡ some e → degree w es ≡ bump (touches w e) (degree w (without v es)))
        → cond t (some d) (edge_at v es) ≡ some e → bump (touches w d) (degree w es) ≡ bump (touches w e) (degree w (cond t es (d ∷ without v es)))
    go true ih g = let s : d ≡ e = cc in rw s
    go false ih g = rw (ih g) (bump_comm (touches w d) (touches w e) (degree w (without v es)))

pub at_none : (v : ℕ) (es : List Edge) → edge_at v es ≡ none → degree v es ≡ 0
unfolding edge_at degree
at_none v [] h = refl
at_none v (d ∷ es) h = go (touches v d) (at_none v es) h
  where
    go : (t : Bool) → (edge_at v es ≡ none → degree v es ≡ 0) → cond t (some d) (edge_at v es) ≡ none → bump t (degree v es) ≡ 0
    go true ih g = cc
    go false ih g = ih g

-- ---- a statement about each edge
module _ (Q : Edge → Type 0) where
  pub all_at : (v : ℕ) (es : List Edge) {e : Edge} → edge_at v es ≡ some e → Each Q es → Q e
  unfolding edge_at
  all_at v [] h q = absurd cc
  all_at v (d ∷ es) {e} h q = go (touches v d) (all_at v es) h
    where
      go : (t : Bool) → (edge_at v es ≡ some e → Each Q es → Q e) → cond t (some d) (edge_at v es) ≡ some e → Q e
      go true ih g = let s : d ≡ e = cc in rw (← s) q.0
      go false ih g = ih g q.1

  pub all_without : (v : ℕ) (es : List Edge) → Each Q es → Each Q (without v es)
  unfolding without
  all_without v [] q = tt
  all_without v (d ∷ es) q = go (touches v d) (all_without v es q.1)
    where
      go : (t : Bool) → Each Q (without v es) → Each Q (cond t es (d ∷ without v es))
      go true r = q.1
      go false r = (q.0, r)

  pub all_back : (v : ℕ) (es : List Edge) {e : Edge} → edge_at v es ≡ some e → Q e → Each Q (without v es) → Each Q es
  unfolding edge_at without
  all_back v [] h q r = tt
  all_back v (d ∷ es) {e} h q r = go (touches v d) (all_back v es) h r
    where
      go : (t : Bool) → (edge_at v es ≡ some e → Q e → Each Q (without v es) → Each Q es)
          → cond t (some d) (edge_at v es) ≡ some e → Each Q (cond t es (d ∷ without v es)) → Q d × Each Q es
      go true ih g r = (let s : d ≡ e = cc in rw s q, r)
      go false ih g r = (r.0, ih g q r.1)

-- ---- the run: what a step keeps, by its two cases
pub step-inv {ℓ} : (I : State → Type ℓ)
    → ((es : List Edge) (v : ℕ) (st : List ℕ) (ps : List Peeled) → edge_at v es ≡ none
    → I (record { left = es; stack = v ∷ st; peeled = ps }) → I (record { left = es; stack = st; peeled = ps }))
    → ((es : List Edge) (v : ℕ) (st : List ℕ) (ps : List Peeled) (e : Edge) → edge_at v es ≡ some e
    → I (record { left = es; stack = v ∷ st; peeled = ps }) → I (popped v es st ps (some e)))
    → (s : State) → I s → I (step s)
unfolding step popped pop
step-inv I skip takes s i = go s.left s.stack s.peeled i
  where
    pick : (es : List Edge) (v : ℕ) (st : List ℕ) (ps : List Peeled) (o : Option Edge) → edge_at v es ≡ o
        → I (record { left = es; stack = v ∷ st; peeled = ps }) → I (popped v es st ps o)
    pick es v st ps none h j = skip es v st ps h j
    pick es v st ps (some e) h j = takes es v st ps e h j

    go : (es : List Edge) (st : List ℕ) (ps : List Peeled) → I (record { left = es; stack = st; peeled = ps }) → I (pop es st ps)
    go es [] ps j = j
    go es (v ∷ st) ps j = pick es v st ps (edge_at v es) refl j

pub run-inv {ℓ} : (I : State → Type ℓ) → ((s : State) → I s → I (step s)) → (k : ℕ) (s : State) → I s → I (run k s)
unfolding run
run-inv I f zero s i = i
run-inv I f (suc k) s i = run-inv I f k (step s) (f s i)
