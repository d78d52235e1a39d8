-- The stack is empty at the end: n pops are enough.
use mathlib.Core.Path.{◌≡◌, refl, sym, ap, ◌∙◌}
use mathlib.Core.List.{List, [], ◌∷◌}
use mathlib.Core.Bool.{Bool, true, false, cond}
use mathlib.Core.Option.{Option, none, some}
use mathlib.Core.Logic.{◌≢◌}
use Prim.Native.Nat.{ℕ, zero, suc, ◌+◌, ◌≤◌, ◌<◌}
use native.Mathlib.Omega.{arith}
use lib.ListN.{length}
use lib.Dec.{eqb}
use borrow.Author.Tests.{eqb-true, eqb-false, eq-eqb, ne_eqb}
use Rattle.peeling.specs.Graph.{Graph, degree_of}
use Rattle.peel_rules.specs.Peel.{Peeled, State, push, popped, pop, step, run, ones, start, peel}
use Rattle.peel_rules.proofs.PeelBasic.{touches_first, touches_second, all_at}
use Rattle.peel_rules.proofs.PeelSolved.{Inv, falls, falls_one, inv_step, start_inv}
use Rattle.std.proofs.lemmas.List.{nil_from_length}
use Rattle.gf2.specs.Equation.{Each}
use Rattle.peel_rules.specs.Edges.{Valid, touches, degree, edge_at, without, Side, side0, side1, side2, side_of, first, second}
use Rattle.peeling.specs.declared.numbers.Edge.{Edge}

-- ---- sums over the vertices below n
unfoldable pub sum_to : ℕ → (ℕ → ℕ) → ℕ
sum_to zero f = 0
sum_to (suc k) f = f k + sum_to k f

sum_mono : (n : ℕ) (f g : ℕ → ℕ) → ((w : ℕ) → f w ≤ g w) → sum_to n f ≤ sum_to n g
unfolding sum_to
sum_mono zero f g h = omega arith
sum_mono (suc k) f g h = omega (arith, h k, sum_mono k f g h)

sum_add : (n : ℕ) (f g : ℕ → ℕ) → sum_to n (λ w. f w + g w) ≡ sum_to n f + sum_to n g
unfolding sum_to
sum_add zero f g = omega arith
sum_add (suc k) f g = omega (arith, sum_add k f g)

-- k at v, and 0 elsewhere
spot : ℕ → ℕ → ℕ → ℕ
spot v k w = cond (eqb w v) k 0

spot_at : (v k : ℕ) → spot v k v ≡ k
unfolding spot
spot_at v k = rw (eq-eqb v v refl)

spot_off : (v k w : ℕ) → w ≢ v → spot v k w ≡ 0
unfolding spot
spot_off v k w h = rw (ne_eqb w v h)

sum_spot : (n v k : ℕ) → v < n → k ≤ sum_to n (spot v k)
unfolding sum_to
sum_spot zero v k h = absurd (omega arith)
sum_spot (suc m) v k h = go (eqb m v) refl (sum_spot m v k)
  where
    go : (b : Bool) → eqb m v ≡ b → (v < m → k ≤ sum_to m (spot v k)) → k ≤ spot v k m + sum_to m (spot v k)
    go true q ih = omega (arith, ap (spot v k) (eqb-true m v q) ∙ spot_at v k)
    go false q ih = let ne : m ≢ v = eqb-false m v q in omega (arith, ih (omega arith))

-- ---- vertices of degree 2 or more
unfoldable pub heavy : ℕ → ℕ
heavy zero = 0
heavy (suc zero) = 0
heavy (suc (suc d)) = 1

two : ℕ → ℕ
two d = cond (eqb d 2) 1 0

heavy_mono : (d f : ℕ) → d ≤ f → heavy d ≤ heavy f
unfolding heavy
heavy_mono zero f h = omega arith
heavy_mono (suc zero) f h = omega arith
heavy_mono (suc (suc d)) zero h = absurd (omega arith)
heavy_mono (suc (suc d)) (suc zero) h = absurd (omega arith)
heavy_mono (suc (suc d)) (suc (suc f)) h = omega arith

-- a vertex that falls from 2 is heavy no more
heavy_falls : (d : ℕ) → heavy d + two (suc d) ≤ heavy (suc d)
unfolding heavy two
heavy_falls zero = omega arith
heavy_falls (suc zero) = omega arith
heavy_falls (suc (suc d)) = rw (ne_eqb (suc (suc (suc d))) 2 (omega arith)) (omega arith)

heavy_one : (d : ℕ) → d ≡ 1 → heavy d ≡ 0
unfolding heavy
heavy_one d h = rw h

heavy_le : (d : ℕ) → heavy d ≤ 1
unfolding heavy
heavy_le zero = omega arith
heavy_le (suc zero) = omega arith
heavy_le (suc (suc d)) = omega arith

push_length : (es : List Edge) (w : ℕ) (st : List ℕ) → length (push es w st) ≡ two (degree w es) + length st
unfolding push two
push_length es w st = go (eqb (degree w es) 2)
  where
    go : (b : Bool) → length (cond b (w ∷ st) st) ≡ cond b 1 0 + length st
    go true = omega arith
    go false = omega arith

-- ---- the measure: what is on the stack, and what may come on it
unfoldable pub weight : ℕ → List Edge → List ℕ → ℕ
weight n es st = length st + sum_to n (λ w. heavy (degree w es))

-- the same of the graph that the code keeps: vertices on the stack, and those of degree 2 or more
unfoldable pub work : ℕ → Graph → List ℕ → ℕ
work n g st = length st + sum_to n (λ w. heavy (degree_of g w))

pub start_weight : (n : ℕ) (es : List Edge) → weight n es (ones n es) ≤ n
unfolding weight ones sum_to
start_weight zero es = omega arith
start_weight (suc v) es = go (eqb (degree v es) 1) refl (start_weight v es)
  where
    go : (b : Bool) → eqb (degree v es) 1 ≡ b → length (ones v es) + sum_to v (λ w. heavy (degree w es)) ≤ v
        → length (cond b (v ∷ ones v es) (ones v es)) + (heavy (degree v es) + sum_to v (λ w. heavy (degree w es))) ≤ suc v
    go true q ih = omega (arith, heavy_one (degree v es) (eqb-true (degree v es) 1 q))
    go false q ih = omega (arith, heavy_le (degree v es))

-- the other two vertices of an edge
pub first< : {n : ℕ} {e : Edge} → Valid n e → (s : Side) → first s e < n
unfolding first
first< v side0 = v.b<
first< v side1 = v.a<
first< v side2 = v.a<

pub second< : {n : ℕ} {e : Edge} → Valid n e → (s : Side) → second s e < n
unfolding second
second< v side0 = v.c<
second< v side1 = v.c<
second< v side2 = v.b<

pub first≢second : {n : ℕ} {e : Edge} → Valid n e → (s : Side) → first s e ≢ second s e
unfolding first second
first≢second v side0 = v.b≢c
first≢second v side1 = v.a≢c
first≢second v side2 = v.a≢b

pub takes_weight : (n v : ℕ) (es : List Edge) (e : Edge) (s : Side) (st : List ℕ) → edge_at v es ≡ some e → Valid n e
    → weight n (without v es) (push es (second s e) (push es (first s e) st)) ≤ weight n es st
unfolding weight
takes_weight n v es e s st h va =
    omega (
      arith,
      push_length es o₂ (push es o₁ st),
      push_length es o₁ st,
      sum_mono n sum (λ w. heavy (degree w es)) point,
      sum_add n (λ w. heavy (degree w fs)) spots,
      sum_add n (spot o₁ k₁) (spot o₂ k₂),
      sum_spot n o₁ k₁ (first< va s),
      sum_spot n o₂ k₂ (second< va s),
    )
  where
    fs : List Edge
    fs = without v es

    o₁ : ℕ
    o₁ = first s e

    o₂ : ℕ
    o₂ = second s e

    k₁ : ℕ
    k₁ = two (degree o₁ es)

    k₂ : ℕ
    k₂ = two (degree o₂ es)

    spots : ℕ → ℕ
    spots w = spot o₁ k₁ w + spot o₂ k₂ w

    sum : ℕ → ℕ
    sum w = heavy (degree w fs) + spots w

    one : (w : ℕ) → touches w e ≡ true → heavy (degree w fs) + two (degree w es) ≤ heavy (degree w es)
    one w t = rw (falls_one v es h w t) (heavy_falls (degree w fs))

    at₁ : sum o₁ ≤ heavy (degree o₁ es)
    at₁ = omega (arith, one o₁ (touches_first s e), spot_at o₁ k₁, spot_off o₂ k₂ o₁ (first≢second va s))

    at₂ : sum o₂ ≤ heavy (degree o₂ es)
    at₂ = omega (arith, one o₂ (touches_second s e), spot_at o₂ k₂, spot_off o₁ k₁ o₂ (λ q. first≢second va s (sym q)))

    go : (w : ℕ) (b : Bool) → eqb w o₁ ≡ b → (c : Bool) → eqb w o₂ ≡ c → sum w ≤ heavy (degree w es)
    go w true p c q = rw (eqb-true w o₁ p) at₁
    go w false p true q = rw (eqb-true w o₂ q) at₂
    go w false p false q = omega (arith, heavy_mono (degree w fs) (degree w es) (falls v es h w), spot_off o₁ k₁ w (eqb-false w o₁ p), spot_off o₂ k₂ w (eqb-false w o₂ q))

    point : (w : ℕ) → sum w ≤ heavy (degree w es)
    point w = go w (eqb w o₁) refl (eqb w o₂) refl

-- ---- the end
pub run_idle : (k : ℕ) (es : List Edge) (ps : List Peeled) → run k (record { left = es; stack = []; peeled = ps }) ≡ record { left = es; stack = []; peeled = ps }
unfolding run step pop
run_idle zero es ps = refl
run_idle (suc k) es ps = run_idle k es ps

run_empties : (n k : ℕ) (s : State) → Inv n s → weight n s.left s.stack ≤ k → (run k s).stack ≡ []
unfolding run step pop popped weight
run_empties n zero s i h = nil_from_length s.stack (omega arith)
run_empties n (suc k) s i h = go s.left s.stack s.peeled i (inv_step n s i) h (run_empties n k)
  where
    pick : (es : List Edge) (v : ℕ) (st : List ℕ) (ps : List Peeled) (o : Option Edge) → edge_at v es ≡ o
        → Inv n (record { left = es; stack = v ∷ st; peeled = ps }) → Inv n (popped v es st ps o)
        → weight n es (v ∷ st) ≤ suc k → ((s : State) → Inv n s → weight n s.left s.stack ≤ k → (run k s).stack ≡ [])
        → (run k (popped v es st ps o)).stack ≡ []
    pick es v st ps none q i j h ih = ih (popped v es st ps none) j (omega arith)
    pick es v st ps (some e) q i j h ih =
        ih (popped v es st ps (some e)) j (omega (arith, takes_weight n v es e (side_of v e) st q (all_at (Valid n) v es q i.valid)))

    go : (es : List Edge) (st : List ℕ) (ps : List Peeled) → Inv n (record { left = es; stack = st; peeled = ps }) → Inv n (pop es st ps)
        → weight n es st ≤ suc k → ((s : State) → Inv n s → weight n s.left s.stack ≤ k → (run k s).stack ≡ [])
        → (run k (pop es st ps)).stack ≡ []
    go es [] ps i j h ih = ap (λ (s : State). s.stack) (run_idle k es ps)
    go es (v ∷ st) ps i j h ih = pick es v st ps (edge_at v es) refl i j h ih

-- n pops are enough
pub peel_empties : (n : ℕ) (es : List Edge) → Each (Valid n) es → (peel n es).stack ≡ []
unfolding peel start
peel_empties n es v = run_empties n n (start n es) (start_inv n es v) (start_weight n es)

-- each pop lowers the measure
pub step_falls : (n : ℕ) (s : State) (v : ℕ) (st : List ℕ) → Inv n s → s.stack ≡ v ∷ st → weight n (step s).left (step s).stack < weight n s.left s.stack
unfolding step pop popped weight
step_falls n s v st i q = rw q (pick (edge_at v s.left) refl)
  where
    pick : (o : Option Edge) → edge_at v s.left ≡ o → weight n (popped v s.left st s.peeled o).left (popped v s.left st s.peeled o).stack < weight n s.left (v ∷ st)
    pick none h = omega arith
    pick (some e) h = omega (arith, takes_weight n v s.left e (side_of v e) st h (all_at (Valid n) v s.left h i.valid))

-- the measure by the degrees alone
pub sum_cong : (n : ℕ) (f g : ℕ → ℕ) → ((w : ℕ) → w < n → f w ≡ g w) → sum_to n f ≡ sum_to n g
unfolding sum_to
sum_cong zero f g h = refl
sum_cong (suc k) f g h = omega (arith, h k (omega arith), sum_cong k f g (λ w l. h w (omega arith)))
