-- The two stacks fit one slice of n numbers.
use mathlib.Core.Path.{◌≡◌}
use mathlib.Core.List.{List, ◌∷◌}
use mathlib.Core.Option.{none, some}
use Prim.Native.Nat.{ℕ, ◌+◌, ◌≤◌}
use native.Mathlib.Omega.{arith}
use lib.ListN.{length}
use Rattle.peel_rules.specs.Peel.{Peeled, State, popped, step, run, start}
use Rattle.peel_rules.proofs.PeelBasic.{all_at, step-inv, run-inv}
use Rattle.peel_rules.proofs.PeelSolved.{Inv, inv_skip, inv_takes, start_inv}
use Rattle.peel_rules.proofs.PeelEmpty.{weight, start_weight, takes_weight}
use Rattle.gf2.specs.Equation.{Each}
use Rattle.peel_rules.specs.Edges.{Valid, edge_at, side_of}
use Rattle.peeling.specs.declared.numbers.Edge.{Edge}

-- ---- what is on the stack, what may come on it, and what was peeled, are n at most
pub record Fits (n : ℕ) (s : State) : Type 0 where
  pub inv : Inv n s
  pub room : weight n s.left s.stack + length s.peeled ≤ n

fits_skip : (n : ℕ) (es : List Edge) (v : ℕ) (st : List ℕ) (ps : List Peeled) → edge_at v es ≡ none
    → Fits n (record { left = es; stack = v ∷ st; peeled = ps }) → Fits n (record { left = es; stack = st; peeled = ps })
unfolding weight
fits_skip n es v st ps h f = record { inv = inv_skip n es v st ps f.inv; room = omega (arith, f.room) }

fits_takes : (n : ℕ) (es : List Edge) (v : ℕ) (st : List ℕ) (ps : List Peeled) (e : Edge) → edge_at v es ≡ some e
    → Fits n (record { left = es; stack = v ∷ st; peeled = ps }) → Fits n (popped v es st ps (some e))
unfolding weight popped
fits_takes n es v st ps e h f = record {
  inv = inv_takes n es v st ps e h f.inv;
  room = omega (arith, f.room, takes_weight n v es e (side_of v e) st h (all_at (Valid n) v es h f.inv.valid));
}

pub fits_step : (n : ℕ) (s : State) → Fits n s → Fits n (step s)
fits_step n = step-inv (Fits n) (fits_skip n) (fits_takes n)

pub fits_start : (n : ℕ) (es : List Edge) → Each (Valid n) es → Fits n (start n es)
unfolding start
fits_start n es v = record { inv = start_inv n es v; room = omega (arith, start_weight n es) }

-- at every moment both stacks fit
pub both_fit : (n k : ℕ) (es : List Edge) → Each (Valid n) es → length (run k (start n es)).stack + length (run k (start n es)).peeled ≤ n
unfolding weight
both_fit n k es v = omega (arith, (run-inv (Fits n) (fits_step n) k (start n es) (fits_start n es v)).room)
