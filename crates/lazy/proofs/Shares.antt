-- What two systems with the same equations on our cells have in common.
use mathlib.Core.Path.{◌≡◌}
use mathlib.Core.List.{List}
use mathlib.Core.Bool.{Bool, true}
use Prim.Native.Nat.{ℕ}
use lib.ListN.{length}
use Rattle.gf2.specs.Equation.{Equation}
use Rattle.gf2.specs.ByNumber.{row_of, lists_at}
use Rattle.lazy.specs.Lazy.{listing}

-- an equation with a variable of ours has only variables of ours
abbrev pub ApartAt : (ℕ → Bool) → List Equation → Type 0
ApartAt P sys = (u v e : ℕ) → lists_at sys u e ≡ true → lists_at sys v e ≡ true → P u ≡ true → P v ≡ true

-- each has the other's equations on our cells, and our variables have the same weights
pub record Shares (P : ℕ → Bool) (a b : List Equation) : Type 0 where
  pub forth : (v e : ℕ) → lists_at a v e ≡ true → P v ≡ true → (f : ℕ) × (row_of b f ≡ row_of a e)
  pub back : (v e : ℕ) → lists_at b v e ≡ true → P v ≡ true → (f : ℕ) × (row_of a f ≡ row_of b e)
  pub weights : (v : ℕ) → P v ≡ true → length (listing a v) ≡ length (listing b v)
