-- The vector that sparse and dense elimination share: the smallest solution, two being compared from the highest variable down.
use Rattle.std.specs.Prelude.{◌≡◌, ◌⊎◌, ℕ, length}
use mathlib.Core.List.{List, Memᴰ}
use Rattle.gf2.specs.Equation.{Equation, Each, MeetsAll}
use Rattle.gf2.specs.Canonical.{Before}

-- x has n values and meets every equation
pub record Solution (n : ℕ) (es : List Equation) (x : List ℕ) : Type 0 where
  pub size : length x ≡ n
  pub meets : MeetsAll x es

-- among all solutions x comes first: any other has the larger number at the highest variable where the two differ
pub record Smallest (n : ℕ) (es : List Equation) (x : List ℕ) : Type 0 where
  pub solves : Solution n es x
  pub first : (z : List ℕ) → Solution n es z → (x ≡ z) ⊎ Before x z

-- there is a solution
pub record Solvable (n : ℕ) (es : List Equation) : Type 0 where
  pub x : List ℕ
  pub solves : Solution n es x

-- the same equations: each of either list stands in the other, in whatever order and however often
pub record SameEquations (es fs : List Equation) : Type 0 where
  pub forth : Each (λ e. Memᴰ e fs) es
  pub back : Each (λ e. Memᴰ e es) fs
