-- Where each segment of the numbers begins, and how long it is.
use Rattle.std.specs.Prelude.{◌≡◌, List, [], ◌∷◌, map, ℕ, ◌+◌, ◌*◌, ◌≤◌, length}
use Rattle.gf2.specs.Equation.{Equation}
use Rattle.areas.specs.Rows.{Narrow}
use Rattle.lazy.specs.Lazy.{State}
use Rattle.lazy_setup.specs.declared.Layout.{Layout}
use Rattle.lazy_setup.specs.declared.Stand.{Stand}

-- the lengths of the fourteen segments
abbrev pub sizes : ℕ → ℕ → ℕ → List ℕ
sizes n m t = (m * n) ∷ m ∷ t ∷ (n + 1) ∷ n ∷ n ∷ n ∷ n ∷ m ∷ m ∷ m ∷ m ∷ (m + 1) ∷ (m * n + (n + m)) ∷ []

abbrev pub Shaped : ℕ → ℕ → ℕ → List (List ℕ) → Type 0
Shaped n m t segs = map (λ s. length s) segs ≡ sizes n m t

-- each segment begins where the one before it ends; the rows begin at 0
unfoldable pub layout_of : ℕ → ℕ → ℕ → Layout
layout_of n m t =
    record {
      n = n;
      m = m;
      lengths = m * n;
      lists = m * n + m;
      starts = m * n + m + t;
      weight = m * n + m + t + (n + 1);
      variables = m * n + m + t + (n + 1) + n;
      idle = m * n + m + t + (n + 1) + n + n;
      position = m * n + m + t + (n + 1) + n + n + n;
      priority = m * n + m + t + (n + 1) + n + n + n + n;
      equations = m * n + m + t + (n + 1) + n + n + n + n + m;
      solved = m * n + m + t + (n + 1) + n + n + n + n + m + m;
      pivots = m * n + m + t + (n + 1) + n + n + n + n + m + m + m;
      count = m * n + m + t + (n + 1) + n + n + n + n + m + m + m + m;
      dense = m * n + m + t + (n + 1) + n + n + n + n + m + m + m + m + (m + 1);
    }

-- the parts of a state have the lengths that the areas are made for
pub record Sized (n : ℕ) (sys : List Equation) (s : State) : Type 0 where
  pub rows : length s.rows ≡ length sys
  pub narrow : Narrow n (map (λ r. r.vars) s.rows)
  pub weight : length s.weight ≡ n
  pub variables : length s.variables ≤ n
  pub idle : length s.idle ≡ n
  pub priority : length s.priority ≡ length sys
  pub equations : length s.equations ≤ length sys
  pub solved : length s.solved ≤ length sys
  pub dense : length s.dense ≤ length sys
  pub dense_narrow : Narrow n (map (λ r. r.vars) s.dense)

-- how far the lists of a state reach
unfoldable pub stand_of : State → Stand
stand_of s =
    record {
      variables = length s.variables;
      equations = length s.equations;
      solved = length s.solved;
      dense = length s.dense;
      remaining = s.remaining;
      done = s.dense_done;
    }
