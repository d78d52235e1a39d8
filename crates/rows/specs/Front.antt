-- The fronts of two stretches have changed places.
use Rattle.std.specs.Prelude.{◌≡◌, List, ℕ, ◌≤◌}
use Rattle.areas.specs.Stretch.{exchanged}

-- r elements, at least k and at most n, from p on and from q on have changed places
pub record Exchanged (before : List ℕ) (p q k n : ℕ) (out : List ℕ) (r : ℕ) : Type 0 where
  pub enough : k ≤ r
  pub within : r ≤ n
  pub done : out ≡ exchanged p q r before
