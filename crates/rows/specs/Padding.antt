-- Rows that lie padded with zeros, with their lengths elsewhere in the same area.
use Rattle.std.specs.Prelude.{◌≡◌, List, ℕ, ◌+◌, ◌*◌, ◌≤◌, ◌<◌, length, get_or}
use Rattle.areas.specs.Stretch.{stretch}
use Rattle.areas.specs.Rows.{padded}

-- m rows of n numbers stand from `at` on and their lengths from `lengths` on; past its length each row is zero
pub record PaddedRows (at lengths n m : ℕ) (numbers : List ℕ) : Type 0 where
  pub behind : at + m * n ≤ lengths
  pub inside : lengths + m ≤ length numbers
  pub short : (i : ℕ) → i < m → get_or numbers (lengths + i) 0 ≤ n
  pub zeros : (i : ℕ) → i < m → stretch (at + i * n) n numbers ≡ padded n (stretch (at + i * n) (get_or numbers (lengths + i) 0) numbers)
