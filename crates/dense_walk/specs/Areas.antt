-- What the lent areas hold when the walk has ended.
use Rattle.std.specs.Prelude.{◌≡◌, List, ℕ, ◌+◌, ◌*◌, ◌≤◌, length, take, drop}
use Rattle.dense_rows.specs.Rows.{held}
use Rattle.dense_walk.specs.Eliminate.{walk}

-- the numbers hold the pivots, and the words the pivot rows and then the rows that are left; the rest is untouched
pub record Eliminated (n m w : ℕ) (numbers words : List ℕ) (rank : ℕ) (numbers' words' : List ℕ) : Type 0 where
  pub ranked : rank ≤ m
  pub pivots : take rank numbers' ≡ (walk n 0 (held m w words)).pivots
  pub rows : take rank (held m w words') ≡ (walk n 0 (held m w words)).rows
  pub left : drop rank (held m w words') ≡ (walk n 0 (held m w words)).left
  pub numbers_long : length numbers' ≡ length numbers
  pub numbers_past : drop rank numbers' ≡ drop rank numbers
  pub words_long : length words' ≡ length words
  pub words_past : drop (m * w + m) words' ≡ drop (m * w + m) words
