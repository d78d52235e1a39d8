-- What the end of a run needs to know of the numbers.
use Rattle.std.specs.Prelude.{◌≡◌, List, ℕ, ◌+◌, ◌*◌, ◌≤◌, length, drop}
use Rattle.rows.specs.Padding.{PaddedRows}
use Rattle.lazy_setup.specs.declared.Layout.{Layout}

-- the equations' rows and the dense part's lie padded, whichever they are
pub record Tidy (n m : ℕ) (layout : Layout) (numbers : List ℕ) : Type 0 where
  pub place : layout.lengths ≡ m * n
  pub before : layout.lengths ≤ layout.dense
  pub inside : layout.dense + m * n ≤ length numbers
  pub equations : PaddedRows 0 layout.lengths n m numbers
  pub dense : PaddedRows 0 (m * n + n) n m (drop layout.dense numbers)
