-- What the lent areas hold when columns have been cleared.
use Rattle.std.specs.Prelude.{◌≡◌, List, ◌++◌, map, ℕ, ◌+◌, ◌*◌, ◌≤◌, ◌<◌, length, get_or, take, drop}
use Rattle.gf2.specs.Equation.{Each}
use Rattle.dense_rows.specs.Bits.{Row}
use Rattle.dense_rows.specs.Rows.{held}
use Rattle.dense_rows.specs.Steps.{no_row, clear_row}
use Rattle.slow_rules.specs.Slow.{Progress, clear_columns, untouched, pivot_rows}

-- the rows above row i, each that has the column with row i XORed into it
unfoldable pub clear_above : ℕ → ℕ → List Row → List Row
clear_above c i rows = map (clear_row c (get_or rows i no_row)) (take i rows) ++ drop i rows

-- the numbers hold the pivots' columns, and the words their rows, then the rows from the rank on
abbrev pub progress_in : ℕ → ℕ → ℕ → List ℕ → List ℕ → Progress
progress_in m w rank numbers words = record {
  done = pivot_rows (take rank numbers) (take rank (held m w words));
  left = drop rank (held m w words);
}

-- the areas hold what n columns make of the rows that they held; the rest is untouched
pub record ColumnsDone (n m w : ℕ) (numbers words : List ℕ) (rank : ℕ) (numbers' words' : List ℕ) : Type 0 where
  pub ranked : rank ≤ m
  pub pivots_below : Each (λ p. p < n) (take rank numbers')
  pub progress : clear_columns n 0 (untouched (held m w words)) ≡ progress_in m w rank numbers' words'
  pub numbers_long : length numbers' ≡ length numbers
  pub numbers_past : drop rank numbers' ≡ drop rank numbers
  pub words_long : length words' ≡ length words
  pub words_past : drop (m * w + m) words' ≡ drop (m * w + m) words
