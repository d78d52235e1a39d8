-- Dense elimination without back substitution:
-- each pivot column is cleared in all other rows, above and below, so that the constants can be read off at the end.
use Rattle.std.specs.Prelude.{◌≡◌, List, [], ◌∷◌, ◌++◌, map, true, false, ℕ, zero, suc, ◌<◌, set, replicate}
use Rattle.gf2.specs.Equation.{Each}
use Rattle.gf2.specs.Result.{Result, unsolvable, ok}
use Rattle.dense_rows.specs.Bits.{Row}
use Rattle.dense_rows.specs.Steps.{clear_row}
use Rattle.dense_walk.specs.Eliminate.{passed, taken, column, residue}

-- a pivot: its column, and its row
pub record PivotRow : Type 0 where
  pub at : ℕ
  pub row : Row

-- the pivots so far, in the order taken, and the rows from the rank on
pub record Progress : Type 0 where
  pub done : List PivotRow
  pub left : List Row

-- a pivot row above the new one: where it has the new column, it gets the new pivot row
unfoldable pub clear_pivot_row : ℕ → Row → PivotRow → PivotRow
clear_pivot_row c pivot d = record { at = d.at; row = clear_row c pivot d.row }

-- one column: passed over, or cleared in the rows below its pivot row (by `column`, as in the walk) and in those above
unfoldable pub clear_column : ℕ → Progress → Progress
clear_column c s =
    elim (column c s.left) [
      | passed ↦ s
      | taken pivot below ↦ record { done = map (clear_pivot_row c pivot) s.done ++ (record { at = c; row = pivot } ∷ []); left = below }
    ]

-- k columns from column c on, left to right
unfoldable pub clear_columns : ℕ → ℕ → Progress → Progress
clear_columns zero c s = s
clear_columns (suc k) c s = clear_columns k (suc c) (clear_column c s)

-- no pivot yet, and all rows
abbrev pub untouched : List Row → Progress
untouched rows = record { done = []; left = rows }

-- each pivot's value is its row's constant
unfoldable pub read_off : List PivotRow → List ℕ → List ℕ
read_off [] x = x
read_off (d ∷ ds) x = read_off ds (set x d.at d.row.c)

-- any constant left that is not 0 means unsolvable; the pivots' are read off, and what is no pivot is 0
unfoldable pub read_end : ℕ → Progress → Result (List ℕ)
read_end n s = elim (residue s.left) [ true ↦ unsolvable | false ↦ ok (read_off s.done (replicate n 0)) ]

unfoldable pub slow_elimination : ℕ → List Row → Result (List ℕ)
slow_elimination n rows = read_end n (clear_columns n 0 (untouched rows))

-- ---- columns and rows apart, as the engine holds them

-- columns and rows, one by one
unfoldable pub pivot_rows : List ℕ → List Row → List PivotRow
pivot_rows [] rows = []
pivot_rows (c ∷ cs) [] = []
pivot_rows (c ∷ cs) (row ∷ rows) = record { at = c; row = row } ∷ pivot_rows cs rows

-- the pivots are among n cells
abbrev pub PivotsBelow : ℕ → ℕ → List ℕ → List Row → Type 0
PivotsBelow n w pivots rows = Each (λ p. p < n) pivots

-- what n columns make of rows: the pivots, their rows, and the rows that are left
abbrev pub Clears : ℕ → List Row → List ℕ → List Row → List Row → Type 0
Clears n rows pivots tops left =
    PivotsBelow n 0 pivots tops × (clear_columns n 0 (untouched rows) ≡ record { done = pivot_rows pivots tops; left = left })

-- the cells with the pivots' constants in them
abbrev pub read_pivots : ℕ → List ℕ → List Row → List ℕ → List ℕ
read_pivots n pivots rows x = read_off (pivot_rows pivots rows) x
