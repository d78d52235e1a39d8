-- The rows of a range that are cleared by a pivot row.
use Rattle.std.specs.Prelude.{List, map, true, false, ℕ, ◌-◌, get_or}
use Rattle.areas.specs.Stretch.{stretch, put}
use Rattle.dense_rows.specs.Bits.{Row, has_bit}
use Rattle.dense_rows.specs.Steps.{no_row, xor_from}

-- a row beside the pivot row: where it has the column, it gets the pivot row from word k on, that word included
unfoldable pub cleared_row : ℕ → ℕ → Row → Row → Row
cleared_row c k pivot row = elim (has_bit c row) [ true ↦ xor_from k pivot row | false ↦ row ]

-- the rows from row i up to row j, each that has the column with row p XORed into it from word k on; the others stay
unfoldable pub cleared_rows : ℕ → ℕ → ℕ → ℕ → ℕ → List Row → List Row
cleared_rows c k p i j rows = put i (map (cleared_row c k (get_or rows p no_row)) (stretch i (j - i) rows)) rows
