-- Dense elimination on a list of rows: columns left to right, what is left of the constants, and back substitution.
use Rattle.std.specs.Prelude.{Some, None, List, [], ◌∷◌, map, Bool, true, false, ℕ, zero, suc, ◌/◌, set, replicate}
use Rattle.std.specs.Int.Bits.{bit_xor}
use Rattle.gf2.specs.Equation.{eval_vars}
use Rattle.gf2.specs.Result.{Result, unsolvable, ok}
use Rattle.dense_rows.specs.Bits.{Row, columns}
use Rattle.dense_rows.specs.Steps.{pivot_from, swap_rows, clear_row}

-- ---- one column

-- What a column makes of the rows from the current rank on.
pub data Step : Type 0 where
  -- no row has it
  passed : Step
  -- the pivot row, and the rows below it
  taken : Row → List Row → Step

-- each row below the first that has the column gets the first
unfoldable pub topped : ℕ → List Row → Step
topped c [] = passed
topped c (pivot ∷ below) = taken pivot (map (clear_row c pivot) below)

-- the first row that has the column changes places with the first row, from the column's word onward
unfoldable pub column : ℕ → List Row → Step
column c rest = elim (pivot_from c 0 rest) [ Some r ↦ topped c (swap_rows (c / 64) 0 r rest) | None ↦ passed ]

-- ---- columns left to right

-- The pivots with their rows, and the rows that are left from the rank on.
pub record Walk : Type 0 where
  pub pivots : List ℕ
  pub rows : List Row
  pub left : List Row

-- a pivot and its row come before those of later columns
abbrev pub on_top : ℕ → Row → Walk → Walk
on_top c pivot later = record { pivots = c ∷ later.pivots; rows = pivot ∷ later.rows; left = later.left }

-- k columns from column c on; the walk ends when no row is left
unfoldable pub walk : ℕ → ℕ → List Row → Walk
walk zero c rest = record { pivots = []; rows = []; left = rest }
walk (suc k) c [] = record { pivots = []; rows = []; left = [] }
walk (suc k) c (row ∷ rows) =
    elim (column c (row ∷ rows)) [ passed ↦ walk k (suc c) (row ∷ rows) | taken pivot below ↦ on_top c pivot (walk k (suc c) below) ]

-- ---- the end

-- is a constant left that is not 0?
unfoldable pub residue : List Row → Bool
residue [] = false
residue (row ∷ rows) = elim row.c [ zero ↦ residue rows | suc _ ↦ true ]

-- the pivot gets the value that meets its row
unfoldable pub pin : ℕ → ℕ → Row → List ℕ → List ℕ
pin n p row x = set x p (bit_xor row.c (eval_vars (columns n row.words) x))

-- from the last pivot to the first
unfoldable pub back_sub : ℕ → List ℕ → List Row → List ℕ → List ℕ
back_sub n [] rows x = x
back_sub n (p ∷ ps) [] x = x
back_sub n (p ∷ ps) (row ∷ rows) x = pin n p row (back_sub n ps rows x)

-- what is left is checked, and then solved; unpinned variables are 0
unfoldable pub finish : ℕ → Walk → Result (List ℕ)
finish n w = elim (residue w.left) [ true ↦ unsolvable | false ↦ ok (back_sub n w.pivots w.rows (replicate n 0)) ]

unfoldable pub dense_elimination : ℕ → List Row → Result (List ℕ)
dense_elimination n rows = finish n (walk n 0 rows)
