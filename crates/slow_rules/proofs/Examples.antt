-- Sums on the workbench, computed by the definition: the rows when every column is cleared, and what a call answers and leaves.
use mathlib.Core.Path.{◌≡◌, refl}
use mathlib.Core.List.{List, [], ◌∷◌}
use Rattle.areas.specs.Stretch.{stretch, cleared}
use Rattle.answers.specs.Answers.{Solved, Unsolvable}
use Rattle.dense_rows.specs.Bits.{Row, bit_at, empty_from, xor_words}
use Rattle.dense_rows.specs.Rows.{row_at, rows_from}
use Rattle.dense_rows.specs.Steps.{pivot_from, from_word, swap_rows, xor_from, clear_row}
use Rattle.dense_walk.specs.Eliminate.{topped, column, residue}
use Rattle.dense_rows.specs.Rules.{row_rules, dense_rules}
use Rattle.slow_rules.specs.Slow.{clear_pivot_row, clear_column, clear_columns, untouched, read_off, read_end, slow_elimination}
use Rattle.slow_rules.specs.SlowCall.{slow_call}

-- P3: {0,1} = 5, {1,2} = 3, {0,2} = 6
abbrev p3_rows : List Row
p3_rows = record { words = 3 ∷ []; c = 5 } ∷ record { words = 6 ∷ []; c = 3 } ∷ record { words = 5 ∷ []; c = 6 } ∷ []

-- column 0 is left in the first row alone and column 1 in the second alone, so these rows' constants are the values
p3_cleared : clear_columns 3 0 (untouched p3_rows)
    ≡ record {
      done = record { at = 0; row = record { words = 5 ∷ []; c = 6 } } ∷ record { at = 1; row = record { words = 6 ∷ []; c = 3 } } ∷ [];
      left = record { words = 0 ∷ []; c = 0 } ∷ [];
    }
unfolding bit_at xor_words pivot_from from_word swap_rows xor_from clear_row topped column clear_pivot_row clear_column clear_columns
p3_cleared = refl

p3 : slow_call 3 3 1 (3 ∷ 6 ∷ 5 ∷ []) (5 ∷ 3 ∷ 6 ∷ []) (8 ∷ 8 ∷ 8 ∷ []) (9 ∷ 9 ∷ 9 ∷ 9 ∷ []) (9 ∷ 9 ∷ 9 ∷ 9 ∷ 9 ∷ 9 ∷ 9 ∷ [])
    ≡ record { answer = Solved; solution = 6 ∷ 3 ∷ 0 ∷ []; numbers = 0 ∷ 0 ∷ 0 ∷ 9 ∷ []; words = 0 ∷ 0 ∷ 0 ∷ 0 ∷ 0 ∷ 0 ∷ 9 ∷ [] }
unfolding stretch cleared bit_at empty_from xor_words row_at rows_from pivot_from from_word swap_rows xor_from clear_row topped column residue clear_pivot_row clear_column clear_columns read_off read_end slow_elimination row_rules dense_rules slow_call
p3 = refl

-- P4: the last constant 7; the solution stays as lent
p4 : slow_call 3 3 1 (3 ∷ 6 ∷ 5 ∷ []) (5 ∷ 3 ∷ 7 ∷ []) (8 ∷ 8 ∷ 8 ∷ []) (9 ∷ 9 ∷ 9 ∷ 9 ∷ []) (9 ∷ 9 ∷ 9 ∷ 9 ∷ 9 ∷ 9 ∷ 9 ∷ [])
    ≡ record { answer = Unsolvable; solution = 8 ∷ 8 ∷ 8 ∷ []; numbers = 0 ∷ 0 ∷ 0 ∷ 9 ∷ []; words = 0 ∷ 0 ∷ 0 ∷ 0 ∷ 0 ∷ 0 ∷ 9 ∷ [] }
unfolding stretch cleared bit_at empty_from xor_words row_at rows_from pivot_from from_word swap_rows xor_from clear_row topped column residue clear_pivot_row clear_column clear_columns read_off read_end slow_elimination row_rules dense_rules slow_call
p4 = refl
