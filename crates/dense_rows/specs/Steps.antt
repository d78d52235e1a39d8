-- What a column does with rows: the pivot search, rows that change places, and the XOR with the pivot row.
use Rattle.std.specs.Prelude.{Option, Some, None, List, [], ◌∷◌, ◌++◌, map, true, false, ℕ, suc, ◌+◌, ◌/◌, take, drop, get_or, set}
use Rattle.std.specs.Int.Bits.{bit_xor}
use Rattle.dense_rows.specs.Bits.{Row, has_bit, xor_words}

-- the first of the rows, numbered from i on, that has column c
unfoldable pub pivot_from : ℕ → ℕ → List Row → Option ℕ
pivot_from c i [] = None
pivot_from c i (row ∷ rows) = elim (has_bit c row) [ true ↦ Some i | false ↦ pivot_from c (suc i) rows ]

-- a row with another's words from word k on, that word included, and with the other's constant
unfoldable pub from_word : ℕ → Row → Row → Row
from_word k row other = record { words = take k row.words ++ drop k other.words; c = other.c }

-- past the last row
abbrev pub no_row : Row
no_row = record { words = []; c = 0 }

-- rows i and j change places from word k on, that word included
unfoldable pub swap_rows : ℕ → ℕ → ℕ → List Row → List Row
swap_rows k i j rows =
    set (set rows i (from_word k (get_or rows i no_row) (get_or rows j no_row))) j (from_word k (get_or rows j no_row) (get_or rows i no_row))

-- a row with the pivot row XORed into it from word k on, that word included
unfoldable pub xor_from : ℕ → Row → Row → Row
xor_from k pivot row = record {
  words = take k row.words ++ xor_words (drop k row.words) (drop k pivot.words);
  c = bit_xor row.c pivot.c;
}

-- a row beside the pivot row: where it has the column, it gets the pivot row
unfoldable pub clear_row : ℕ → Row → Row → Row
clear_row c pivot row = elim (has_bit c row) [ true ↦ xor_from (c / 64) pivot row | false ↦ row ]

-- the rows below row i, each that has the column with row i XORed into it
unfoldable pub clear_below : ℕ → ℕ → List Row → List Row
clear_below c i rows = take (i + 1) rows ++ map (clear_row c (get_or rows i no_row)) (drop (i + 1) rows)
