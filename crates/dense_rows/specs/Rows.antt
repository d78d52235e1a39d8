-- Rows of w words, one after the other in a list of words, and a list of constants.
use Rattle.std.specs.Prelude.{List, [], ◌∷◌, ℕ, zero, suc, ◌+◌, ◌*◌, ◌≡◌, length, drop, get_or}
use Rattle.areas.specs.Stretch.{stretch}
use Rattle.dense_rows.specs.Bits.{Row}

-- row i: the w words from i * w on, and constant i
unfoldable pub row_at : ℕ → ℕ → List ℕ → List ℕ → Row
row_at w i words constants = record { words = stretch (i * w) w words; c = get_or constants i 0 }

-- k rows, from row i on
unfoldable pub rows_from : ℕ → ℕ → ℕ → List ℕ → List ℕ → List Row
rows_from zero w i words constants = []
rows_from (suc k) w i words constants = row_at w i words constants ∷ rows_from k w (suc i) words constants

-- the first m rows
abbrev pub rows_of : ℕ → ℕ → List ℕ → List ℕ → List Row
rows_of m w words constants = rows_from m w 0 words constants

-- the m rows that a work area holds: the words of the rows, then their constants
abbrev pub held : ℕ → ℕ → List ℕ → List Row
held m w area = rows_of m w area (drop (m * w) area)

-- a work area came to hold these rows; what lies past the rows and constants is untouched
pub record Became (m w : ℕ) (before : List ℕ) (rows : List Row) (after : List ℕ) : Type 0 where
  pub long : length after ≡ length before
  pub holds : held m w after ≡ rows
  pub past : drop (m * w + m) after ≡ drop (m * w + m) before
