-- The rules 1 to 3 of a lent dense system.
use Rattle.std.specs.Prelude.{Option, Some, None, List, [], ◌∷◌, true, false, ◌&&◌, ℕ, suc, ◌*◌, length, leb}
use Rattle.answers.specs.Sizes.{max_variables, max_equations, max_row_words}
use Rattle.answers.specs.Calls.{pick}
use Rattle.answers.specs.Answers.{Rules, Kept, Broken, TooLarge, BadShape, BadEntry}
use Rattle.dense_rows.specs.Bits.{Row, row_fits}
use Rattle.dense_rows.specs.Rows.{rows_of}
use Rattle.dense_rows.specs.declared.system.DenseSystem.{DenseSystem}

-- rule 3: the lowest row, numbered from i on, that has a bit at column n or above
unfoldable pub row_rules : ℕ → ℕ → List Row → Rules
row_rules n i [] = Kept
row_rules n i (row ∷ rows) = elim (row_fits n row.words) [ true ↦ row_rules n (suc i) rows | false ↦ Broken (BadEntry i) ]

-- sizes, then lengths, then bits
unfoldable pub dense_rules : ℕ → ℕ → ℕ → List ℕ → List ℕ → Rules
dense_rules n m w rows constants =
    pick (leb n max_variables && leb m max_equations && leb w max_row_words)
    (pick (leb (m * w) (length rows) && leb m (length constants) && leb n (64 * w)) (row_rules n 0 (rows_of m w rows constants)) (Broken BadShape))
    (Broken TooLarge)

-- what the number of a row that breaks rule 3 says of it
abbrev pub entry_rules : Option ℕ → Rules
entry_rules None = Kept
entry_rules (Some i) = Broken (BadEntry i)

-- ---- of the struct that lends a system

abbrev pub rows_lent : DenseSystem → List Row
rows_lent s = rows_of s.m s.w s.rows.now s.constants.now

abbrev pub rules_in : DenseSystem → Rules
rules_in s = dense_rules s.n s.m s.w s.rows.now s.constants.now
