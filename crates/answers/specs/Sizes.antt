-- The largest sizes, and the room that each engine asks for.
use Rattle.std.specs.Prelude.{ℕ, ◌+◌, ◌*◌}

-- n: variables, vertices, cells
abbrev pub max_variables : ℕ
max_variables = 16384

-- m: equations, rows, edges
abbrev pub max_equations : ℕ
max_equations = 16384

-- t: listed variables of a system
abbrev pub max_listed : ℕ
max_listed = 65536

-- w: words of a dense row
abbrev pub max_row_words : ℕ
max_row_words = 256

-- variables in one list of the sum
abbrev pub max_summed : ℕ
max_summed = 65536

-- ---- rooms: numbers are 32-bit, words 64-bit

-- m rows of n numbers, a scratch row and the rows' lengths; their constants
abbrev pub row_numbers : ℕ → ℕ → ℕ
row_numbers n m = m * n + n + m

abbrev pub row_words : ℕ → ℕ
row_words m = m

abbrev pub sparse_numbers : ℕ → ℕ → ℕ
sparse_numbers n m = row_numbers n m

abbrev pub sparse_words : ℕ → ℕ
sparse_words m = row_words m

abbrev pub lazy_numbers : ℕ → ℕ → ℕ → ℕ
lazy_numbers n m t = 2 * (m * n) + t + 6 * n + 7 * m + 2

abbrev pub lazy_words : ℕ → ℕ
lazy_words m = 2 * m

abbrev pub dense_numbers : ℕ → ℕ
dense_numbers m = m

abbrev pub dense_words : ℕ → ℕ → ℕ
dense_words m w = m * w + m

abbrev pub peel_high_numbers : ℕ → ℕ → ℕ
peel_high_numbers n m = 2 * n + m

abbrev pub peel_high_bytes : ℕ → ℕ → ℕ
peel_high_bytes n m = n + m

abbrev pub peel_low_numbers : ℕ → ℕ
peel_low_numbers n = 2 * n

abbrev pub peel_low_bytes : ℕ → ℕ
peel_low_bytes n = n
