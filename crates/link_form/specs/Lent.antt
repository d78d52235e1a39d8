-- What the file program serves and what it lends.
use Rattle.std.specs.Prelude.{◌≡◌, Bool, ◌&&◌, List, ℕ, ◌≤◌, length, drop, leb}
use Rattle.std.proofs.Math.Option.{some}
use Rattle.gf2.specs.Equation.{Equation}
use Rattle.system.specs.Fits.{listed_in}
use Rattle.link_form.specs.File.{width, header_bytes, max_bytes, read_rows, rows_at}

-- ---- the largest n, m and t that are served

abbrev pub most_variables : ℕ
most_variables = 512

abbrev pub most_rows : ℕ
most_rows = 256

abbrev pub most_listed : ℕ
most_listed = 2048

-- no size is above the largest
abbrev pub sizes_served : ℕ → ℕ → ℕ → Bool
sizes_served n m t = leb n most_variables && (leb m most_rows && leb t most_listed)

-- ---- the work areas that are lent, all zero

abbrev pub lent_numbers : ℕ
lent_numbers = 8192

abbrev pub lent_words : ℕ
lent_words = 512

abbrev pub lent_bytes : ℕ
lent_bytes = 1024

-- ---- a file that is served

-- the m rows after the header; no rows where they are not all there
abbrev pub file_rows : ℕ → ℕ → List ℕ → List Equation
file_rows kind m bytes = rows_at kind width m header_bytes bytes

-- the file is whole, and no size is above the largest
pub record Served (kind n m : ℕ) (bytes : List ℕ) : Type 0 where
  pub whole : read_rows kind width m (drop header_bytes bytes) ≡ some (file_rows kind m bytes)
  pub header : header_bytes ≤ length bytes
  pub short : length bytes ≤ max_bytes
  pub few_variables : n ≤ most_variables
  pub few_rows : m ≤ most_rows
  pub few_listed : listed_in (file_rows kind m bytes) ≤ most_listed
