-- The rows that are still to be read, in the words for a file's bytes.
use Rattle.std.specs.Prelude.{◌≡◌, ℕ, ◌<◌, ◌≤◌, List, length, drop, Option, MatchOption}
use Rattle.std.proofs.Math.Option as read
use Rattle.gf2.specs.Equation.{Equation}
use Rattle.link_form.specs.declared.kind.Kind.{Kind}
use Rattle.link_form.specs.declared.rows.Rows.{Rows}
use Rattle.link_form.specs.File.{header_bytes, width, count_bytes, count, row_bytes, row, read_rows}
use Rattle.link_form.specs.Kinds.{number_of_kind, StandsFor}

-- the bytes that say how many variables the next row lists
abbrev pub count_bytes_of : Rows → ℕ
count_bytes_of r = count_bytes (number_of_kind r.kind) r.width

-- how many variables it lists
abbrev pub count_of : Rows → ℕ
count_of r = count (number_of_kind r.kind) r.width r.rest.now

-- its length in bytes
abbrev pub row_bytes_of : Rows → ℕ
row_bytes_of r = row_bytes (number_of_kind r.kind) r.width r.rest.now

-- the row itself
abbrev pub row_of : Rows → Equation
row_of r = row (number_of_kind r.kind) r.width r.rest.now

-- m rows and nothing after them
abbrev pub rows_of : ℕ → Rows → read.Option (List Equation)
rows_of m r = read_rows (number_of_kind r.kind) r.width m r.rest.now

-- the rows of a file, behind its header
pub record AreBehindHeader (bytes : List ℕ) (kind : Kind) (rows : Rows) : Type 0 where
  pub rest : rows.rest.now ≡ drop header_bytes bytes
  pub kind_is : rows.kind ≡ kind
  pub width_is : rows.width ≡ width

-- the rows from `at` on, by the number of their kind
pub record StartAt (bytes : List ℕ) (at kind w : ℕ) (rows : Rows) : Type 0 where
  pub rest : rows.rest.now ≡ drop at bytes
  pub kind_stands : StandsFor kind rows.kind
  pub width_is : rows.width ≡ w

-- the next k bytes have been read
pub record Passed (k : ℕ) (old new : Rows) : Type 0 where
  pub rest : new.rest.now ≡ drop k old.rest.now
  pub kind : new.kind ≡ old.kind
  pub width : new.width ≡ old.width

-- the next row has been read, and it lists so many variables
pub record PassedRow (old new : Rows) (listed : ℕ) : Type 0 where
  pub there : row_bytes_of old ≤ length old.rest.now
  pub listed_is : listed ≡ count_of old
  pub passed : Passed (row_bytes_of old) old new

-- the next row, if its bytes are all there
abbrev pub PassesRow : Rows → Rows → Option ℕ → Type 0
PassesRow old new result = MatchOption result (length old.rest.now < row_bytes_of old) (λ listed. PassedRow old new listed)
