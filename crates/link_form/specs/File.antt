-- A link file: its header, and rows of variables with a constant. An edge is a row of three variables.
use Rattle.std.specs.Prelude.{List, [], ◌∷◌, ◌++◌, Bool, true, false, ◌&&◌, ℕ, zero, suc, ◌+◌, ◌*◌, length, take, drop, eqb, leb}
use Rattle.std.proofs.Math.Option.{Option, none, some}
use Rattle.gf2.specs.Equation.{Equation, eqn}
use Rattle.answers.specs.Calls.{pick}
use Rattle.system.specs.Fits.{listed_in}
use Rattle.link_form.specs.Bytes.{little, field, fields, bytes_of, all_bytes}

-- the longest file
abbrev pub max_bytes : ℕ
max_bytes = 8192

-- the kinds, 1 to 3: sparse, lazy, low-memory peel
abbrev pub sparse_kind : ℕ
sparse_kind = 1

abbrev pub lazy_kind : ℕ
lazy_kind = 2

abbrev pub peel_kind : ℕ
peel_kind = 3

-- what a file describes
pub record Link : Type 0 where
  pub kind : ℕ
  pub n : ℕ
  pub rows : List Equation

-- ---- one row, in numbers of w bytes

-- the bytes that say how many variables follow; an edge has three and does not say it
abbrev pub count_bytes : ℕ → ℕ → ℕ
count_bytes kind w = pick (eqb kind peel_kind) 0 w

unfoldable pub count : ℕ → ℕ → List ℕ → ℕ
count kind w bytes = pick (eqb kind peel_kind) 3 (little (take w bytes))

-- the row's length in bytes: its count, its variables, its constant
unfoldable pub row_bytes : ℕ → ℕ → List ℕ → ℕ
row_bytes kind w bytes = count_bytes kind w + count kind w bytes * w + 8

unfoldable pub row : ℕ → ℕ → List ℕ → Equation
row kind w bytes = eqn (fields w (count kind w bytes) (drop (count_bytes kind w) bytes)) (field 8 (count_bytes kind w + count kind w bytes * w) bytes)

-- ---- the rows

abbrev pub before : Equation → Option (List Equation) → Option (List Equation)
before r none = none
before r (some rows) = some (r ∷ rows)

-- m rows and nothing after them; `none` where bytes are missing or left over
unfoldable pub read_rows : ℕ → ℕ → ℕ → List ℕ → Option (List Equation)
read_rows kind w zero [] = some []
read_rows kind w zero (b ∷ bytes) = none
read_rows kind w (suc m) bytes =
    elim (leb (row_bytes kind w bytes) (length bytes)) [
      | true ↦ before (row kind w bytes) (read_rows kind w m (drop (row_bytes kind w bytes) bytes))
      | false ↦ none
    ]

abbrev pub rows_in : Option (List Equation) → List Equation
rows_in none = []
rows_in (some rows) = rows

-- the m rows from `at` on; no rows where they are not all there
abbrev pub rows_at : ℕ → ℕ → ℕ → ℕ → List ℕ → List Equation
rows_at kind w m at bytes = rows_in (read_rows kind w m (drop at bytes))

-- ---- the whole file

-- a number of version 1 has two bytes
abbrev pub width : ℕ
width = 2

abbrev pub header_bytes : ℕ
header_bytes = 10

-- the letters LNK as a number of three bytes
abbrev pub mark : ℕ
mark = 76 + 78 * 256 + 75 * 65536

abbrev pub kind_of : List ℕ → ℕ
kind_of bytes = field 1 5 bytes

-- not too long, with a whole header: the mark LNK, version 1, a known kind
unfoldable pub header_kept : List ℕ → Bool
header_kept bytes =
    leb (length bytes) max_bytes
    && (leb header_bytes (length bytes)
    && (eqb (field 3 0 bytes) mark
    && (eqb (field 2 3 bytes) 1
    && (leb sparse_kind (kind_of bytes) && leb (kind_of bytes) peel_kind))))

abbrev pub described : ℕ → ℕ → Option (List Equation) → Option Link
described kind n none = none
described kind n (some rows) = some (record { kind = kind; n = n; rows = rows })

unfoldable pub read_file : List ℕ → Option Link
read_file bytes =
    elim (header_kept bytes) [
      | true ↦ described (kind_of bytes) (field width 6 bytes) (read_rows (kind_of bytes) width (field width 8 bytes) (drop header_bytes bytes))
      | false ↦ none
    ]

-- ---- what is known of a file before its rows are kept

-- how many variables the rows list, if all are there and nothing is left over
pub data Scan : Type 0 where
  Broken : Scan
  Listed : ℕ → Scan

-- what a file describes: its kind, n, m and t
pub data Form : Type 0 where
  Malformed : Form
  Described : ℕ → ℕ → ℕ → ℕ → Form

-- how many variables m rows list besides t others
abbrev pub scan_of : ℕ → Option (List Equation) → Scan
scan_of t none = Broken
scan_of t (some rows) = Listed (t + listed_in rows)

abbrev pub form_of : Option Link → Form
form_of none = Malformed
form_of (some f) = Described f.kind f.n (length f.rows) (listed_in f.rows)

-- ---- and back

unfoldable pub row_out : ℕ → ℕ → Equation → List ℕ
row_out kind w r = pick (eqb kind peel_kind) [] (bytes_of w (length r.vars)) ++ (all_bytes w r.vars ++ bytes_of 8 r.c)

unfoldable pub rows_out : ℕ → ℕ → List Equation → List ℕ
rows_out kind w [] = []
rows_out kind w (r ∷ rows) = row_out kind w r ++ rows_out kind w rows

-- the bytes that describe a link file
unfoldable pub write_file : Link → List ℕ
write_file f =
    (76 ∷ 78 ∷ 75 ∷ bytes_of 2 1)
    ++ (f.kind ∷ bytes_of width f.n ++ (bytes_of width (length f.rows) ++ rows_out f.kind width f.rows))
