-- A walk over the rows of a file comes to its next row.
use mathlib.Core.Path.{◌≡◌, sym, ap, ◌∙◌}
use mathlib.Core.List.{List, [], ◌∷◌, ◌++◌}
use mathlib.Core.Option.{some}
use Prim.Native.Nat.{ℕ, suc, ◌+◌, ◌-◌, ◌≤◌, ◌<◌}
use native.Mathlib.Omega.{arith}
use lib.ListN.{length, take, drop}
use lib.Seq.{drop-drop, take-add}
use Rattle.gf2.specs.Equation.{Equation}
use Rattle.link_form.specs.File.{row_bytes, row, read_rows}
use Rattle.link_form.proofs.RoundTrip.{taken}

-- the row that is read next, and those after it
pub record Next (bytes : List ℕ) (kind w m : ℕ) (rows : List Equation) (i : ℕ) : Type 0 where
  pub there : row_bytes kind w bytes ≤ length bytes
  pub reads : read_rows kind w (m - (i + 1)) (drop (row_bytes kind w bytes) bytes) ≡ some (drop (i + 1) rows)
  pub more : take (i + 1) rows ≡ take i rows ++ (row kind w bytes ∷ [])

pub next_row : (bytes : List ℕ) (kind w m : ℕ) (rows : List Equation) (i : ℕ) → i < m → read_rows kind w (m - i) bytes ≡ some (drop i rows) → Next bytes kind w m rows i
next_row bytes kind w m rows i h e =
    let s : m - i ≡ suc (m - (i + 1)) = omega arith in
    let t = taken kind w (m - (i + 1)) bytes (drop i rows) (rw s at e) in
    record {
      there = t.there;
      reads = t.reads ∙ ap some (ap (drop 1) (sym t.all) ∙ drop-drop 1 i rows);
      more = take-add i 1 rows ∙ ap (λ (l : List Equation). take i rows ++ take 1 l) t.all;
    }
