-- What a described form says of the file: its rows are all there, and how much they are.
use mathlib.Core.Path.{◌≡◌, refl, sym, ap, ◌∙◌}
use mathlib.Core.List.{List}
use mathlib.Core.Option.{Option, none, some}
use Prim.Native.Nat.{ℕ, ◌≤◌}
use native.Mathlib.Omega.{arith}
use lib.ListN.{length, drop}
use Rattle.system.specs.Fits.{listed_in}
use Rattle.link_form.specs.Bytes.{field}
use Rattle.link_form.specs.File.{Described, Link, max_bytes, header_bytes, width, kind_of, read_rows, read_file, form_of, rows_in, rows_at}
use Rattle.link_form.proofs.Scanning.{length_rows}
use Rattle.link_form.proofs.OneFile.{read_is}

pub record Loadable (bytes : List ℕ) (kind n m t : ℕ) : Type 0 where
  pub reads : read_rows kind width m (drop header_bytes bytes) ≡ some (rows_at kind width m header_bytes bytes)
  pub link : read_file bytes ≡ some (record { kind = kind; n = n; rows = rows_at kind width m header_bytes bytes })
  pub long : header_bytes ≤ length bytes
  pub short : length bytes ≤ max_bytes
  pub many : length (rows_at kind width m header_bytes bytes) ≡ m
  pub listed : listed_in (rows_at kind width m header_bytes bytes) ≡ t

pub loadable : (bytes : List ℕ) (kind n m t : ℕ) → form_of (read_file bytes) ≡ Described kind n m t → Loadable bytes kind n m t
loadable bytes kind n m t e = go (read_file bytes) refl e
  where
    go : (o : Option Link) → read_file bytes ≡ o → form_of o ≡ Described kind n m t → Loadable bytes kind n m t
    go none p q = absurd (let z : ◌≡◌ {A = ℕ} 0 1 = cc in omega arith)
    go (some f) p q =
        let r = read_is bytes f p in
        let ek : f.kind ≡ kind = cc in
        let en : f.n ≡ n = cc in
        let em : length f.rows ≡ m = cc in
        let et : listed_in f.rows ≡ t = cc in
        let l = length_rows (kind_of bytes) width (field width 8 bytes) (drop header_bytes bytes) f.rows r.rows in
        let k : kind ≡ kind_of bytes = sym ek ∙ r.kind in
        let c : m ≡ field width 8 bytes = sym em ∙ l in
        let rs : read_rows kind width m (drop header_bytes bytes) ≡ some f.rows = rw (k, c) r.rows in
        let is : rows_at kind width m header_bytes bytes ≡ f.rows = ap rows_in rs in
        record {
          reads = rs ∙ ap some (sym is);
          link = p ∙ rw (is, ← ek, ← en);
          long = r.long;
          short = r.short;
          many = ap length is ∙ em;
          listed = ap listed_in is ∙ et;
        }
