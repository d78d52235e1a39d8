-- A file and the link that it describes determine each other.
use mathlib.Core.Path.{◌≡◌, refl, sym, ap, ◌∙◌}
use mathlib.Core.Bool.{Bool, true, false}
use mathlib.Core.List.{List, ◌∷◌, ◌++◌}
use mathlib.Core.Logic.{◌↔◌}
use mathlib.Core.Option.{Option, none, some}
use Prim.Native.Nat.{ℕ, ◌+◌, ◌%◌, ◌≤◌, ◌<◌}
use native.Mathlib.Omega.{arith}
use lib.ListN.{length, drop, length-append, length-drop, take-append-drop}
use lib.Seq.{take_at, drop-drop}
use lib.Dec.{eqb, leb}
use borrow.Author.Tests.{eqb-true, leb-true}
use Rattle.gf2.specs.Equation.{Equation}
use Rattle.gf2.proofs.Each.{each_drop}
use Rattle.gf2.proofs.Both.{both}
use Rattle.areas.specs.Stretch.{stretch}
use Rattle.link_form.specs.Bytes.{little, power, field, bytes_of}
use Rattle.link_form.specs.File.{Malformed, Link, max_bytes, header_bytes, width, mark, kind_of, sparse_kind, peel_kind, header_kept, described, read_rows, read_file, form_of, rows_out, write_file}
use Rattle.link_form.specs.Fitting.{AllBytes, LinkFits}
use Rattle.link_form.proofs.Numbers.{length_bytes_of, little_bytes_of, bytes_of_taken, taken_small}
use Rattle.link_form.proofs.Scanning.{length_rows}
use Rattle.link_form.proofs.RoundTrip.{rows_written, rows_read, rows_fit}
use Rattle.link_form.proofs.Header.{header_kept_lem, read_by_rows}

-- ---- written and read

-- the file after the kind
abbrev body : Link → List ℕ
body f = bytes_of width f.n ++ (bytes_of width (length f.rows) ++ rows_out f.kind width f.rows)

written : (f : Link) → write_file f ≡ 76 ∷ 78 ∷ 75 ∷ 1 ∷ 0 ∷ f.kind ∷ body f
unfolding write_file bytes_of
written f = refl

kind_back : (f : Link) → kind_of (write_file f) ≡ f.kind
unfolding stretch little
kind_back f = rw (written f) (omega arith)

n_back : (f : Link) → LinkFits f → field width 6 (write_file f) ≡ f.n
unfolding stretch
n_back f l =
    rw (written f, take_at (bytes_of width f.n) (bytes_of width (length f.rows) ++ rows_out f.kind width f.rows) width (length_bytes_of width f.n))
    (little_bytes_of width f.n l.few_variables)

after_n : (f : Link) → drop 8 (write_file f) ≡ bytes_of width (length f.rows) ++ rows_out f.kind width f.rows
unfolding bytes_of write_file
after_n f = refl

m_back : (f : Link) → LinkFits f → field width 8 (write_file f) ≡ length f.rows
unfolding stretch
m_back f l =
    rw (after_n f, take_at (bytes_of width (length f.rows)) (rows_out f.kind width f.rows) width (length_bytes_of width (length f.rows)))
    (little_bytes_of width (length f.rows) l.few_rows)

rows_back : (f : Link) → drop header_bytes (write_file f) ≡ rows_out f.kind width f.rows
unfolding bytes_of write_file
rows_back f = refl

long : (f : Link) → header_bytes ≤ length (write_file f)
long f =
    let a = length-append (bytes_of width f.n) (bytes_of width (length f.rows) ++ rows_out f.kind width f.rows) in
    let b = length-append (bytes_of width (length f.rows)) (rows_out f.kind width f.rows) in
    let d = length_bytes_of width f.n in
    let e = length_bytes_of width (length f.rows) in
    rw (written f) (omega arith)

-- a link that fits is read as it was written
pub link_written : (f : Link) → LinkFits f → read_file (write_file f) ≡ some f
unfolding stretch little
link_written f l =
    let k = kind_back f in
    read_by_rows (write_file f)
    (header_kept_lem (write_file f) l.short (long f) (rw (written f)) (rw (written f)) (rw k l.lowest) (rw k l.highest))
    ∙ rw (k, n_back f l, m_back f l, rows_back f, rows_written f.kind width f.rows l.each)

-- ---- read and written

-- what the header's tests say, and what was read
pub record Read (bytes : List ℕ) (f : Link) : Type 0 where
  pub short : length bytes ≤ max_bytes
  pub long : header_bytes ≤ length bytes
  pub marked : field 3 0 bytes ≡ mark
  pub version : field 2 3 bytes ≡ 1
  pub lowest : sparse_kind ≤ kind_of bytes
  pub highest : kind_of bytes ≤ peel_kind
  pub kind : f.kind ≡ kind_of bytes
  pub n : f.n ≡ field width 6 bytes
  pub rows : read_rows (kind_of bytes) width (field width 8 bytes) (drop header_bytes bytes) ≡ some f.rows

pub read_is : (bytes : List ℕ) (f : Link) → read_file bytes ≡ some f → Read bytes f
unfolding read_file header_kept
read_is bytes f e = go (header_kept bytes) refl e
  where
    inner : header_kept bytes ≡ true → (o : Option (List Equation)) → read_rows (kind_of bytes) width (field width 8 bytes) (drop header_bytes bytes) ≡ o
        → described (kind_of bytes) (field width 6 bytes) o ≡ some f → Read bytes f
    inner k none p q = absurd (let z : ◌≡◌ {A = ℕ} 0 1 = cc in omega arith)
    inner k (some rs) p q =
        let g : f ≡ record { kind = kind_of bytes; n = field width 6 bytes; rows = rs } = cc in
        let a = both (leb (length bytes) max_bytes) _ k in
        let b = both (leb header_bytes (length bytes)) _ a.1 in
        let c = both (eqb (field 3 0 bytes) mark) _ b.1 in
        let d = both (eqb (field 2 3 bytes) 1) _ c.1 in
        let h = both (leb sparse_kind (kind_of bytes)) _ d.1 in
        record {
          short = leb-true (length bytes) max_bytes a.0;
          long = leb-true header_bytes (length bytes) b.0;
          marked = eqb-true (field 3 0 bytes) mark c.0;
          version = eqb-true (field 2 3 bytes) 1 d.0;
          lowest = leb-true sparse_kind (kind_of bytes) h.0;
          highest = leb-true (kind_of bytes) peel_kind h.1;
          kind = ap (λ (l : Link). l.kind) g;
          n = ap (λ (l : Link). l.n) g;
          rows = p ∙ ap (λ (l : Link). some l.rows) (sym g);
        }

    go : (b : Bool) → header_kept bytes ≡ b
        → ◌≡◌ {A = Option Link} (elim b [ true ↦ described (kind_of bytes) (field width 6 bytes) (read_rows (kind_of bytes) width (field width 8 bytes) (drop header_bytes bytes)) | false ↦ none ]) (some f)
        → Read bytes f
    go true p q = inner p (read_rows (kind_of bytes) width (field width 8 bytes) (drop header_bytes bytes)) refl q
    go false p q = absurd (let z : ◌≡◌ {A = ℕ} 0 1 = cc in omega arith)

split : (b w : ℕ) (bytes : List ℕ) → stretch b w bytes ++ drop (b + w) bytes ≡ drop b bytes
unfolding stretch
split b w bytes = rw (← (drop-drop w b bytes)) (take-append-drop w (drop b bytes))

field_bytes : (w b : ℕ) (bytes : List ℕ) → AllBytes bytes → b + w ≤ length bytes → bytes_of w (field w b bytes) ≡ stretch b w bytes
unfolding stretch
field_bytes w b bytes a h = let l = length-drop b bytes in bytes_of_taken w (drop b bytes) (each_drop (λ x. x < 256) bytes b a) (omega arith)

field_small : (w b : ℕ) (bytes : List ℕ) → AllBytes bytes → b + w ≤ length bytes → field w b bytes < power w
unfolding stretch
field_small w b bytes a h = let l = length-drop b bytes in taken_small w (drop b bytes) (each_drop (λ x. x < 256) bytes b a) (omega arith)

by_fields : (f : Link) → f.kind ≤ peel_kind → write_file f ≡ bytes_of 3 mark ++ (bytes_of 2 1 ++ (bytes_of 1 f.kind ++ body f))
unfolding write_file bytes_of
by_fields f h = let e : f.kind % 256 ≡ f.kind = omega arith in rw e

-- the file is written as it was
pub link_read : (bytes : List ℕ) (f : Link) → AllBytes bytes → read_file bytes ≡ some f → write_file f ≡ bytes
link_read bytes f a e =
    let r = read_is bytes f e in
    let l = r.long in
    let h = r.highest in
    let k = r.kind in
    let m : length f.rows ≡ field width 8 bytes = length_rows (kind_of bytes) width (field width 8 bytes) (drop header_bytes bytes) f.rows r.rows in
    let q : bytes_of 3 mark ≡ stretch 0 3 bytes = ap (bytes_of 3) (sym r.marked) ∙ field_bytes 3 0 bytes a (omega arith) in
    let v : bytes_of 2 1 ≡ stretch 3 2 bytes = ap (bytes_of 2) (sym r.version) ∙ field_bytes 2 3 bytes a (omega arith) in
    by_fields f (omega arith)
    ∙ rw (
      q,
      v,
      m,
      r.n,
      k,
      rows_read (kind_of bytes) width (field width 8 bytes) (drop header_bytes bytes) f.rows (each_drop (λ x. x < 256) bytes header_bytes a) r.rows,
      field_bytes 1 5 bytes a (omega arith),
      field_bytes 2 6 bytes a (omega arith),
      field_bytes 2 8 bytes a (omega arith),
      split 8 2 bytes,
      split 6 2 bytes,
      split 5 1 bytes,
      split 3 2 bytes,
    )
    (split 0 3 bytes)

-- and the link fits
pub link_fits : (bytes : List ℕ) (f : Link) → AllBytes bytes → read_file bytes ≡ some f → LinkFits f
link_fits bytes f a e =
    let r = read_is bytes f e in
    let l = r.long in
    let h = r.highest in
    let g = r.lowest in
    let k = r.kind in
    let m : length f.rows ≡ field width 8 bytes = length_rows (kind_of bytes) width (field width 8 bytes) (drop header_bytes bytes) f.rows r.rows in
    record {
      lowest = omega arith;
      highest = omega arith;
      few_variables = rw r.n (field_small 2 6 bytes a (omega arith));
      few_rows = rw m (field_small 2 8 bytes a (omega arith));
      each = rw k (rows_fit (kind_of bytes) width (field width 8 bytes) (drop header_bytes bytes) f.rows (each_drop (λ x. x < 256) bytes header_bytes a) r.rows);
      short = rw (link_read bytes f a e) r.short;
    }

-- no two files describe one link
pub one_file : (a b : List ℕ) (f : Link) → AllBytes a → AllBytes b → read_file a ≡ some f → read_file b ≡ some f → a ≡ b
one_file a b f p q d e = sym (link_read a f p d) ∙ link_read b f q e

-- 9 exactly where no link that fits is written as these bytes
pub nine_exact : (bytes : List ℕ) → AllBytes bytes → (form_of (read_file bytes) ≡ Malformed) ↔ ((f : Link) → LinkFits f → write_file f ≡ bytes → ⊥)
nine_exact bytes all = (there, back (read_file bytes) refl)
  where
    there : form_of (read_file bytes) ≡ Malformed → (f : Link) → LinkFits f → write_file f ≡ bytes → ⊥
    there e f l q = let s : form_of (some f) ≡ Malformed = ap form_of (sym (link_written f l) ∙ ap read_file q) ∙ e in let z : ◌≡◌ {A = ℕ} 0 1 = cc in omega arith

    back : (o : Option Link) → read_file bytes ≡ o → ((f : Link) → LinkFits f → write_file f ≡ bytes → ⊥) → form_of o ≡ Malformed
    back none e h = refl
    back (some f) e h = absurd (h f (link_fits bytes f all e) (link_read bytes f all e))
