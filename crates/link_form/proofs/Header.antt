-- The header of a file, test by test, and what the scan of the rows says of the whole.
use mathlib.Core.Path.{◌≡◌, refl, sym, ap, ◌∙◌}
use mathlib.Core.Bool.{Bool, true, false, true≢false, and-false}
use mathlib.Core.List.{List, [], ◌∷◌, ◌++◌}
use mathlib.Core.Option.{Option, none, some}
use Prim.Native.Nat.{ℕ, ◌+◌, ◌≤◌, ◌<◌}
use native.Mathlib.Omega.{arith}
use lib.ListN.{length, take, drop, get_or, take-append-drop}
use lib.Dec.{eqb}
use Rattle.std.specs.List.{starts_with}
use Rattle.std.proofs.lemmas.Slice.Eq.{starts_is}
use Rattle.std.proofs.lemmas.Bool.Decides.{Decides-eqb}
use Rattle.areas.specs.Stretch.{stretch}
use Rattle.gf2.proofs.Each.{each_from}
use borrow.Author.Tests.{eq-eqb, ne_eqb, le-leb, lt-leb}
use Rattle.gf2.specs.Equation.{Equation}
use Rattle.system.specs.Fits.{listed_in}
use Rattle.link_form.specs.Bytes.{little, bytes_of, field}
use Rattle.link_form.specs.Fitting.{AllBytes}
use Rattle.link_form.specs.Forms.{HeaderTells}
use Rattle.link_form.specs.Kinds.{number_of_kind, NamesKind}
use Rattle.link_form.specs.Rows.{rows_of, AreBehindHeader}
use Rattle.link_form.specs.declared.rows.Rows.{Rows}
use Rattle.link_form.specs.declared.kind.Kind.{Kind}
use Rattle.link_form.specs.declared.kind.Kind.TheVariants.{Sparse, Lazy, Peel}
use Rattle.answers.specs.declared.refusal.Refusal.{Refusal}
use Rattle.std.proofs.Common.{Result, Ok, Err}
use mathlib.Core.Logic.{inl, inr}
use Rattle.link_form.proofs.Numbers.{bytes_of_taken}
use Rattle.link_form.specs.File.{Scan, Broken, Listed, Form, Malformed, Described, max_bytes, header_bytes, width, mark, kind_of, sparse_kind, peel_kind, header_kept, described, read_rows, read_file, scan_of, form_of}
use Rattle.link_form.proofs.Scanning.{length_rows}

module _ (bytes : List ℕ) where
  pub too_long : max_bytes < length bytes → header_kept bytes ≡ false
  unfolding header_kept
  too_long h = simp (lt-leb (length bytes) max_bytes h)

  pub too_short : length bytes < header_bytes → header_kept bytes ≡ false
  unfolding header_kept
  too_short h = simp (lt-leb header_bytes (length bytes) h, and-false)

  pub other_mark : (field 3 0 bytes ≡ mark → ⊥) → header_kept bytes ≡ false
  unfolding header_kept
  other_mark h = simp (ne_eqb (field 3 0 bytes) mark h, and-false)

  pub other_version : (field 2 3 bytes ≡ 1 → ⊥) → header_kept bytes ≡ false
  unfolding header_kept
  other_version h = simp (ne_eqb (field 2 3 bytes) 1 h, and-false)

  pub low_kind : kind_of bytes < sparse_kind → header_kept bytes ≡ false
  unfolding header_kept
  low_kind h = simp (lt-leb sparse_kind (kind_of bytes) h, and-false)

  pub high_kind : peel_kind < kind_of bytes → header_kept bytes ≡ false
  unfolding header_kept
  high_kind h = simp (lt-leb (kind_of bytes) peel_kind h, and-false)

  pub malformed : header_kept bytes ≡ false → form_of (read_file bytes) ≡ Malformed
  unfolding read_file
  malformed e = rw (e, read_file)

  pub header_kept_lem : length bytes ≤ max_bytes → header_bytes ≤ length bytes → field 3 0 bytes ≡ mark → field 2 3 bytes ≡ 1 → sparse_kind ≤ kind_of bytes → kind_of bytes ≤ peel_kind
      → header_kept bytes ≡ true
  unfolding header_kept
  header_kept_lem a b d e f g =
      simp (
        le-leb (length bytes) max_bytes a,
        le-leb header_bytes (length bytes) b,
        eq-eqb (field 3 0 bytes) mark d,
        eq-eqb (field 2 3 bytes) 1 e,
        le-leb sparse_kind (kind_of bytes) f,
        le-leb (kind_of bytes) peel_kind g,
      )

  pub read_by_rows : header_kept bytes ≡ true
      → read_file bytes ≡ described (kind_of bytes) (field width 6 bytes) (read_rows (kind_of bytes) width (field width 8 bytes) (drop header_bytes bytes))
  unfolding read_file
  read_by_rows e = rw (e, read_file)

pub form_broken : (k n : ℕ) (o : Option (List Equation)) → scan_of 0 o ≡ Broken → form_of (described k n o) ≡ Malformed
form_broken k n none e = refl
form_broken k n (some rows) e = absurd (cc)

pub form_listed : (k n m t : ℕ) (o : Option (List Equation)) → ((rows : List Equation) → o ≡ some rows → length rows ≡ m) → scan_of 0 o ≡ Listed t
    → form_of (described k n o) ≡ Described k n m t
form_listed k n m t none f e = absurd (cc)
form_listed k n m t (some rows) f e =
    let q : 0 + listed_in rows ≡ t = cc in
    let p : listed_in rows ≡ t = omega arith in
    rw (f rows refl, p)

-- what the scan of the rows says of the whole file
abbrev pub form_of_scan : ℕ → ℕ → ℕ → Scan → Form
form_of_scan kind n m Broken = Malformed
form_of_scan kind n m (Listed t) = Described kind n m t

scanned : (kind n m : ℕ) (s : Scan) (o : Option (List Equation)) → ((rows : List Equation) → o ≡ some rows → length rows ≡ m) → s ≡ scan_of 0 o
    → form_of_scan kind n m s ≡ form_of (described kind n o)
scanned kind n m Broken o f e = sym (form_broken kind n o (sym e))
scanned kind n m (Listed t) o f e = sym (form_listed kind n m t o f (sym e))

-- the form, from the header's numbers as they were read
pub form_of_scan_lem : (bytes : List ℕ) (kind n m : ℕ) (s : Scan) → header_kept bytes ≡ true → kind ≡ kind_of bytes → n ≡ field width 6 bytes → m ≡ field width 8 bytes
    → s ≡ scan_of 0 (read_rows kind width m (drop header_bytes bytes)) → form_of_scan kind n m s ≡ form_of (read_file bytes)
form_of_scan_lem bytes kind n m s k e₂ e₃ e₄ q =
    rw (e₃, e₂, e₄) (scanned (kind_of bytes) (field width 6 bytes) (field width 8 bytes) s (read_rows (kind_of bytes) width (field width 8 bytes) (drop header_bytes bytes))
    (λ rows e. length_rows (kind_of bytes) width (field width 8 bytes) (drop header_bytes bytes) rows e) (rw (e₂, e₄) at q))
    ∙ ap form_of (sym (read_by_rows bytes k))

-- the form, from the header and the rows behind it
pub form_read : (bytes : List ℕ) (kind : Kind) (n m : ℕ) (rows : Rows) (s : Scan) → header_kept bytes ≡ true → number_of_kind kind ≡ kind_of bytes → n ≡ field width 6 bytes
    → m ≡ field width 8 bytes → AreBehindHeader bytes kind rows → s ≡ scan_of 0 (rows_of m rows) → form_of_scan (number_of_kind kind) n m s ≡ form_of (read_file bytes)
form_read bytes kind n m rows s h k e f r q = form_of_scan_lem bytes (number_of_kind kind) n m s h k e f (rw (r.kind_is, r.width_is, r.rest) at q)

-- ---- the kind

pub kind_known : (kind : Kind) → (sparse_kind ≤ number_of_kind kind) × (number_of_kind kind ≤ peel_kind)
kind_known Sparse = (omega arith, omega arith)
kind_known Lazy = (omega arith, omega arith)
kind_known Peel = (omega arith, omega arith)

-- a header that is whole up to its kind
pub header_tells : (bytes : List ℕ) (number : ℕ) (r : Result Kind Refusal) → NamesKind number r → number ≡ kind_of bytes → length bytes ≤ max_bytes → header_bytes ≤ length bytes
    → field 3 0 bytes ≡ mark → field 2 3 bytes ≡ 1 → HeaderTells bytes r
header_tells bytes number (Ok kind) n e short long m v =
    let k = kind_known kind in
    let q = n ∙ e in
    (header_kept_lem bytes short long m v (rw q at k.0) (rw q at k.1), q)
header_tells bytes number (Err refusal) n e short long m v =
    (elim n.1 [ inl low ↦ low_kind bytes (rw e at low) | inr high ↦ high_kind bytes (rw e at high) ], n.0)

-- ---- the mark

-- three bytes that are read as the mark are the letters LNK
marked_back : (bytes : List ℕ) → AllBytes bytes → 3 ≤ length bytes → field 3 0 bytes ≡ mark → bytes ≡ (76 ∷ 78 ∷ 75 ∷ []) ++ drop 3 bytes
unfolding stretch bytes_of
marked_back bytes all long e =
    let t : take 3 bytes ≡ 76 ∷ 78 ∷ 75 ∷ [] = sym (bytes_of_taken 3 bytes all long) ∙ ap (bytes_of 3) e in
    sym (take-append-drop 3 bytes) ∙ ap (λ (front : List ℕ). front ++ drop 3 bytes) t

marked_there : (bytes : List ℕ) → bytes ≡ (76 ∷ 78 ∷ 75 ∷ []) ++ drop 3 bytes → field 3 0 bytes ≡ mark
unfolding stretch little
marked_there bytes e = ap (λ (b : List ℕ). little (take 3 b)) e

-- what it says that a whole header begins with them, or not
pub marked : (bytes : List ℕ) → ((i : ℕ) → get_or bytes i 0 < 256) → 3 ≤ length bytes → (r : Bool) → r ≡ starts_with eqb bytes (76 ∷ 78 ∷ 75 ∷ [])
    → (r ≡ true → field 3 0 bytes ≡ mark) × (r ≡ false → field 3 0 bytes ≡ mark → ⊥)
marked bytes small long r e =
    let s = starts_is Decides-eqb bytes (76 ∷ 78 ∷ 75 ∷ []) r e in
    let all = each_from (λ b. b < 256) bytes 0 (λ i h. small i) in
    (λ t. marked_there bytes (s.0 t), λ f m. true≢false (sym (s.1 (drop 3 bytes) (marked_back bytes all long m)) ∙ f))
