-- Rows and their bytes determine each other, whatever the width of a number.
use mathlib.Core.Path.{◌≡◌, refl, sym, ap, subst, ◌∙◌}
use mathlib.Core.Bool.{Bool, true, false, true≢false}
use mathlib.Core.List.{List, [], ◌∷◌, ◌++◌, append_assoc}
use mathlib.Core.Option.{Option, none, some}
use Prim.Native.Nat.{ℕ, zero, suc, ◌+◌, ◌*◌, ◌≤◌, ◌<◌}
use native.Mathlib.Omega.{arith}
use lib.ListN.{length, take, drop, length-append, length-drop, take-append-drop}
use lib.Seq.{take_at, drop_at, take-add}
use lib.Dec.{eqb, leb}
use borrow.Author.Tests.{eqb-true, eqb-false, eq-eqb, ne_eqb, le-leb, leb-true}
use Rattle.gf2.specs.Equation.{Equation, Each}
use Rattle.gf2.proofs.Each.{each_drop}
use Rattle.areas.specs.Stretch.{stretch}
use Rattle.areas.proofs.Stretch.{stretch_at}
use Rattle.answers.specs.Calls.{pick}
use Rattle.link_form.specs.Bytes.{little, power, bytes_of, all_bytes}
use Rattle.link_form.specs.File.{peel_kind, count_bytes, count, row_bytes, row, before, read_rows, row_out, rows_out}
use Rattle.link_form.specs.Fitting.{AllBytes, RowFits}
use Rattle.link_form.proofs.Numbers.{length_bytes_of, little_bytes_of, bytes_of_taken, taken_small, length_all_bytes, fields_all_bytes, all_bytes_fields, fields_small}
use Rattle.link_form.proofs.Scanning.{length_fields}

-- ---- the count, in the two cases

-- the bytes of the count
abbrev head : Bool → ℕ → ℕ → List ℕ
head edge w k = pick edge [] (bytes_of w k)

head_length : (edge : Bool) (w k : ℕ) → length (head edge w k) ≡ pick edge 0 w
head_length true w k = refl
head_length false w k = length_bytes_of w k

head_counts : (edge : Bool) (w k : ℕ) (rest : List ℕ) → (edge ≡ true → k ≡ 3) → (edge ≡ false → k < power w) → pick edge 3 (little (take w (head edge w k ++ rest))) ≡ k
head_counts true w k rest t f = sym (t refl)
head_counts false w k rest t f = rw (take_at (bytes_of w k) rest w (length_bytes_of w k)) (little_bytes_of w k (f refl))

head_back : (edge : Bool) (w : ℕ) (bytes : List ℕ) → AllBytes bytes → pick edge 0 w ≤ length bytes → head edge w (pick edge 3 (little (take w bytes))) ≡ take (pick edge 0 w) bytes
head_back true w bytes a h = refl
head_back false w bytes a h = bytes_of_taken w bytes a h

-- ---- one row, written and read

module _ (kind w : ℕ) (r : Equation) where
  parts : (rest : List ℕ) → row_out kind w r ++ rest ≡ head (eqb kind peel_kind) w (length r.vars) ++ (all_bytes w r.vars ++ (bytes_of 8 r.c ++ rest))
  unfolding row_out
  parts rest = simp append_assoc

  count_written : (rest : List ℕ) → RowFits kind w r → count kind w (row_out kind w r ++ rest) ≡ length r.vars
  unfolding count
  count_written rest f =
      rw (parts rest)
      (head_counts (eqb kind peel_kind) w (length r.vars) (all_bytes w r.vars ++ (bytes_of 8 r.c ++ rest))
      (λ e. f.three (eqb-true kind peel_kind e)) (λ e. f.counted (eqb-false kind peel_kind e)))

  row_length : length (row_out kind w r) ≡ count_bytes kind w + length r.vars * w + 8
  unfolding row_out
  row_length =
      let h = head_length (eqb kind peel_kind) w (length r.vars) in
      let v = length_all_bytes w r.vars in
      let c = length_bytes_of 8 r.c in
      simp (length-append, h, v, c) (omega arith)

  row_bytes_written : (rest : List ℕ) → RowFits kind w r → row_bytes kind w (row_out kind w r ++ rest) ≡ length (row_out kind w r)
  unfolding row_bytes
  row_bytes_written rest f = rw (count_written rest f) (sym row_length)

  pub row_written : (rest : List ℕ) → RowFits kind w r → row kind w (row_out kind w r ++ rest) ≡ r
  unfolding row
  row_written rest f =
      let h = head_length (eqb kind peel_kind) w (length r.vars) in
      let v = length_all_bytes w r.vars in
      rw (
        count_written rest f,
        parts rest,
        drop_at (head (eqb kind peel_kind) w (length r.vars)) (all_bytes w r.vars ++ (bytes_of 8 r.c ++ rest)) (count_bytes kind w) h,
        fields_all_bytes w r.vars (bytes_of 8 r.c ++ rest) f.low,
        ← (append_assoc (head (eqb kind peel_kind) w (length r.vars)) (all_bytes w r.vars) (bytes_of 8 r.c ++ rest)),
        stretch_at (count_bytes kind w + length r.vars * w) 8 (head (eqb kind peel_kind) w (length r.vars) ++ all_bytes w r.vars) (bytes_of 8 r.c) rest
            (simp (length-append, h, v)) (length_bytes_of 8 r.c),
        little_bytes_of 8 r.c f.word,
      )

-- ---- all rows, written and read

rows_more : (kind w m : ℕ) (bytes : List ℕ) → row_bytes kind w bytes ≤ length bytes
    → read_rows kind w (suc m) bytes ≡ before (row kind w bytes) (read_rows kind w m (drop (row_bytes kind w bytes) bytes))
unfolding read_rows
rows_more kind w m bytes h = rw (le-leb (row_bytes kind w bytes) (length bytes) h, read_rows)

-- what fits is read as it was written
pub rows_written : (kind w : ℕ) (rows : List Equation) → Each (RowFits kind w) rows → read_rows kind w (length rows) (rows_out kind w rows) ≡ some rows
unfolding rows_out read_rows
rows_written kind w [] f = refl
rows_written kind w (r ∷ rows) f =
    let rest : List ℕ = rows_out kind w rows in
    let b = row_bytes_written kind w r rest f.0 in
    let l = length-append (row_out kind w r) rest in
    rows_more kind w (length rows) (row_out kind w r ++ rest) (omega arith)
    ∙ rw (row_written kind w r rest f.0, drop_at (row_out kind w r) rest (row_bytes kind w (row_out kind w r ++ rest)) (sym b), rows_written kind w rows f.1)

-- rows that fit two widths are read alike from both
pub widths_agree : (kind w v : ℕ) (rows : List Equation) → Each (RowFits kind w) rows → Each (RowFits kind v) rows
    → read_rows kind w (length rows) (rows_out kind w rows) ≡ read_rows kind v (length rows) (rows_out kind v rows)
widths_agree kind w v rows f g = rows_written kind w rows f ∙ sym (rows_written kind v rows g)

-- ---- one row, read and written

small_count : (edge : Bool) (w : ℕ) (bytes : List ℕ) → AllBytes bytes → pick edge 0 w ≤ length bytes → edge ≡ false → pick edge 3 (little (take w bytes)) < power w
small_count true w bytes a h e = absurd (true≢false e)
small_count false w bytes a h e = taken_small w bytes a h

module _ (kind w : ℕ) (bytes : List ℕ) (all : AllBytes bytes) (there : row_bytes kind w bytes ≤ length bytes) where
  rooms : (count_bytes kind w ≤ length bytes) × (count kind w bytes * w ≤ length (drop (count_bytes kind w) bytes)) × (8 ≤ length (drop (count_bytes kind w + count kind w bytes * w) bytes))
  rooms =
      let h : count_bytes kind w + count kind w bytes * w + 8 ≤ length bytes = sized there in
      let a = length-drop (count_bytes kind w) bytes in
      let b = length-drop (count_bytes kind w + count kind w bytes * w) bytes in
      (omega arith, omega arith, omega arith)
    where
      sized : row_bytes kind w bytes ≤ length bytes → count_bytes kind w + count kind w bytes * w + 8 ≤ length bytes
      sized h = unfold row_bytes in h

  count_back : head (eqb kind peel_kind) w (count kind w bytes) ≡ take (count_bytes kind w) bytes
  unfolding count
  count_back = head_back (eqb kind peel_kind) w bytes all rooms.0

  -- the bytes of a row are those that its reading is written as
  pub row_read : row_out kind w (row kind w bytes) ≡ take (row_bytes kind w bytes) bytes
  unfolding row_out row row_bytes stretch
  row_read =
      let cb : ℕ = count_bytes kind w in
      let k : ℕ = count kind w bytes in
      rw (
        length_fields w k (drop cb bytes),
        count_back,
        all_bytes_fields w k (drop cb bytes) (each_drop (λ b. b < 256) bytes cb all) rooms.1,
        bytes_of_taken 8 (drop (cb + k * w) bytes) (each_drop (λ b. b < 256) bytes (cb + k * w) all) rooms.2,
        take-add (cb + k * w) 8 bytes,
        take-add cb (k * w) bytes,
      )
      (sym (append_assoc (take cb bytes) (take (k * w) (drop cb bytes)) (take 8 (drop (cb + k * w) bytes))))

  three_counted : kind ≡ peel_kind → count kind w bytes ≡ 3
  unfolding count
  three_counted e = simp (eq-eqb kind peel_kind e)

  pub row_fits : RowFits kind w (row kind w bytes)
  unfolding row count stretch
  row_fits =
      let cb : ℕ = count_bytes kind w in
      let k : ℕ = count kind w bytes in
      let l = length_fields w k (drop cb bytes) in
      record {
        three = λ e. l ∙ three_counted e;
        counted = λ h. rw l (small_count (eqb kind peel_kind) w bytes all rooms.0 (ne_eqb kind peel_kind h));
        low = fields_small w k (drop cb bytes) (each_drop (λ b. b < 256) bytes cb all) rooms.1;
        word = taken_small 8 (drop (cb + k * w) bytes) (each_drop (λ b. b < 256) bytes (cb + k * w) all) rooms.2;
      }

-- ---- all rows, read and written

-- a reading of k + 1 rows, taken apart
pub record Taken (kind w m : ℕ) (bytes : List ℕ) (rows : List Equation) : Type 0 where
  pub others : List Equation
  pub there : row_bytes kind w bytes ≤ length bytes
  pub reads : read_rows kind w m (drop (row_bytes kind w bytes) bytes) ≡ some others
  pub all : rows ≡ row kind w bytes ∷ others

pub taken : (kind w m : ℕ) (bytes : List ℕ) (rows : List Equation) → read_rows kind w (suc m) bytes ≡ some rows → Taken kind w m bytes rows
unfolding read_rows
taken kind w m bytes rows e = go (leb (row_bytes kind w bytes) (length bytes)) refl e
  where
    inner : row_bytes kind w bytes ≤ length bytes → (o : Option (List Equation)) → read_rows kind w m (drop (row_bytes kind w bytes) bytes) ≡ o → before (row kind w bytes) o ≡ some rows → Taken kind w m bytes rows
    inner h none p q = absurd (let z : ◌≡◌ {A = ℕ} 0 1 = cc in omega arith)
    inner h (some rs) p q = record { others = rs; there = h; reads = p; all = cc }

    go : (b : Bool) → leb (row_bytes kind w bytes) (length bytes) ≡ b
        → ◌≡◌ {A = Option (List Equation)} (elim b [ true ↦ before (row kind w bytes) (read_rows kind w m (drop (row_bytes kind w bytes) bytes)) | false ↦ none ]) (some rows)
        → Taken kind w m bytes rows
    go true p q = inner (leb-true (row_bytes kind w bytes) (length bytes) p) (read_rows kind w m (drop (row_bytes kind w bytes) bytes)) refl q
    go false p q = absurd (let z : ◌≡◌ {A = ℕ} 0 1 = cc in omega arith)

-- what is read is written as it was
pub rows_read : (kind w m : ℕ) (bytes : List ℕ) (rows : List Equation) → AllBytes bytes → read_rows kind w m bytes ≡ some rows → rows_out kind w rows ≡ bytes
unfolding read_rows rows_out
rows_read kind w zero [] rows a e = let q : rows ≡ [] = cc in rw q
rows_read kind w zero (b ∷ bytes) rows a e = absurd (let z : ◌≡◌ {A = ℕ} 0 1 = cc in omega arith)
rows_read kind w (suc m) bytes rows a e =
    let t = taken kind w m bytes rows e in
    let s : ℕ = row_bytes kind w bytes in
    ap (rows_out kind w) t.all
    ∙ rw (row_read kind w bytes a t.there, rows_read kind w m (drop s bytes) t.others (each_drop (λ b. b < 256) bytes s a) t.reads) (take-append-drop s bytes)

-- and it fits
pub rows_fit : (kind w m : ℕ) (bytes : List ℕ) (rows : List Equation) → AllBytes bytes → read_rows kind w m bytes ≡ some rows → Each (RowFits kind w) rows
unfolding read_rows
rows_fit kind w zero [] rows a e = let q : [] ≡ rows = cc in subst (λ rs. Each (RowFits kind w) rs) q _
rows_fit kind w zero (b ∷ bytes) rows a e = absurd (let z : ◌≡◌ {A = ℕ} 0 1 = cc in omega arith)
rows_fit kind w (suc m) bytes rows a e =
    let t = taken kind w m bytes rows e in
    let s : ℕ = row_bytes kind w bytes in
    subst (λ rs. Each (RowFits kind w) rs) (sym t.all) (row_fits kind w bytes a t.there, rows_fit kind w m (drop s bytes) t.others (each_drop (λ b. b < 256) bytes s a) t.reads)
