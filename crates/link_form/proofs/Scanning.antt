-- The rows of a file, gone through one after the other.
use mathlib.Core.Path.{◌≡◌, refl, sym, ap, ◌∙◌}
use mathlib.Core.Bool.{Bool, true, false}
use mathlib.Core.List.{List, [], ◌∷◌}
use mathlib.Core.Option.{Option, none, some}
use mathlib.Core.Logic.{◌⊎◌, inl, inr}
use Prim.Native.Nat.{ℕ, zero, suc, ◌+◌, ◌-◌, ◌*◌, ◌≤◌, ◌<◌}
use native.Mathlib.Nat.{le_refl, mul-le-mul, add_assoc}
use native.Mathlib.Numerals.{add-one}
use native.Mathlib.Omega.{arith}
use lib.ListN.{length, take, drop, length-drop}
use lib.Seq.{drop-drop}
use lib.Dec.{eqb, leb}
use borrow.Author.Tests.{le-leb, lt-leb}
use Rattle.gf2.specs.Equation.{Equation}
use Rattle.answers.specs.Calls.{pick}
use Rattle.system.specs.Fits.{listed_in}
use Rattle.link_form.specs.declared.kind.Kind.{Kind}
use Rattle.link_form.specs.declared.kind.Kind.TheVariants.{Sparse, Lazy, Peel}
use Rattle.link_form.specs.declared.rows.Rows.{Rows}
use Rattle.link_form.specs.Bytes.{little, power, fields}
use Rattle.link_form.specs.File.{peel_kind, count_bytes, count, row_bytes, row, before, read_rows, Broken, Listed, scan_of}
use Rattle.link_form.specs.Kinds.{number_of_kind}
use Rattle.link_form.specs.Rows.{count_bytes_of, count_of, row_bytes_of, rows_of, Passed, PassedRow}

-- ---- one row

-- a row that says how many variables it lists
pub counted : (kind : Kind) (w : ℕ) (bytes : List ℕ) → (kind ≡ Sparse) ⊎ (kind ≡ Lazy)
    → (count (number_of_kind kind) w bytes ≡ little (take w bytes)) × (count_bytes (number_of_kind kind) w ≡ w)
unfolding count
counted Sparse w bytes h = (refl, refl)
counted Lazy w bytes h = (refl, refl)
counted Peel w bytes h = elim h [ inl e ↦ absurd (cc) | inr e ↦ absurd (cc) ]

-- four bytes hold less than 2 ^ 32, so a row's length fits
pub size_fits : (h k w : ℕ) → h ≤ w → w ≤ 4 → k < power 4 → (k * w ≤ 17179869180) × (h + k * w + 8 ≤ 17179869192)
unfolding power
size_fits h k w g f l =
    let b : k ≤ 4294967295 = omega arith in
    let m : k * w ≤ 4294967295 * 4 = mul-le-mul b f in
    (omega arith, omega arith)

-- what has been read in two steps
pub passed_more : {a b : ℕ} {old mid new : Rows} → Passed a old mid → Passed b mid new → Passed (a + b) old new
passed_more {a} {b} {old} {mid} {new} p q =
    record { rest = q.rest ∙ rw p.rest (drop-drop b a old.rest.now); kind = q.kind ∙ p.kind; width = q.width ∙ p.width }

-- the row behind its count
pub row_rest : (old now : Rows) (listed : ℕ) → listed ≡ count_of old → count_bytes_of old ≤ length old.rest.now → Passed (count_bytes_of old) old now
    → (row_bytes_of old ≡ count_bytes_of old + (listed * now.width + 8)) × (drop (listed * now.width + 8) now.rest.now ≡ drop (row_bytes_of old) old.rest.now)
    × (length now.rest.now + count_bytes_of old ≡ length old.rest.now)
unfolding row_bytes
row_rest old now listed e h p =
    let b : row_bytes_of old ≡ count_bytes_of old + (listed * now.width + 8) = rw (e, p.width) (add_assoc (count_bytes_of old) (count_of old * old.width) 8) in
    let d = length-drop (count_bytes_of old) old.rest.now in
    (b, rw (b, p.rest) (drop-drop (listed * now.width + 8) (count_bytes_of old) old.rest.now), rw p.rest (omega arith))

-- ---- all rows

pub length_fields : (w k : ℕ) (bytes : List ℕ) → length (fields w k bytes) ≡ k
unfolding fields
length_fields w zero bytes = refl
length_fields w (suc k) bytes = ap suc (length_fields w k (drop w bytes))

pub length_row : (kind w : ℕ) (bytes : List ℕ) → length (row kind w bytes).vars ≡ count kind w bytes
unfolding row
length_row kind w bytes = length_fields w (count kind w bytes) (drop (count_bytes kind w) bytes)

pub length_rows : (kind w m : ℕ) (bytes : List ℕ) (rows : List Equation) → read_rows kind w m bytes ≡ some rows → length rows ≡ m
unfolding read_rows
length_rows kind w zero [] rows e = let q : rows ≡ [] = cc in rw q
length_rows kind w zero (b ∷ bytes) rows e = absurd (let z : ◌≡◌ {A = ℕ} 0 1 = cc in omega arith)
length_rows kind w (suc m) bytes rows e =
    go (leb (row_bytes kind w bytes) (length bytes)) e (length_rows kind w m (drop (row_bytes kind w bytes) bytes))
  where
    inner : (o : Option (List Equation)) → before (row kind w bytes) o ≡ some rows → ((rs : List Equation) → o ≡ some rs → length rs ≡ m) → length rows ≡ suc m
    inner none q f = absurd (let z : ◌≡◌ {A = ℕ} 0 1 = cc in omega arith)
    inner (some rs) q f = let s : rows ≡ row kind w bytes ∷ rs = cc in rw s (ap suc (f rs refl))

    go : (b : Bool)
        → ◌≡◌ {A = Option (List Equation)} (elim b [ true ↦ before (row kind w bytes) (read_rows kind w m (drop (row_bytes kind w bytes) bytes)) | false ↦ none ]) (some rows)
        → ((rs : List Equation) → read_rows kind w m (drop (row_bytes kind w bytes) bytes) ≡ some rs → length rs ≡ m) → length rows ≡ suc m
    go true q f = inner (read_rows kind w m (drop (row_bytes kind w bytes) bytes)) q f
    go false q f = absurd (let z : ◌≡◌ {A = ℕ} 0 1 = cc in omega arith)

rows_missing : (kind w k : ℕ) (bytes : List ℕ) → length bytes < row_bytes kind w bytes → read_rows kind w (k + 1) bytes ≡ none
unfolding read_rows
rows_missing kind w k bytes h = rw (add-one, lt-leb (row_bytes kind w bytes) (length bytes) h, read_rows)

rows_whole : (kind w k : ℕ) (bytes : List ℕ) → row_bytes kind w bytes ≤ length bytes
    → read_rows kind w (k + 1) bytes ≡ before (row kind w bytes) (read_rows kind w k (drop (row_bytes kind w bytes) bytes))
unfolding read_rows
rows_whole kind w k bytes h = rw (add-one, le-leb (row_bytes kind w bytes) (length bytes) h, read_rows)

scan_before : (t : ℕ) (r : Equation) (o : Option (List Equation)) → scan_of t (before r o) ≡ scan_of (t + length r.vars) o
unfolding listed_in
scan_before t r none = refl
scan_before t r (some rows) = ap Listed (sym (add_assoc t (length r.vars) (listed_in rows)))

-- no row lists more variables than it has bytes
pub listed_fits : (kind w : ℕ) (bytes : List ℕ) → count kind w bytes ≤ row_bytes kind w bytes
unfolding row_bytes count little
listed_fits kind zero bytes =
    few (eqb kind peel_kind)
  where
    few : (edge : Bool) → pick edge 3 (little []) ≤ pick edge 0 0 + pick edge 3 (little []) * 0 + 8
    few true = omega arith
    few false = omega arith
listed_fits kind (suc w) bytes =
    let g : count kind (suc w) bytes * 1 ≤ count kind (suc w) bytes * suc w = mul-le-mul (le_refl (count kind (suc w) bytes)) (omega arith) in
    omega arith

-- i of m rows are gone through: they list t variables
pub record Scanning (begin now : Rows) (m t i : ℕ) : Type 0 where
  pub few : t + length now.rest.now ≤ length begin.rest.now
  pub so_far : scan_of t (rows_of (m - i) now) ≡ scan_of 0 (rows_of m begin)

pub scanning_begin : (r : Rows) (m : ℕ) → Scanning r r m 0 0
scanning_begin r m = let e : m - 0 ≡ m = omega arith in record { few = omega arith; so_far = rw e }

pub scanning_broken : {begin now : Rows} {m t i : ℕ} → Scanning begin now m t i → i < m → length now.rest.now < row_bytes_of now → Broken ≡ scan_of 0 (rows_of m begin)
scanning_broken {begin} {now} {m} {t} {i} s h q =
    let e : m - i ≡ (m - i - 1) + 1 = omega arith in
    rw (e, rows_missing (number_of_kind now.kind) now.width (m - i - 1) now.rest.now q) at s.so_far

pub scanning_turn : {begin now next : Rows} {m t i listed : ℕ} → Scanning begin now m t i → i < m → PassedRow now next listed → Scanning begin next m (t + listed) (i + 1)
scanning_turn {begin} {now} {next} {m} {t} {i} {listed} s h p =
    let kind = number_of_kind now.kind in
    let w = now.width in
    let bytes = now.rest.now in
    let g = listed_fits (number_of_kind now.kind) now.width now.rest.now in
    let a = s.few in
    let l = p.listed_is in
    let d = length-drop (row_bytes_of now) now.rest.now in
    let q = p.passed in
    let e : m - i ≡ (m - (i + 1)) + 1 = omega arith in
    record {
      few = rw q.rest (omega (arith, p.there));
      so_far =
          rw (q.kind, q.width, q.rest, l, ← (length_row (number_of_kind now.kind) now.width now.rest.now))
          (sym (scan_before t (row (number_of_kind now.kind) now.width now.rest.now) (read_rows (number_of_kind now.kind) now.width (m - (i + 1)) (drop (row_bytes_of now) now.rest.now)))
          ∙ ap (scan_of t) (sym (rows_whole (number_of_kind now.kind) now.width (m - (i + 1)) now.rest.now p.there)) ∙ rw e at s.so_far);
    }

rows_left : (kind w : ℕ) (bytes : List ℕ) → 0 < length bytes → read_rows kind w 0 bytes ≡ none
unfolding read_rows
rows_left kind w [] h = absurd (omega arith)
rows_left kind w (b ∷ bytes) h = refl

rows_none : (kind w : ℕ) (bytes : List ℕ) → length bytes ≡ 0 → read_rows kind w 0 bytes ≡ some []
unfolding read_rows
rows_none kind w [] h = refl
rows_none kind w (b ∷ bytes) h = absurd (omega arith)

pub scanning_left : {begin now : Rows} {m t i : ℕ} → Scanning begin now m t i → m ≤ i → 0 < length now.rest.now → Broken ≡ scan_of 0 (rows_of m begin)
scanning_left {begin} {now} {m} {t} {i} s h g =
    let e : m - i ≡ 0 = omega arith in
    rw (e, rows_left (number_of_kind now.kind) now.width now.rest.now g) at s.so_far

pub scanning_end : {begin now : Rows} {m t i : ℕ} → Scanning begin now m t i → m ≤ i → length now.rest.now ≡ 0 → Listed t ≡ scan_of 0 (rows_of m begin)
unfolding listed_in
scanning_end {begin} {now} {m} {t} {i} s h g =
    let e : m - i ≡ 0 = omega arith in
    let z : t + 0 ≡ t = omega arith in
    ap Listed (sym z) ∙ rw (e, rows_none (number_of_kind now.kind) now.width now.rest.now g) at s.so_far
