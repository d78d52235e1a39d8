-- What is read of areas that hold rows, and the rows that they hold after a row is stored or two change places.
use mathlib.Core.Path.{◌≡◌, refl, sym, ap, ap₂, ◌∙◌, subst, subst₂}
use mathlib.Core.Logic.{◌≢◌}
use mathlib.Core.List.{List, [], ◌++◌, append_assoc, append-nil, map}
use Prim.Native.Nat.{ℕ, zero, suc, ◌+◌, ◌*◌, ◌≤◌, ◌<◌}
use native.Mathlib.Omega.{arith}
use native.Mathlib.Nat.{zero-add, add-zero}
use lib.ListN.{length, get_or, set, drop, replicate, length-append, length-set, length-map, length-replicate, get_or-map, get_or-append}
use lib.Seq.{ext_get_or, set-append_left, set_comm, drop_at}
use Rattle.areas.specs.Stretch.{stretch, put, exchanged}
use Rattle.areas.specs.Rows.{padded, Narrow}
use Rattle.areas.proofs.Rows.{narrow_set, padded_full}
use Rattle.gf2.specs.Equation.{Each, Equation, eqn, Rising}
use Rattle.gf2.proofs.Each.{each_at, each_set}
use Rattle.gf2.proofs.SymDiff.{rising_length}
use Rattle.answers.specs.Sizes.{row_numbers, row_words}
use Rattle.rows.specs.Padding.{PaddedRows}
use Rattle.rows.specs.Picture.{vars_of, length_of, constant_of, picture, Drawn, Kept, tab, slot, rows_of, Held, row_at, swapped}
use Rattle.rows.proofs.Padding.{rows_padded}
use Rattle.rows.proofs.Put.{parts, length_parts, parts_put, parts_stretch, parts_first, parts_length, parts_set-length, parts_exchanged, parts_scratch, map-set}

-- ---- the picture and its parts

pub picture_parts : (n : ℕ) (rows : List Equation) → picture n rows ≡ parts n (map vars_of rows) (map length_of rows)
unfolding picture
picture_parts n rows = refl

vars_at : (rows : List Equation) (i : ℕ) → get_or (map vars_of rows) i [] ≡ (row_at rows i).vars
vars_at rows i = get_or-map vars_of rows i (eqn [] 0)

lengths_at_lem : (rows : List Equation) (i : ℕ) → get_or (map length_of rows) i 0 ≡ length (row_at rows i).vars
lengths_at_lem rows i = get_or-map length_of rows i (eqn [] 0)

pub rising_narrow : (n : ℕ) (vs : List ℕ) → Rising 0 n vs → length vs ≤ n
rising_narrow n vs r = omega (arith, rising_length 0 n vs (omega arith) r)

rows_narrow : (n : ℕ) (rows : List Equation) → Each (λ e. Rising 0 n e.vars) rows → Narrow n (map vars_of rows)
rows_narrow n rows r i h =
    rw (vars_at rows i) (rising_narrow n (row_at rows i).vars (each_at (λ e. Rising 0 n e.vars) rows (eqn [] 0) i (omega (arith, length-map rows vars_of)) r))

length_tab : (f : ℕ → Equation) (i k : ℕ) → length (tab f i k) ≡ k
length_tab f i zero = refl
length_tab f i (suc k) = ap suc (length_tab f (suc i) k)

get_or_tab : (f : ℕ → Equation) (i k j : ℕ) (d : Equation) → j < k → get_or (tab f i k) j d ≡ f (i + j)
get_or_tab f i zero j d h = absurd (omega arith)
get_or_tab f i (suc k) zero d h = rw add-zero
get_or_tab f i (suc k) (suc j) d h = get_or_tab f (suc i) k j d (omega arith) ∙ ap f (omega arith)

-- the areas that are drawn so hold these rows
pub draw : (n m : ℕ) (rows : List Equation) (rest rest' numbers words : List ℕ) → numbers ≡ parts n (map vars_of rows) (map length_of rows) ++ rest
    → words ≡ map constant_of rows ++ rest' → Each (λ e. Rising 0 n e.vars) rows → length rows ≡ m → Drawn n m rows rest rest' numbers words
draw n m rows rest rest' numbers words a w r c =
    record {
      numbers_are = rw (picture_parts n rows) a;
      words_are = w;
      rising = r;
      count = c;
      numbers_room = rw (a, length_parts n m (map vars_of rows) (map length_of rows) rest (rows_narrow n rows r) (length-map rows vars_of ∙ c) (length-map rows length_of ∙ c)) (omega arith);
      words_room = rw (w, length-append, length-map) (omega arith);
    }

module _ {n m : ℕ} {rows : List Equation} {rest rest' numbers words : List ℕ} (d : Drawn n m rows rest rest' numbers words) where
  pub as_parts : numbers ≡ parts n (map vars_of rows) (map length_of rows) ++ rest
  as_parts = d.numbers_are ∙ ap (λ (l : List ℕ). l ++ rest) (picture_parts n rows)

  pub narrow : Narrow n (map vars_of rows)
  narrow = rows_narrow n rows d.rising

  pub many : length (map vars_of rows) ≡ m
  many = length-map rows vars_of ∙ d.count

  pub all : length (map length_of rows) ≡ m
  all = length-map rows length_of ∙ d.count

  constants : length (map constant_of rows) ≡ m
  constants = length-map rows constant_of ∙ d.count

  -- the scratch row is zero
  pub scratch_zero : stretch (m * n) n numbers ≡ replicate n 0
  scratch_zero = ap (stretch (m * n) n) as_parts ∙ parts_scratch n m (map vars_of rows) (map length_of rows) rest narrow many all

  -- ---- a row that is read

  module _ (i : ℕ) (h : i < m) where
    pub row_rising : Rising 0 n (row_at rows i).vars
    row_rising = each_at (λ e. Rising 0 n e.vars) rows (eqn [] 0) i (omega (arith, d.count)) d.rising

    pub row_narrow : length (row_at rows i).vars ≤ n
    row_narrow = rising_narrow n (row_at rows i).vars row_rising

    pub row_length : get_or numbers (m * n + n + i) 0 ≡ length (row_at rows i).vars
    row_length =
        ap (λ (l : List ℕ). get_or l (m * n + n + i) 0) as_parts ∙ parts_length n m (map vars_of rows) (map length_of rows) rest narrow many all i h ∙ lengths_at_lem rows i

    -- the first k numbers of the row, where it has no more than k
    pub row_front : (k : ℕ) → length (row_at rows i).vars ≤ k → k ≤ n → stretch (i * n) k numbers ≡ padded k (row_at rows i).vars
    row_front k hu g =
        ap (stretch (i * n) k) as_parts
        ∙ parts_stretch n m (map vars_of rows) (map length_of rows) rest narrow many all i h k (rw (vars_at rows i) hu) g ∙ ap (padded k) (vars_at rows i)

    pub row_vars : stretch (i * n) (length (row_at rows i).vars) numbers ≡ (row_at rows i).vars
    row_vars = row_front (length (row_at rows i).vars) (omega arith) row_narrow ∙ padded_full (length (row_at rows i).vars) (row_at rows i).vars refl

    pub row_first : 0 < n → get_or numbers (i * n) 0 ≡ get_or (row_at rows i).vars 0 0
    row_first g =
        ap (λ (l : List ℕ). get_or l (i * n) 0) as_parts ∙ parts_first n m (map vars_of rows) (map length_of rows) rest narrow many all i h g
        ∙ ap (λ (l : List ℕ). get_or l 0 0) (vars_at rows i)

    pub row_constant : get_or words i 0 ≡ (row_at rows i).c
    row_constant =
        ap (λ (l : List ℕ). get_or l i 0) d.words_are ∙ get_or-append (map constant_of rows) rest' 0 i (omega (arith, constants)) ∙ get_or-map constant_of rows i (eqn [] 0)

    row_slot : slot n m numbers words i ≡ row_at rows i
    row_slot = ap₂ eqn (ap (λ (k : ℕ). stretch (i * n) k numbers) row_length ∙ row_vars) row_constant

    -- ---- a row that is stored

    pub store : (e : Equation) (k : ℕ) → Rising 0 n e.vars → length e.vars ≤ k → length (row_at rows i).vars ≤ k → k ≤ n
        → Drawn n m (set rows i e) rest rest' (set (put (i * n) (padded k e.vars) numbers) (m * n + n + i) (length e.vars)) (set words i e.c)
    store e k r hv hu g =
        draw n m (set rows i e) rest rest' _ _
        (rw (
          as_parts,
          parts_put n m (map vars_of rows) (map length_of rows) rest narrow many all i h k e.vars hv (rw (vars_at rows i) hu) g,
          parts_set-length n m (set (map vars_of rows) i e.vars) (map length_of rows) rest (narrow_set n i e.vars (map vars_of rows) (omega arith) narrow) (length-set (map vars_of rows) i e.vars ∙ many) all i h (length e.vars),
          map-set vars_of rows i e,
          map-set length_of rows i e,
        ))
        (rw (d.words_are, set-append_left (map constant_of rows) rest' i e.c (omega (arith, constants)), map-set constant_of rows i e))
        (each_set (λ e. Rising 0 n e.vars) rows i e r d.rising) (length-set rows i e ∙ d.count)

  -- ---- two rows that change places

  pub exchange_rows : (i j k : ℕ) → i < j → j < m → length (row_at rows i).vars ≤ k → length (row_at rows j).vars ≤ k → k ≤ n
      → Drawn n m (swapped i j rows) rest rest' (exchanged (i * n) (j * n) k (set (set numbers (m * n + n + i) (length (row_at rows j).vars)) (m * n + n + j) (length (row_at rows i).vars)))
      (set (set words i (row_at rows j).c) j (row_at rows i).c)
  exchange_rows i j k h l hi hj g =
      let hm : i < m = omega arith in
      let ne : j ≢ i = omega arith in
      let li : ℕ = length (row_at rows i).vars in
      let lj : ℕ = length (row_at rows j).vars in
      let vss : List (List ℕ) = map vars_of rows in
      let lens : List ℕ = map length_of rows in
      let long : length (set (set lens i lj) j li) ≡ m = simp length-set all in
      draw n m (swapped i j rows) rest rest' _ _
      (rw (
        as_parts,
        parts_set-length n m vss lens rest narrow many all i hm lj,
        parts_set-length n m vss (set lens i lj) rest narrow many (length-set lens i lj ∙ all) j l li,
        parts_exchanged n m vss (set (set lens i lj) j li) rest narrow many long i hm j k h l (rw (vars_at rows i) hi) (rw (vars_at rows j) hj) g,
        vars_at rows i,
        vars_at rows j,
        two vars_of,
        two length_of,
        set_comm vss j i (row_at rows i).vars (row_at rows j).vars ne,
      ))
      (rw (
        d.words_are,
        set-append_left (map constant_of rows) rest' i (row_at rows j).c (omega (arith, constants)),
        set-append_left (set (map constant_of rows) i (row_at rows j).c) rest' j (row_at rows i).c (rw length-set (omega (arith, constants))),
        two constant_of,
      ))
      (each_set (λ e. Rising 0 n e.vars) (set rows i (row_at rows j)) j (row_at rows i) (row_rising i hm) (each_set (λ e. Rising 0 n e.vars) rows i (row_at rows j) (row_rising j l) d.rising))
      (length-set (set rows i (row_at rows j)) j (row_at rows i) ∙ length-set rows i (row_at rows j) ∙ d.count)
    where
      two : {B : Type 0} (f : Equation → B) → map f (swapped i j rows) ≡ set (set (map f rows) i (f (row_at rows j))) j (f (row_at rows i))
      two f = map-set f (set rows i (row_at rows j)) j (row_at rows i) ∙ ap (λ l. set l j (f (row_at rows i))) (map-set f rows i (row_at rows j))

  -- ---- past the room

  room_long : length (parts n (map vars_of rows) (map length_of rows)) ≡ row_numbers n m
  room_long =
      ap length (sym (append-nil (parts n (map vars_of rows) (map length_of rows))))
      ∙ length_parts n m (map vars_of rows) (map length_of rows) [] narrow many all ∙ add-zero (m * n + n + m)

  pub past_numbers : drop (row_numbers n m) numbers ≡ rest
  past_numbers = ap (drop (row_numbers n m)) as_parts ∙ drop_at (parts n (map vars_of rows) (map length_of rows)) rest (row_numbers n m) room_long

  past_words : drop (row_words m) words ≡ rest'
  past_words = ap (drop m) d.words_are ∙ drop_at (map constant_of rows) rest' m constants

  -- ---- the rows that are held

  pub rows_are : rows_of n m numbers words ≡ rows
  unfolding rows_of
  rows_are =
      ext_get_or (eqn [] 0) (tab (slot n m numbers words) 0 m) rows (length_tab (slot n m numbers words) 0 m ∙ sym d.count)
      (λ i l. (let h : i < m = omega (arith, length_tab (slot n m numbers words) 0 m) in
      get_or_tab (slot n m numbers words) 0 m i (eqn [] 0) h ∙ ap (slot n m numbers words) (zero-add i) ∙ row_slot i h))

  pub held : Held n m numbers words
  held =
      subst (λ (r : List Equation). Drawn n m r (drop (row_numbers n m) numbers) (drop (row_words m) words) numbers words) (sym rows_are)
      (subst₂ (λ (x y : List ℕ). Drawn n m rows x y numbers words) (sym past_numbers) (sym past_words) d)

  pub rest_kept : Kept n m rest rest' numbers words
  rest_kept = record { held = held; numbers_kept = past_numbers; words_kept = past_words }

  -- each row lies padded, its length behind the scratch row
  pub drawn_padded : PaddedRows 0 (m * n + n) n m numbers
  drawn_padded = rw (d.count, length-replicate {A = ℕ} n 0) at (rows_padded n rows (replicate n 0) rest narrow (as_parts ∙ simp append_assoc))

  -- what a call says of the rows that its areas held, said of these rows
  pub carried : (P : List Equation → List ℕ → List ℕ → Type 0) → P (rows_of n m numbers words) (drop (row_numbers n m) numbers) (drop (row_words m) words) → P rows rest rest'
  carried P p =
      subst (λ (r : List Equation). P r rest rest') rows_are
      (subst₂ (λ (x y : List ℕ). P (rows_of n m numbers words) x y) past_numbers past_words p)
