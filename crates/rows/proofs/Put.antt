-- The parts of the numbers: rows laid one after the other, the scratch row, the lengths. What is read of a part, and what is written.
use mathlib.Core.Path.{◌≡◌, refl, sym, ap, ◌∙◌}
use mathlib.Core.List.{List, [], ◌∷◌, ◌++◌, append_assoc, map}
use Prim.Native.Nat.{ℕ, zero, suc, ◌+◌, ◌*◌, ◌≤◌, ◌<◌}
use native.Mathlib.Omega.{arith}
use native.Mathlib.Nat.{zero-add, add-zero, suc-add}
use lib.ListN.{length, get_or, set, replicate, length-append, length-replicate, get_or-append}
use lib.Seq.{get_or-append-add, set-append_left}
use Rattle.areas.specs.Stretch.{stretch, put, exchanged}
use Rattle.areas.specs.Rows.{padded, laid, Narrow, swapped}
use Rattle.areas.proofs.Stretch.{stretch_at}
use Rattle.areas.proofs.Rows.{length_laid, stretch_row_padded, get_or_laid, put_row, exchanged_rows}

pub set_after : {A : Type 0} (xs ys : List A) (i : ℕ) (a : A) → set (xs ++ ys) (length xs + i) a ≡ xs ++ set ys i a
set_after [] ys i a = ap (λ (k : ℕ). set ys k a) (zero-add i)
set_after (x ∷ xs) ys i a = rw suc-add (ap (λ l. x ∷ l) (set_after xs ys i a))

pub map-set : {A B : Type 0} (f : A → B) (l : List A) (i : ℕ) (a : A) → map f (set l i a) ≡ set (map f l) i (f a)
map-set f [] i a = refl
map-set f (x ∷ l) zero a = refl
map-set f (x ∷ l) (suc i) a = ap (λ l'. f x ∷ l') (map-set f l i a)

-- the rows, the scratch row and the lengths
abbrev pub parts : ℕ → List (List ℕ) → List ℕ → List ℕ
parts n rows lens = laid n rows ++ (replicate n 0 ++ lens)

module _ (n m : ℕ) (rows : List (List ℕ)) (lens rest : List ℕ) (narrow : Narrow n rows) (many : length rows ≡ m) (all : length lens ≡ m) where
  rows_long : length (laid n rows) ≡ m * n
  rows_long = length_laid n rows narrow ∙ ap (λ (k : ℕ). k * n) many

  head_long : length (laid n rows ++ replicate n 0) ≡ m * n + n
  head_long = rw (length-append, rows_long, length-replicate)

  pub length_parts : length (parts n rows lens ++ rest) ≡ m * n + n + m + length rest
  length_parts = rw (length-append, length-append, rows_long, length-append, length-replicate, all) (omega arith)

  regroup : (lens' : List ℕ) → parts n rows lens' ++ rest ≡ (laid n rows ++ replicate n 0) ++ (lens' ++ rest)
  regroup lens' = simp append_assoc

  rows_first : (rows' : List (List ℕ)) → parts n rows' lens ++ rest ≡ laid n rows' ++ (replicate n 0 ++ lens ++ rest)
  rows_first rows' = append_assoc (laid n rows') (replicate n 0 ++ lens) rest

  module _ (i : ℕ) (h : i < m) where
    pub parts_put : (k : ℕ) (v : List ℕ) → length v ≤ k → length (get_or rows i []) ≤ k → k ≤ n → put (i * n) (padded k v) (parts n rows lens ++ rest) ≡ parts n (set rows i v) lens ++ rest
    parts_put k v hv hu g = rw (rows_first rows, rows_first (set rows i v)) (put_row n i k v rows (replicate n 0 ++ lens ++ rest) narrow (omega arith) hu hv g)

    pub parts_stretch : (k : ℕ) → length (get_or rows i []) ≤ k → k ≤ n → stretch (i * n) k (parts n rows lens ++ rest) ≡ padded k (get_or rows i [])
    parts_stretch k hu g = rw (rows_first rows) (stretch_row_padded n i k rows (replicate n 0 ++ lens ++ rest) narrow (omega arith) hu g)

    -- the first number of a row
    pub parts_first : 0 < n → get_or (parts n rows lens ++ rest) (i * n) 0 ≡ get_or (get_or rows i []) 0 0
    parts_first g =
        rw (rows_first rows) (ap (λ (b : ℕ). get_or (laid n rows ++ (replicate n 0 ++ lens ++ rest)) b 0) (sym (add-zero (i * n)))
        ∙ get_or_laid n i 0 rows (replicate n 0 ++ lens ++ rest) narrow (omega arith) g)

    pub parts_length : get_or (parts n rows lens ++ rest) (m * n + n + i) 0 ≡ get_or lens i 0
    parts_length =
        rw (regroup lens, ← head_long) (get_or-append-add (laid n rows ++ replicate n 0) (lens ++ rest) i 0 ∙ get_or-append lens rest 0 i (omega arith))

    pub parts_set-length : (k : ℕ) → set (parts n rows lens ++ rest) (m * n + n + i) k ≡ parts n rows (set lens i k) ++ rest
    parts_set-length k =
        rw (regroup lens, regroup (set lens i k), ← head_long)
        (set_after (laid n rows ++ replicate n 0) (lens ++ rest) i k ∙ ap (λ (l : List ℕ). (laid n rows ++ replicate n 0) ++ l) (set-append_left lens rest i k (omega arith)))

    -- two rows change places: no more is moved than the longer one has
    pub parts_exchanged : (j k : ℕ) → i < j → j < m → length (get_or rows i []) ≤ k → length (get_or rows j []) ≤ k → k ≤ n
        → exchanged (i * n) (j * n) k (parts n rows lens ++ rest) ≡ parts n (swapped i j rows) lens ++ rest
    parts_exchanged j k l hj hi hk g =
        rw (rows_first rows, rows_first (swapped i j rows)) (exchanged_rows n i j k rows (replicate n 0 ++ lens ++ rest) narrow l (omega arith) hi hk g)

  pub parts_scratch : stretch (m * n) n (parts n rows lens ++ rest) ≡ replicate n 0
  parts_scratch = rw (rows_first rows, append_assoc) (stretch_at (m * n) n (laid n rows) (replicate n 0) (lens ++ rest) rows_long (length-replicate n 0))
