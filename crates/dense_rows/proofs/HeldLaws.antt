-- Rows of a list of words: one by one, their lengths, and when two lists hold the same rows.
use mathlib.Core.Path.{◌≡◌, refl, sym, ap, ap₂, ◌∙◌}
use mathlib.Core.List.{List, [], ◌∷◌}
use mathlib.Core.Logic.{◌≢◌}
use Prim.Native.Nat.{ℕ, zero, suc, ◌+◌, ◌-◌, ◌*◌, ◌<◌, ◌≤◌}
use native.Mathlib.Nat.{add-zero, zero-add}
use native.Mathlib.Omega.{arith}
use lib.ListN.{length, get_or, take, drop, set, length-set}
use lib.Seq.{ext_get_or, get_or-drop, get_or-set_same, get_or-set_other}
use Rattle.gf2.specs.Equation.{Each}
use Rattle.gf2.proofs.Tests.{Tri, less, same, more, tri}
use Rattle.areas.specs.Stretch.{stretch, put}
use Rattle.areas.proofs.Stretch.{length-stretch, get_or-stretch, stretch-stretch, stretch-put_before, stretch-put_after, stretch-put_inside, drop-put_after, get_or-put_before, get_or-put, get_or-put_after}
use Rattle.areas.proofs.Offsets.{row_before}
use Rattle.dense_rows.specs.Bits.{Row}
use Rattle.dense_rows.specs.Rows.{row_at, rows_from, rows_of, held}
use Rattle.dense_rows.specs.Steps.{no_row}
use Rattle.dense_rows.proofs.StepLaws.{Wide}

pub rows_length : (k w i : ℕ) (words constants : List ℕ) → length (rows_from k w i words constants) ≡ k
unfolding rows_from
rows_length zero w i words constants = refl
rows_length (suc k) w i words constants = ap suc (rows_length k w (suc i) words constants)

pub rows_at : (k w i : ℕ) (words constants : List ℕ) (j : ℕ) → j < k → get_or (rows_from k w i words constants) j no_row ≡ row_at w (i + j) words constants
unfolding rows_from
rows_at zero w i words constants j h = absurd (omega arith)
rows_at (suc k) w i words constants zero h = rw (add-zero i)
rows_at (suc k) w i words constants (suc j) h =
    let e : suc i + j ≡ i + suc j = omega arith in
    rows_at k w (suc i) words constants j (omega arith) ∙ ap (λ (r : ℕ). row_at w r words constants) e

pub row_of : (m w : ℕ) (words constants : List ℕ) (i : ℕ) → i < m → get_or (rows_of m w words constants) i no_row ≡ row_at w i words constants
row_of m w words constants i h = rows_at m w 0 words constants i h ∙ ap (λ (r : ℕ). row_at w r words constants) (zero-add i)

-- the rows of a list are those that stand at each number
pub rows_are : (m w : ℕ) (words constants : List ℕ) (rows : List Row) → length rows ≡ m → ((i : ℕ) → i < m → row_at w i words constants ≡ get_or rows i no_row) → rows_of m w words constants ≡ rows
rows_are m w words constants rows e f =
    ext_get_or no_row (rows_of m w words constants) rows (rows_length m w 0 words constants ∙ sym e)
    (λ i h. let n = rows_length m w 0 words constants in let l : i < m = omega arith in row_of m w words constants i l ∙ f i l)

-- what holds of each row
pub rows_each : (P : Row → Type 0) (k w i : ℕ) (words constants : List ℕ) → ((j : ℕ) → i ≤ j → j < i + k → P (row_at w j words constants)) → Each P (rows_from k w i words constants)
unfolding rows_from
rows_each P zero w i words constants f = tt
rows_each P (suc k) w i words constants f = (f i (omega arith) (omega arith), rows_each P k w (suc i) words constants (λ j h l. f j (omega arith) (omega arith)))

pub rows_wide : (m w : ℕ) (words constants : List ℕ) → m * w ≤ length words → Each (Wide w) (rows_of m w words constants)
unfolding row_at
rows_wide m w words constants h =
    rows_each (Wide w) m w 0 words constants (λ j _ l. length-stretch (j * w) w words (omega (arith, row_before j m w (omega arith))))

-- the words of row i, as they are lent
pub row_lent : (m w : ℕ) (words constants : List ℕ) (i : ℕ) → i < m → (get_or (rows_of m w words constants) i no_row).words ≡ take (i * w + w - i * w) (drop (i * w) words)
unfolding row_at stretch
row_lent m w words constants i h =
    let e : i * w + w - i * w ≡ w = omega arith in
    rw e (ap (λ (r : Row). r.words) (row_of m w words constants i h))

-- ---- a work area in which a stretch is written

-- row i with s written over its words from word k on
abbrev pub words_put : ℕ → List ℕ → Row → Row
words_put k s row = record { words = put k s row.words; c = row.c }

abbrev pub constant_put : ℕ → Row → Row
constant_put v row = record { words = row.words; c = v }

module _ (m w : ℕ) (area : List ℕ) (room : m * w + m ≤ length area) where
  pub held_length : length (held m w area) ≡ m
  held_length = rows_length m w 0 area (drop (m * w) area)

  -- into row i
  pub held_put_row : (i k : ℕ) (s : List ℕ) → i < m → k + length s ≤ w → held m w (put (i * w + k) s area) ≡ set (held m w area) i (words_put k s (get_or (held m w area) i no_row))
  unfolding row_at
  held_put_row i k s h f =
      rows_are m w (put (i * w + k) s area) (drop (m * w) (put (i * w + k) s area)) (set (held m w area) i new)
      (length-set (held m w area) i new ∙ held_length) (λ j l. go j l (tri j i))
    where
      new : Row
      new = words_put k s (get_or (held m w area) i no_row)

      here : i * w + w ≤ m * w
      here = row_before i m w h

      constants : drop (m * w) (put (i * w + k) s area) ≡ drop (m * w) area
      constants = let b = here in drop-put_after (m * w) (i * w + k) s area (omega arith) (omega arith)

      other : (j : ℕ) → j < m → j ≢ i → stretch (j * w) w (put (i * w + k) s area) ≡ stretch (j * w) w area
          → row_at w j (put (i * w + k) s area) (drop (m * w) (put (i * w + k) s area)) ≡ get_or (set (held m w area) i new) j no_row
      other j l ne e =
          ap₂ (λ (a b : List ℕ). record { words = a; c = get_or b j 0 }) e constants
          ∙ sym (get_or-set_other (held m w area) i j new no_row ne ∙ row_of m w area (drop (m * w) area) j l)

      go : (j : ℕ) → j < m → Tri j i → row_at w j (put (i * w + k) s area) (drop (m * w) (put (i * w + k) s area)) ≡ get_or (set (held m w area) i new) j no_row
      go j l (less t) =
          let b = row_before j i w t in
          let e = here in
          other j l (omega arith) (stretch-put_before (j * w) w (i * w + k) s area (omega arith) (omega arith))
      go j l (more t) =
          let b = row_before i j w t in
          let e = here in
          other j l (omega arith) (stretch-put_after (j * w) w (i * w + k) s area (omega arith) (omega arith))
      go j l (same t) =
          let n = held_length in
          let e = here in
          let d : i * w + k - i * w ≡ k = omega arith in
          rw t (ap₂ (λ (a b : List ℕ). record { words = a; c = get_or b i 0 })
          (stretch-put_inside (i * w) w (i * w + k) s area (omega arith) (omega arith) (omega arith) ∙ ap (λ (x : ℕ). put x s (stretch (i * w) w area)) d) constants
          ∙ sym (get_or-set_same (held m w area) i new no_row (omega arith) ∙ ap (λ (r : Row). words_put k s r) (row_of m w area (drop (m * w) area) i h)))

  -- over constant i
  pub held_put_constant : (i v : ℕ) → i < m → held m w (put (m * w + i) (v ∷ []) area) ≡ set (held m w area) i (constant_put v (get_or (held m w area) i no_row))
  unfolding row_at
  held_put_constant i v h =
      rows_are m w (put (m * w + i) (v ∷ []) area) (drop (m * w) (put (m * w + i) (v ∷ []) area)) (set (held m w area) i new)
      (length-set (held m w area) i new ∙ held_length) (λ j l. go j l (tri j i))
    where
      new : Row
      new = constant_put v (get_or (held m w area) i no_row)

      words_same : (j : ℕ) → j < m → stretch (j * w) w (put (m * w + i) (v ∷ []) area) ≡ stretch (j * w) w area
      words_same j l =
          let b = row_before j m w l in
          stretch-put_before (j * w) w (m * w + i) (v ∷ []) area (omega arith) (omega arith)

      read : (l : List ℕ) (j : ℕ) → get_or (drop (m * w) l) j 0 ≡ get_or l (m * w + j) 0
      read l j = get_or-drop (m * w) l j 0

      other : (j : ℕ) → j < m → j ≢ i → get_or (put (m * w + i) (v ∷ []) area) (m * w + j) 0 ≡ get_or area (m * w + j) 0
          → row_at w j (put (m * w + i) (v ∷ []) area) (drop (m * w) (put (m * w + i) (v ∷ []) area)) ≡ get_or (set (held m w area) i new) j no_row
      other j l ne e =
          (λ x. record { words = words_same j l x; c = (read (put (m * w + i) (v ∷ []) area) j ∙ e ∙ sym (read area j)) x })
          ∙ sym (get_or-set_other (held m w area) i j new no_row ne ∙ row_of m w area (drop (m * w) area) j l)

      go : (j : ℕ) → j < m → Tri j i → row_at w j (put (m * w + i) (v ∷ []) area) (drop (m * w) (put (m * w + i) (v ∷ []) area)) ≡ get_or (set (held m w area) i new) j no_row
      go j l (less t) = other j l (omega arith) (get_or-put_before (m * w + i) (m * w + j) 0 (v ∷ []) area (omega arith) (omega arith))
      go j l (more t) = other j l (omega arith) (get_or-put_after (m * w + i) (m * w + j) 0 (v ∷ []) area (omega arith) (omega arith))
      go j l (same t) =
          let n = held_length in
          let z : m * w + i + 0 ≡ m * w + i = omega arith in
          let at : get_or (put (m * w + i) (v ∷ []) area) (m * w + i) 0 ≡ v = ap (λ (x : ℕ). get_or (put (m * w + i) (v ∷ []) area) x 0) (sym z) ∙ get_or-put (m * w + i) 0 0 (v ∷ []) area (omega arith) (omega arith) in
          rw t ((λ x. record { words = words_same i h x; c = (read (put (m * w + i) (v ∷ []) area) i ∙ at) x })
          ∙ sym (get_or-set_same (held m w area) i new no_row (omega arith) ∙ ap (λ (r : Row). constant_put v r) (row_of m w area (drop (m * w) area) i h)))

  -- a word of row i, its words from k on, and its constant
  pub held_word : (i k : ℕ) → i < m → k < w → get_or (get_or (held m w area) i no_row).words k 0 ≡ get_or area (i * w + k) 0
  unfolding row_at
  held_word i k h l = rw (row_of m w area (drop (m * w) area) i h) (get_or-stretch (i * w) w k 0 area l)

  pub held_stretch : (i k n : ℕ) → i < m → k + n ≤ w → stretch k n (get_or (held m w area) i no_row).words ≡ stretch (i * w + k) n area
  unfolding row_at
  held_stretch i k n h l = rw (row_of m w area (drop (m * w) area) i h) (stretch-stretch k n (i * w) w area l)

  pub held_constant : (i : ℕ) → i < m → (get_or (held m w area) i no_row).c ≡ get_or area (m * w + i) 0
  unfolding row_at
  held_constant i h = rw (row_of m w area (drop (m * w) area) i h) (get_or-drop (m * w) area i 0)
