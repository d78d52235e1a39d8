-- Stretches of a work area that change places or are XORed: what that does to the rows that the area holds.
use mathlib.Core.Path.{◌≡◌, sym, ap, ap₂, ◌∙◌, subst}
use mathlib.Core.Logic.{◌≢◌, ◌⊎◌, inl, inr}
use mathlib.Core.List.{List, [], ◌∷◌, ◌++◌, append-nil}
use Prim.Native.Nat.{ℕ, ◌+◌, ◌-◌, ◌*◌, ◌<◌, ◌≤◌}
use native.Mathlib.Omega.{arith}
use lib.ListN.{length, get_or, set, take, drop, length-set, length-drop, drop_of_length-le}
use lib.Seq.{get_or-set_same, get_or-set_other, set-set, set_comm, take_all}
use lib.Bits.{bit_xor}
use Rattle.gf2.proofs.Each.{each_at}
use Rattle.gf2.proofs.Tests.{Tri, less, same, more, tri}
use Rattle.areas.specs.Stretch.{stretch, put, exchanged}
use Rattle.areas.proofs.Stretch.{stretch-cons, stretch_none, length-put, drop-put_after}
use Rattle.areas.proofs.Offsets.{row_before}
use Rattle.dense_rows.specs.Bits.{Row, xor_words}
use Rattle.dense_rows.specs.Rows.{held, Became}
use Rattle.dense_rows.specs.Steps.{from_word, no_row, swap_rows, xor_from}
use Rattle.dense_rows.proofs.StepLaws.{Wide, length-xor_words}
use Rattle.dense_rows.proofs.HeldLaws.{rows_length, rows_wide, words_put, constant_put, held_put_row, held_put_constant, held_stretch, held_constant}

-- where row i ends and row j begins, and where row j ends
pub two_rows : (i j m w : ℕ) → i < j → j < m → (i * w + w ≤ j * w) × (j * w + w ≤ m * w)
two_rows i j m w hi hj = (row_before i j w hi, row_before j m w hj)

-- where rows i and j end
pub rows_within : (i j m w : ℕ) → i < m → j < m → (i * w + w ≤ m * w) × (j * w + w ≤ m * w)
rows_within i j m w hi hj = (row_before i m w hi, row_before j m w hj)

-- of two rows one ends before the other begins: from the word on, and with their constants
pub apart_rows : (i j w word : ℕ) → i ≢ j → word ≤ w → (i * w + word + (w - word) ≤ j * w + word) ⊎ (j * w + word + (w - word) ≤ i * w + word)
apart_rows i j w word ne h = go (tri i j)
  where
    go : Tri i j → (i * w + word + (w - word) ≤ j * w + word) ⊎ (j * w + word + (w - word) ≤ i * w + word)
    go (less l) = let b = row_before i j w l in inl (omega arith)
    go (same e) = absurd (ne e)
    go (more l) = let b = row_before j i w l in inr (omega arith)

pub apart_cells : (i j b : ℕ) → i ≢ j → (b + i + 1 ≤ b + j) ⊎ (b + j + 1 ≤ b + i)
apart_cells i j b ne = go (tri i j)
  where
    go : Tri i j → (b + i + 1 ≤ b + j) ⊎ (b + j + 1 ≤ b + i)
    go (less l) = inl (omega arith)
    go (same e) = absurd (ne e)
    go (more l) = inr (omega arith)

-- ---- a row's words from word k on

stretch_end : (k w : ℕ) (l : List ℕ) → k ≤ w → length l ≡ w → stretch k (w - k) l ≡ drop k l
unfolding stretch
stretch_end k w l h e = let d = length-drop k l in take_all (w - k) (drop k l) (omega arith)

put_end : (k w : ℕ) (s l : List ℕ) → k ≤ w → length s ≡ w - k → length l ≡ w → put k s l ≡ take k l ++ s
unfolding put
put_end k w s l h e f =
    ap (λ (t : List ℕ). take k l ++ (s ++ t)) (drop_of_length-le l {i = k + length s} (omega arith)) ∙ ap (λ (t : List ℕ). take k l ++ t) (append-nil s)

stretch_one : (i : ℕ) (l : List ℕ) → i < length l → stretch i 1 l ≡ get_or l i 0 ∷ []
stretch_one i l h = stretch-cons i 0 l h ∙ ap (λ (t : List ℕ). get_or l i 0 ∷ t) (stretch_none (i + 1) l)

-- a row written twice at each of two places
set_twice : (rows : List Row) (i j : ℕ) (a b a' b' : Row) → i ≢ j → set (set (set (set rows j b) i a) j b') i a' ≡ set (set rows i a') j b'
set_twice rows i j a b a' b' ne =
    ap (λ (l : List Row). set l i a') (set_comm (set rows j b) i j a b' ne ∙ ap (λ (l : List Row). set l i a) (set-set rows j b b'))
    ∙ set-set (set rows j b') i a a' ∙ set_comm rows j i b' a' (λ e. ne (sym e))

-- constants i and j change places
module _ (m w : ℕ) (area : List ℕ) (room : m * w + m ≤ length area) (i j : ℕ) (hi : i < j) (hj : j < m) where
  abbrev ci : ℕ
  ci = get_or area (m * w + i) 0

  abbrev cj : ℕ
  cj = get_or area (m * w + j) 0

  half_constants : List ℕ
  half_constants = put (m * w + j) (ci ∷ []) area

  half_constants_long : length half_constants ≡ length area
  unfolding half_constants
  half_constants_long = length-put (m * w + j) (ci ∷ []) area (omega arith)

  exchange_is : exchanged (m * w + i) (m * w + j) 1 area ≡ put (m * w + i) (cj ∷ []) half_constants
  unfolding half_constants
  exchange_is = ap₂ (λ (x y : List ℕ). put (m * w + i) x (put (m * w + j) y area)) (stretch_one (m * w + j) area (omega arith)) (stretch_one (m * w + i) area (omega arith))

  constants_long : length (exchanged (m * w + i) (m * w + j) 1 area) ≡ length area
  constants_long =
      let h = half_constants_long in
      ap length exchange_is ∙ length-put (m * w + i) (cj ∷ []) half_constants (omega arith) ∙ half_constants_long

  constants_past : drop (m * w + m) (exchanged (m * w + i) (m * w + j) 1 area) ≡ drop (m * w + m) area
  unfolding half_constants
  constants_past =
      let h = half_constants_long in
      ap (drop (m * w + m)) exchange_is ∙ drop-put_after (m * w + m) (m * w + i) (cj ∷ []) half_constants (omega arith) (omega arith)
      ∙ drop-put_after (m * w + m) (m * w + j) (ci ∷ []) area (omega arith) (omega arith)

  constants_held : (rows : List Row) → held m w area ≡ rows → held m w (exchanged (m * w + i) (m * w + j) 1 area)
      ≡ set (set rows j (constant_put (get_or rows i no_row).c (get_or rows j no_row))) i (constant_put (get_or rows j no_row).c (get_or rows i no_row))
  unfolding half_constants
  constants_held rows e =
      let h = half_constants_long in
      let old : ci ≡ (get_or rows i no_row).c = sym (held_constant m w area room i (omega arith)) ∙ ap (λ (l : List Row). (get_or l i no_row).c) e in
      let new : cj ≡ (get_or rows j no_row).c = sym (held_constant m w area room j hj) ∙ ap (λ (l : List Row). (get_or l j no_row).c) e in
      let first : held m w half_constants ≡ set rows j (constant_put (get_or rows i no_row).c (get_or rows j no_row)) =
      held_put_constant m w area room j ci hj ∙ ap₂ (λ (l : List Row) (x : ℕ). set l j (constant_put x (get_or l j no_row))) e old in
      ap (held m w) exchange_is ∙ held_put_constant m w half_constants (omega arith) i cj (omega arith)
      ∙ ap₂ (λ (l : List Row) (x : ℕ). set l i (constant_put x (get_or l i no_row))) first new
      ∙ ap (λ (r : Row). set (set rows j (constant_put (get_or rows i no_row).c (get_or rows j no_row))) i (constant_put (get_or rows j no_row).c r))
      (get_or-set_other rows j i (constant_put (get_or rows i no_row).c (get_or rows j no_row)) no_row (λ z. omega arith))

module _ (m w : ℕ) (area : List ℕ) (room : m * w + m ≤ length area) (word i j : ℕ) (hw : word ≤ w) (hi : i < m) (hj : j < m) where
  abbrev p : ℕ
  p = i * w + word

  abbrev q : ℕ
  q = j * w + word

  rows : List Row
  rows = held m w area

  a : Row
  a = get_or (held m w area) i no_row

  b : Row
  b = get_or (held m w area) j no_row

  within_j : j * w + w ≤ m * w
  within_j = row_before j m w hj

  wide : (r : ℕ) → r < m → Wide w (get_or (held m w area) r no_row)
  wide r h = let l = rows_length m w 0 area (drop (m * w) area) in each_at (Wide w) (held m w area) no_row r (omega arith) (rows_wide m w area (drop (m * w) area) (omega arith))

  at_i : stretch p (w - word) area ≡ drop word a.words
  unfolding a
  at_i = sym (held_stretch m w area room i word (w - word) hi (omega arith)) ∙ stretch_end word w a.words hw (wide i hi)

  at_j : stretch q (w - word) area ≡ drop word b.words
  unfolding b
  at_j = sym (held_stretch m w area room j word (w - word) hj (omega arith)) ∙ stretch_end word w b.words hw (wide j hj)

  long_a : length (drop word a.words) ≡ w - word
  unfolding a
  long_a = let e = wide i hi in length-drop word a.words ∙ ap (λ (x : ℕ). x - word) e

  long_b : length (drop word b.words) ≡ w - word
  unfolding b
  long_b = let e = wide j hj in length-drop word b.words ∙ ap (λ (x : ℕ). x - word) e

  -- ---- the two rows change places, row i above row j

  module _ (lt : i < j) where
    within_i : i * w + w ≤ j * w
    within_i = row_before i j w lt

    swap_area : List ℕ
    swap_area = exchanged p q (w - word) area

    half : List ℕ
    half = put q (drop word a.words) area

    half_long : length half ≡ length area
    unfolding half
    half_long = let e = long_a in let f = within_j in length-put q (drop word a.words) area (omega arith)

    A₁ : Row
    A₁ = words_put word (drop word b.words) a

    B₁ : Row
    B₁ = words_put word (drop word a.words) b

    half_held : held m w half ≡ set rows j B₁
    unfolding half B₁ b rows
    half_held = let e = long_a in held_put_row m w area room j word (drop word a.words) hj (omega arith)

    swap_is : swap_area ≡ put p (drop word b.words) half
    unfolding swap_area half
    swap_is = ap₂ (λ (x y : List ℕ). put p x (put q y area)) at_j at_i

    swap_long : length swap_area ≡ length area
    swap_long =
        let e = long_b in
        let f = within_i in
        let g = within_j in
        let h = half_long in
        ap length swap_is ∙ length-put p (drop word b.words) half (omega arith) ∙ half_long

    swap_held : held m w swap_area ≡ set (set rows j B₁) i A₁
    unfolding A₁ rows a
    swap_held =
        let e = long_b in
        let h = half_long in
        ap (held m w) swap_is ∙ held_put_row m w half (omega arith) i word (drop word b.words) (omega arith) (omega arith)
        ∙ ap₂ (λ (l : List Row) (r : Row). set l i (words_put word (drop word b.words) r)) half_held
        (ap (λ (l : List Row). get_or l i no_row) half_held ∙ get_or-set_other rows j i B₁ no_row (λ z. omega arith))

    swap_past : drop (m * w + m) swap_area ≡ drop (m * w + m) area
    unfolding half
    swap_past =
        let e = long_b in
        let d = long_a in
        let f = within_i in
        let g = within_j in
        let h = half_long in
        ap (drop (m * w + m)) swap_is ∙ drop-put_after (m * w + m) p (drop word b.words) half (omega arith) (omega arith)
        ∙ drop-put_after (m * w + m) q (drop word a.words) area (omega arith) (omega arith)

    swap_became : Became m w area (swap_rows word i j (held m w area)) (exchanged (m * w + i) (m * w + j) 1 swap_area)
    unfolding swap_rows from_word A₁ B₁ a b rows
    swap_became = record {
      long = let h = swap_long in constants_long m w swap_area (omega arith) i j lt hj ∙ swap_long;
      holds =
          let h = swap_long in
          let n = rows_length m w 0 area (drop (m * w) area) in
          let n' = length-set rows j B₁ in
          let at-i' : get_or (set (set rows j B₁) i A₁) i no_row ≡ A₁ = get_or-set_same (set rows j B₁) i A₁ no_row (omega arith) in
          let at-j' : get_or (set (set rows j B₁) i A₁) j no_row ≡ B₁ =
          get_or-set_other (set rows j B₁) i j A₁ no_row (λ z. omega arith) ∙ get_or-set_same rows j B₁ no_row (omega arith) in
          constants_held m w swap_area (omega arith) i j lt hj (set (set rows j B₁) i A₁) swap_held
          ∙ ap₂ (λ (x y : Row). set (set (set (set rows j B₁) i A₁) j (constant_put x.c y)) i (constant_put y.c x)) at-i' at-j'
          ∙ set_twice rows i j A₁ B₁ (constant_put B₁.c A₁) (constant_put A₁.c B₁) (λ z. omega arith)
          ∙ ap₂ (λ (x y : List ℕ). set (set rows i (record { words = x; c = b.c })) j (record { words = y; c = a.c }))
          (put_end word w (drop word b.words) a.words hw long_b (wide i hi)) (put_end word w (drop word a.words) b.words hw long_a (wide j hj));
      past = let h = swap_long in constants_past m w swap_area (omega arith) i j lt hj ∙ swap_past;
    }

    -- rows i and j from the word on, then their constants
    pub swapped_became : (mid after : List ℕ) → mid ≡ exchanged (i * w + word) (j * w + word) (w - word) area → after ≡ exchanged (m * w + i) (m * w + j) 1 mid
        → Became m w area (swap_rows word i j (held m w area)) after
    unfolding swap_area
    swapped_became mid after e f = subst (Became m w area (swap_rows word i j (held m w area))) (sym (f ∙ ap (exchanged (m * w + i) (m * w + j) 1) e)) swap_became

  -- ---- row i is XORed into row j, which lies above it or below it

  module _ (ne : i ≢ j) where
    xor_area : List ℕ
    xor_area = put q (xor_words (stretch q (w - word) area) (stretch p (w - word) area)) area

    mixed : List ℕ
    mixed = xor_words (drop word b.words) (drop word a.words)

    mixed_long : length mixed ≡ w - word
    unfolding mixed
    mixed_long = length-xor_words (drop word b.words) (drop word a.words) (long_b ∙ sym long_a) ∙ long_b

    xor_is : xor_area ≡ put q mixed area
    unfolding xor_area mixed
    xor_is = ap₂ (λ (x y : List ℕ). put q (xor_words x y) area) at_j at_i

    xor_long : length xor_area ≡ length area
    xor_long = let e = mixed_long in let f = within_j in ap length xor_is ∙ length-put q mixed area (omega arith)

    B₂ : Row
    B₂ = words_put word mixed b

    xor_held : held m w xor_area ≡ set rows j B₂
    unfolding B₂ b rows
    xor_held = let e = mixed_long in ap (held m w) xor_is ∙ held_put_row m w area room j word mixed hj (omega arith)

    added : List ℕ
    added = put (m * w + j) (xor_words (stretch (m * w + j) 1 xor_area) (stretch (m * w + i) 1 xor_area)) xor_area

    constant : ℕ
    constant = bit_xor b.c a.c

    added_is : added ≡ put (m * w + j) (constant ∷ []) xor_area
    unfolding added constant xor_words B₂ a b rows
    added_is =
        let h = xor_long in
        let n = rows_length m w 0 area (drop (m * w) area) in
        let at-j' : get_or xor_area (m * w + j) 0 ≡ b.c =
        sym (held_constant m w xor_area (omega arith) j hj) ∙ ap (λ (l : List Row). (get_or l j no_row).c) xor_held
        ∙ ap (λ (r : Row). r.c) (get_or-set_same rows j B₂ no_row (omega arith)) in
        let at-i' : get_or xor_area (m * w + i) 0 ≡ a.c =
        sym (held_constant m w xor_area (omega arith) i hi) ∙ ap (λ (l : List Row). (get_or l i no_row).c) xor_held
        ∙ ap (λ (r : Row). r.c) (get_or-set_other rows j i B₂ no_row ne) in
        ap₂ (λ (x y : List ℕ). put (m * w + j) (xor_words x y) xor_area) (stretch_one (m * w + j) xor_area (omega arith)) (stretch_one (m * w + i) xor_area (omega arith))
        ∙ ap₂ (λ (x y : ℕ). put (m * w + j) (bit_xor x y ∷ []) xor_area) at-j' at-i'

    xor_became : Became m w area (set (held m w area) j (xor_from word (get_or (held m w area) i no_row) (get_or (held m w area) j no_row))) added
    unfolding xor_from mixed constant B₂ a b rows
    xor_became = record {
      long = let h = xor_long in ap length added_is ∙ length-put (m * w + j) (constant ∷ []) xor_area (omega arith) ∙ xor_long;
      holds =
          let h = xor_long in
          let n = rows_length m w 0 area (drop (m * w) area) in
          ap (held m w) added_is ∙ held_put_constant m w xor_area (omega arith) j constant hj
          ∙ ap (λ (l : List Row). set l j (constant_put constant (get_or l j no_row))) xor_held
          ∙ ap (λ (r : Row). set (set rows j B₂) j (constant_put constant r)) (get_or-set_same rows j B₂ no_row (omega arith))
          ∙ set-set rows j B₂ (constant_put constant B₂)
          ∙ ap (λ (x : List ℕ). set rows j (record { words = x; c = constant })) (put_end word w mixed b.words hw mixed_long (wide j hj));
      past =
          let h = xor_long in
          let e = mixed_long in
          let f = within_j in
          ap (drop (m * w + m)) added_is ∙ drop-put_after (m * w + m) (m * w + j) (constant ∷ []) xor_area (omega arith) (omega arith)
          ∙ ap (drop (m * w + m)) xor_is ∙ drop-put_after (m * w + m) q mixed area (omega arith) (omega arith);
    }

    -- row i into row j from the word on, then its constant
    pub xored_became : (mid after : List ℕ) → mid ≡ put (j * w + word) (xor_words (stretch (j * w + word) (w - word) area) (stretch (i * w + word) (w - word) area)) area
        → after ≡ put (m * w + j) (xor_words (stretch (m * w + j) 1 mid) (stretch (m * w + i) 1 mid)) mid
        → Became m w area (set (held m w area) j (xor_from word (get_or (held m w area) i no_row) (get_or (held m w area) j no_row))) after
    unfolding xor_area added
    xored_became mid after e f =
        subst (Became m w area (set (held m w area) j (xor_from word (get_or (held m w area) i no_row) (get_or (held m w area) j no_row))))
        (sym (f ∙ ap (λ (l : List ℕ). put (m * w + j) (xor_words (stretch (m * w + j) 1 l) (stretch (m * w + i) 1 l)) l) e)) xor_became
