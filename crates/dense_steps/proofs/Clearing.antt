-- Rows that are cleared one after the other, and the pivot row that is brought up before.
use mathlib.Core.Path.{◌≡◌, refl, sym, ap, ap₂, ◌∙◌, subst}
use mathlib.Core.Logic.{◌⊎◌, inl, inr, ⊎_elim}
use mathlib.Core.Bool.{true, false}
use mathlib.Core.List.{List, [], ◌∷◌, ◌++◌, map, append-nil, map-append}
use Prim.Native.Nat.{ℕ, ◌+◌, ◌-◌, ◌*◌, ◌/◌, ◌<◌, ◌≤◌}
use native.Mathlib.Omega.{arith}
use lib.ListN.{length, get_or, set, take, drop, length-drop, length-map, drop_of_length-le, take-append-drop}
use lib.Seq.{drop-cons, set-set, set-get_or, take_all}
use Rattle.areas.specs.Stretch.{stretch, put}
use Rattle.areas.proofs.Stretch.{length-stretch, stretch_none, stretch_split, put_none, put_more, get_or-put_before, get_or-put_after}
use Rattle.dense_rows.specs.Bits.{Row, has_bit}
use Rattle.dense_rows.specs.Steps.{no_row, xor_from, clear_row, clear_below, swap_rows, from_word}
use Rattle.dense_rows.specs.Rows.{held, Became}
use Rattle.dense_rows.specs.Areas.{rows_in, Holds}
use Rattle.dense_rows.specs.declared.area.Area.{Area}
use Rattle.dense_rows.proofs.HeldLaws.{rows_length}
use Rattle.dense_rows.proofs.Holding.{holds_same}
use Rattle.dense_steps.specs.Clearing.{cleared_row, cleared_rows}

-- ---- one row more

cleared_row_set : (c k : ℕ) (p r : Row) → has_bit c r ≡ true → cleared_row c k p r ≡ xor_from k p r
unfolding cleared_row
cleared_row_set c k p r e = rw (e, cleared_row)

cleared_row_unset : (c k : ℕ) (p r : Row) → has_bit c r ≡ false → cleared_row c k p r ≡ r
unfolding cleared_row
cleared_row_unset c k p r e = rw (e, cleared_row)

stretch_row : (i n : ℕ) (rows : List Row) → i + n < length rows → stretch i (n + 1) rows ≡ stretch i n rows ++ (get_or rows (i + n) no_row ∷ [])
unfolding stretch
stretch_row i n rows h = stretch_split i n 1 rows ∙ ap (λ (l : List Row). take n (drop i rows) ++ take 1 l) (drop-cons rows (i + n) no_row h)

module _ (c k p from : ℕ) (rows : List Row) where
  pub cleared_none : cleared_rows c k p from from rows ≡ rows
  unfolding cleared_rows
  cleared_none =
      let z : from - from ≡ 0 = omega arith in
      let f = cleared_row c k (get_or rows p no_row) in
      ap (λ (n : ℕ). put from (map f (stretch from n rows)) rows) z ∙ ap (λ (l : List Row). put from (map f l) rows) (stretch_none from rows) ∙ put_none from rows

  module _ (i : ℕ) (h : from ≤ i) where
    so_many : i ≤ length rows → length (map (cleared_row c k (get_or rows p no_row)) (stretch from (i - from) rows)) ≡ i - from
    so_many l = length-map (stretch from (i - from) rows) (cleared_row c k (get_or rows p no_row)) ∙ length-stretch from (i - from) rows (omega arith)

    -- the rows before and past those that are cleared
    pub cleared_other : i ≤ length rows → (j : ℕ) → (j < from) ⊎ (i ≤ j) → get_or (cleared_rows c k p from i rows) j no_row ≡ get_or rows j no_row
    unfolding cleared_rows
    cleared_other l j (inl o) = get_or-put_before from j no_row _ rows o (omega arith)
    cleared_other l j (inr o) = let n = so_many l in get_or-put_after from j no_row _ rows (omega arith) (omega arith)

    pub cleared_more : i < length rows → set (cleared_rows c k p from i rows) i (cleared_row c k (get_or rows p no_row) (get_or rows i no_row)) ≡ cleared_rows c k p from (i + 1) rows
    unfolding cleared_rows
    cleared_more l =
        let f = cleared_row c k (get_or rows p no_row) in
        let s = stretch from (i - from) rows in
        let n = so_many (omega arith) in
        let e : from + (i - from) ≡ i = omega arith in
        let e' : i + 1 - from ≡ i - from + 1 = omega arith in
        let at : from + length (map f s) ≡ i = omega arith in
        let more : stretch from (i - from + 1) rows ≡ s ++ (get_or rows i no_row ∷ []) = stretch_row from (i - from) rows (omega arith) ∙ ap (λ (j : ℕ). s ++ (get_or rows j no_row ∷ [])) e in
        ap (λ (j : ℕ). set (put from (map f s) rows) j (f (get_or rows i no_row))) (sym at)
        ∙ put_more from (f (get_or rows i no_row)) (map f s) rows (omega arith)
        ∙ ap (λ (l : List Row). put from l rows) (sym (map-append f s (get_or rows i no_row ∷ [])) ∙ ap (map f) (sym more))
        ∙ ap (λ (n : ℕ). put from (map f (stretch from n rows)) rows) (sym e')

-- ---- a loop that clears rows

-- one step after another
became_then : {m w : ℕ} {area mid after : List ℕ} {rows : List Row} (f : List Row → List Row) → Became m w area rows mid → Became m w mid (f (held m w mid)) after → Became m w area (f rows) after
became_then f p q = record { long = q.long ∙ p.long; holds = q.holds ∙ ap f p.holds; past = q.past ∙ p.past }

-- the same rows, otherwise written
pub became_as : {m w : ℕ} {area after : List ℕ} {rows rows' : List Row} → rows ≡ rows' → Became m w area rows after → Became m w area rows' after
became_as {m} {w} {area} {after} e h = subst (λ (rows : List Row). Became m w area rows after) e h

-- no step
pub became_same : {m w : ℕ} {area : List ℕ} {rows : List Row} → held m w area ≡ rows → Became m w area rows area
became_same e = record { long = refl; holds = e; past = refl }

held_count : (m w : ℕ) (area : List ℕ) → length (held m w area) ≡ m
held_count m w area = rows_length m w 0 area (drop (m * w) area)

module _ (m w col word pivot from i : ℕ) {area mid : List ℕ} (h : Became m w area (cleared_rows col word pivot from i (held m w area)) mid) (f : from ≤ i) (l : i < m) (o : (pivot < from) ⊎ (i < pivot)) where
  here : get_or (held m w mid) i no_row ≡ get_or (held m w area) i no_row
  here = let n = held_count m w area in ap (λ (rows : List Row). get_or rows i no_row) h.holds ∙ cleared_other col word pivot from (held m w area) i f (omega arith) i (inr (omega arith))

  top : get_or (held m w mid) pivot no_row ≡ get_or (held m w area) pivot no_row
  top =
      let n = held_count m w area in
      ap (λ (rows : List Row). get_or rows pivot no_row) h.holds
      ∙ cleared_other col word pivot from (held m w area) i f (omega arith) pivot (⊎_elim (λ z. inl z) (λ z. inr (omega arith)) o)

  next : (r : Row) → r ≡ cleared_row col word (get_or (held m w mid) pivot no_row) (get_or (held m w mid) i no_row)
      → set (cleared_rows col word pivot from i (held m w area)) i r ≡ cleared_rows col word pivot from (i + 1) (held m w area)
  next r e =
      let n = held_count m w area in
      ap (set (cleared_rows col word pivot from i (held m w area)) i) (e ∙ ap₂ (cleared_row col word) top here)
      ∙ cleared_more col word pivot from (held m w area) i f (omega arith)

  -- row i has not the column
  pub clear_skip : has_bit col (get_or (held m w mid) i no_row) ≡ false → Became m w area (cleared_rows col word pivot from (i + 1) (held m w area)) mid
  clear_skip e =
      let rows : List Row = cleared_rows col word pivot from i (held m w area) in
      let same : set rows i (get_or (held m w mid) i no_row) ≡ rows = ap (λ (q : List Row). set rows i (get_or q i no_row)) h.holds ∙ set-get_or rows i no_row in
      became_as (sym same ∙ next (get_or (held m w mid) i no_row) (sym (cleared_row_unset col word (get_or (held m w mid) pivot no_row) (get_or (held m w mid) i no_row) e))) h

  -- row i has it, and the pivot row is XORed into it
  pub clear_turn : {after : List ℕ} → has_bit col (get_or (held m w mid) i no_row) ≡ true
      → Became m w mid (set (held m w mid) i (xor_from word (get_or (held m w mid) pivot no_row) (get_or (held m w mid) i no_row))) after
      → Became m w area (cleared_rows col word pivot from (i + 1) (held m w area)) after
  clear_turn e g =
      let r : Row = xor_from word (get_or (held m w mid) pivot no_row) (get_or (held m w mid) i no_row) in
      became_as (next r (sym (cleared_row_set col word (get_or (held m w mid) pivot no_row) (get_or (held m w mid) i no_row) e))) (became_then (λ (rows : List Row). set rows i r) h g)

-- ---- the rows below the pivot row and those above it

-- the rows below row i are those from the next up to the last
pub cleared_below : (c i m : ℕ) (rows : List Row) → i < m → length rows ≡ m → cleared_rows c (c / 64) i (i + 1) m rows ≡ clear_below c i rows
unfolding cleared_rows cleared_row clear_below clear_row put stretch
cleared_below c i m rows h n =
    let f = cleared_row c (c / 64) (get_or rows i no_row) in
    let d = length-drop (i + 1) rows in
    let all : take (m - (i + 1)) (drop (i + 1) rows) ≡ drop (i + 1) rows = take_all (m - (i + 1)) (drop (i + 1) rows) (omega arith) in
    let long : length (map f (drop (i + 1) rows)) ≡ m - (i + 1) = length-map (drop (i + 1) rows) f ∙ omega arith in
    ap (λ (l : List Row). take (i + 1) rows ++ (map f l ++ drop (i + 1 + length (map f l)) rows)) all
    ∙ ap (λ (l : List Row). take (i + 1) rows ++ (map f (drop (i + 1) rows) ++ l)) (drop_of_length-le rows {i = i + 1 + length (map f (drop (i + 1) rows))} (omega arith))
    ∙ ap (λ (l : List Row). take (i + 1) rows ++ l) (append-nil (map f (drop (i + 1) rows)))

-- ---- the pivot row is brought up

-- a row that changes places with itself
swap_self : (k i : ℕ) (rows : List Row) → swap_rows k i i rows ≡ rows
unfolding swap_rows from_word
swap_self k i rows =
    let a : Row = get_or rows i no_row in
    let e : take k a.words ++ drop k a.words ≡ a.words = take-append-drop k a.words in
    ap₂ (λ (x y : List ℕ). set (set rows i (record { words = x; c = a.c })) i (record { words = y; c = a.c })) e e
    ∙ set-set rows i a a ∙ set-get_or rows i no_row

-- .. and its row, which stands at the rank already
pub stays : {a : Area} (k rank pivot : ℕ) → pivot ≡ rank → Holds a (swap_rows k rank pivot (rows_in a)) a
stays {a} k rank pivot e = holds_same (sym (ap (λ (r : ℕ). swap_rows k rank r (rows_in a)) e ∙ swap_self k rank (rows_in a)))
