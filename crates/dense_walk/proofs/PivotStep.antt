-- One column on the rows of an area: the pivot's row is brought up to the rank and cleared from the rows below.
use mathlib.Core.Path.{◌≡◌, refl, sym, ap, ap₂, ◌∙◌, subst}
use mathlib.Core.List.{List, [], ◌∷◌, ◌++◌, map}
use Prim.Native.Nat.{ℕ, ◌+◌, ◌/◌, ◌<◌, ◌≤◌}
use native.Mathlib.Nat.{add-zero, le_refl}
use native.Mathlib.Numerals.{add-one}
use native.Mathlib.Omega.{arith}
use lib.ListN.{length, get_or, set, take, drop, length-set}
use lib.Seq.{drop-cons, take-suc, take-set-le, drop-set-add, get_or-drop, take_at, drop_at, length-take-le}
use Rattle.dense_rows.specs.Bits.{Row}
use Rattle.dense_rows.specs.Steps.{pivot_from, from_word, no_row, swap_rows, clear_row, clear_below}
use Rattle.std.specs.Prelude.{Option, Some, None}
use Rattle.dense_rows.proofs.SearchLaws.{Found, at, nowhere, found, moved, pivot_moved}
use Rattle.dense_walk.specs.Eliminate.{passed, taken, topped, column}

-- ---- where the search ended

-- a search that counts from b on
from_zero : (c b : ℕ) (rest : List Row) → pivot_from c b rest ≡ moved b (pivot_from c 0 rest)
from_zero c b rest = ap (λ (i : ℕ). pivot_from c i rest) (sym (add-zero b)) ∙ pivot_moved c b 0 rest

nowhere_from : (c b : ℕ) (rest : List Row) → pivot_from c b rest ≡ None → pivot_from c 0 rest ≡ None
nowhere_from c b rest e = go (pivot_from c 0 rest) (sym (from_zero c b rest) ∙ e)
  where
    go : (o : Option ℕ) → moved b o ≡ None → o ≡ None
    go (Some r) q = absurd (let z : ◌≡◌ {A = ℕ} 0 1 = cc in omega arith)
    go None q = refl

-- the pivot's place in the rows from b on
at_from : (c b : ℕ) (rest : List Row) (r : ℕ) → pivot_from c b rest ≡ Some r → (j : ℕ) × (r ≡ b + j) × (j < length rest) × (pivot_from c 0 rest ≡ Some j)
at_from c b rest r e = go (pivot_from c 0 rest) (found c 0 rest) refl (sym (from_zero c b rest) ∙ e)
  where
    go : (o : Option ℕ) → Found c 0 rest o → pivot_from c 0 rest ≡ o → moved b o ≡ Some r → (j : ℕ) × (r ≡ b + j) × (j < length rest) × (pivot_from c 0 rest ≡ Some j)
    go o (at i h p {r = s} q) f g = let z : b + s ≡ r = cc in (s, sym z, omega arith, f)
    go o (nowhere n) f g = absurd (let z : ◌≡◌ {A = ℕ} 0 1 = cc in omega arith)

pub pivot_place : (c b : ℕ) (rest : List Row) (r : ℕ) → pivot_from c b rest ≡ Some r → (b ≤ r) × (r < b + length rest)
pivot_place c b rest r e = let t = at_from c b rest r e in (omega (arith, t.1), omega (arith, t.1, t.2))

-- ---- no row has the column

column_passed : (c : ℕ) (rest : List Row) → pivot_from c 0 rest ≡ None → column c rest ≡ passed
unfolding column
column_passed c rest e = rw (e, column)

pub column_none : (c b : ℕ) (rest : List Row) → pivot_from c b rest ≡ None → column c rest ≡ passed
column_none c b rest e = column_passed c rest (nowhere_from c b rest e)

-- ---- a row has it

column_taken : (c j : ℕ) (rest : List Row) → pivot_from c 0 rest ≡ Some j → column c rest ≡ topped c (swap_rows (c / 64) 0 j rest)
unfolding column
column_taken c j rest e = rw (e, column)

module _ (k b j : ℕ) (rows : List Row) where
  swapped : List Row
  swapped = swap_rows k b (b + j) rows

  length_swapped : length swapped ≡ length rows
  unfolding swapped swap_rows
  length_swapped = simp length-set

  swap_above : take b swapped ≡ take b rows
  unfolding swapped swap_rows
  swap_above =
      let a : Row = get_or rows b no_row in
      let d : Row = get_or rows (b + j) no_row in
      take-set-le b (set rows b (from_word k a d)) (b + j) (from_word k d a) (omega arith) ∙ take-set-le b rows b (from_word k a d) (le_refl b)

  swap_below : drop b swapped ≡ swap_rows k 0 j (drop b rows)
  unfolding swapped swap_rows
  swap_below =
      let a : Row = get_or rows b no_row in
      let d : Row = get_or rows (b + j) no_row in
      let top : get_or (drop b rows) 0 no_row ≡ a = get_or-drop b rows 0 no_row ∙ ap (λ (i : ℕ). get_or rows i no_row) (add-zero b) in
      let first : drop b (set rows b (from_word k a d)) ≡ set (drop b rows) 0 (from_word k a d) =
      ap (λ (i : ℕ). drop b (set rows i (from_word k a d))) (sym (add-zero b)) ∙ drop-set-add b rows 0 (from_word k a d) in
      drop-set-add b (set rows b (from_word k a d)) j (from_word k d a)
      ∙ ap (λ (l : List Row). set l j (from_word k d a)) first
      ∙ ap₂ (λ (x y : Row). set (set (drop b rows) 0 (from_word k x y)) j (from_word k y x)) (sym top) (sym (get_or-drop b rows j no_row))

-- the pivot's row has come to place b and is cleared from the rows below
module _ (c b : ℕ) (rows : List Row) (h : b < length rows) where
  after : List Row
  after = clear_below c b rows

  front : length (take (b + 1) rows) ≡ b + 1
  front = length-take-le (b + 1) rows (omega arith)

  after_front : take (b + 1) after ≡ take (b + 1) rows
  unfolding after clear_below
  after_front = take_at (take (b + 1) rows) (map (clear_row c (get_or rows b no_row)) (drop (b + 1) rows)) (b + 1) front

  after_below : drop (b + 1) after ≡ map (clear_row c (get_or rows b no_row)) (drop (b + 1) rows)
  unfolding after clear_below
  after_below = drop_at (take (b + 1) rows) (map (clear_row c (get_or rows b no_row)) (drop (b + 1) rows)) (b + 1) front

  after_taken : topped c (drop b rows) ≡ taken (get_or rows b no_row) (drop (b + 1) after)
  unfolding topped
  after_taken =
      ap (topped c) (drop-cons rows b no_row h)
      ∙ ap (taken (get_or rows b no_row)) (sym (after_below ∙ ap (λ (i : ℕ). map (clear_row c (get_or rows b no_row)) (drop i rows)) (add-one b)))

-- what a column makes of the rows from row b on, and of those above
pub record PivotTaken (c b : ℕ) (rows cleared : List Row) : Type 0 where
  pub pivot : Row
  pub step : column c (drop b rows) ≡ taken pivot (drop (b + 1) cleared)
  pub tops : take (b + 1) cleared ≡ take b rows ++ (pivot ∷ [])

pub pivot_taken : (c b r : ℕ) (rows : List Row) → b < length rows → pivot_from c b (drop b rows) ≡ Some r → PivotTaken c b rows (clear_below c b (swap_rows (c / 64) b r rows))
unfolding swapped after
pivot_taken c b r rows h e =
    let t = at_from c b (drop b rows) r e in
    let S : List Row = swap_rows (c / 64) b (b + t.0) rows in
    let long : length S ≡ length rows = length_swapped (c / 64) b t.0 rows in
    subst (λ (q : ℕ). PivotTaken c b rows (clear_below c b (swap_rows (c / 64) b q rows))) (sym t.1) (record {
      pivot = get_or S b no_row;
      step =
          column_taken c t.0 (drop b rows) t.3 ∙ ap (topped c) (sym (swap_below (c / 64) b t.0 rows)) ∙ after_taken c b S (omega arith);
      tops =
          after_front c b S (omega arith) ∙ ap (λ (k : ℕ). take k S) (add-one b) ∙ take-suc S b no_row (omega arith)
          ∙ ap (λ (q : List Row). q ++ (get_or S b no_row ∷ [])) (swap_above (c / 64) b t.0 rows);
    })
