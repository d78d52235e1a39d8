-- The loop over the columns: what the area and the numbers hold so far, and what the columns that are left make of it.
use mathlib.Core.Path.{◌≡◌, refl, sym, ap, ap₂, ◌∙◌, subst}
use mathlib.Core.List.{List, [], ◌∷◌, ◌++◌, map}
use Prim.Native.Nat.{ℕ, suc, ◌+◌, ◌-◌, ◌*◌, ◌/◌, ◌<◌, ◌≤◌}
use native.Mathlib.Nat.{zero-add}
use native.Mathlib.Numerals.{add-one}
use native.Mathlib.Omega.{arith}
use lib.ListN.{length, get_or, set, take, drop, length-set, length-drop, length-append, length-map}
use lib.Seq.{drop-cons, take-suc-set, drop-set-lt, append_snoc, take_at, drop_at, take-take, get_or-take, get_or_at, length-take-le}
use Rattle.areas.specs.Stretch.{stretch, put}
use Rattle.areas.proofs.Stretch.{drop_agree}
use Rattle.dense_steps.specs.Clearing.{cleared_row, cleared_rows}
use Rattle.gf2.specs.Equation.{Each}
use Rattle.gf2.proofs.Each.{each_append}
use Rattle.dense_rows.specs.Bits.{Row}
use Rattle.dense_rows.specs.Steps.{pivot_from, no_row, swap_rows, clear_row, clear_below}
use Rattle.std.specs.Prelude.{Some, None}
use Rattle.dense_rows.specs.Areas.{rows_in, SameArea, Holds}
use Rattle.dense_rows.specs.declared.area.Area.{Area}
use Rattle.dense_rows.proofs.Holding.{rows_count, same_area, same_then, same_rows, holds_then, holds_in}
use Rattle.dense_walk.specs.Eliminate.{passed, taken, column}
use Rattle.dense_walk.proofs.PivotStep.{pivot_place, column_none, PivotTaken, pivot_taken}
use Rattle.slow_rules.specs.Slow.{PivotRow, Progress, clear_pivot_row, clear_column, clear_columns, untouched, pivot_rows}
use Rattle.slow_dense.specs.Columns.{clear_above, ColumnsDone}

-- ---- the cases of a column

clear_passed : (c : ℕ) (done : List PivotRow) (left : List Row) → column c left ≡ passed → clear_column c (record { done = done; left = left }) ≡ record { done = done; left = left }
unfolding clear_column
clear_passed c done left e = rw (e, clear_column)

clear_taken : (c : ℕ) (done : List PivotRow) (left : List Row) (p : Row) (below : List Row) → column c left ≡ taken p below
    → clear_column c (record { done = done; left = left }) ≡ record { done = map (clear_pivot_row c p) done ++ (record { at = c; row = p } ∷ []); left = below }
unfolding clear_column
clear_taken c done left p below e = rw (e, clear_column)

-- ---- columns and rows, one by one

pivots_snoc : (cs : List ℕ) (rows : List Row) (c : ℕ) (row : Row) → length cs ≡ length rows
    → pivot_rows (cs ++ (c ∷ [])) (rows ++ (row ∷ [])) ≡ pivot_rows cs rows ++ (record { at = c; row = row } ∷ [])
unfolding pivot_rows
pivots_snoc [] [] c row e = refl
pivots_snoc [] (r ∷ rows) c row e = absurd (omega arith)
pivots_snoc (d ∷ cs) [] c row e = absurd (omega arith)
pivots_snoc (d ∷ cs) (r ∷ rows) c row e = ap (λ (l : List PivotRow). record { at = d; row = r } ∷ l) (pivots_snoc cs rows c row (omega arith))

pivots_map : (c : ℕ) (p : Row) (cs : List ℕ) (rows : List Row) → pivot_rows cs (map (clear_row c p) rows) ≡ map (clear_pivot_row c p) (pivot_rows cs rows)
unfolding pivot_rows clear_pivot_row
pivots_map c p [] rows = refl
pivots_map c p (d ∷ cs) [] = refl
pivots_map c p (d ∷ cs) (r ∷ rows) = ap (λ (l : List PivotRow). record { at = d; row = clear_row c p r } ∷ l) (pivots_map c p cs rows)

-- ---- the rows above the pivot row are cleared too

pub cleared_above : (c i : ℕ) (rows : List Row) → i < length rows → cleared_rows c (c / 64) i 0 i rows ≡ clear_above c i rows
unfolding cleared_rows cleared_row clear_above clear_row put stretch
cleared_above c i rows h =
    let f = cleared_row c (c / 64) (get_or rows i no_row) in
    let z : i - 0 ≡ i = omega arith in
    let n : 0 + length (map f (take i rows)) ≡ i = zero-add (length (map f (take i rows))) ∙ length-map (take i rows) f ∙ length-take-le i rows (omega arith) in
    ap (λ (k : ℕ). map f (take k rows) ++ drop (0 + length (map f (take k rows))) rows) z
    ∙ ap (λ (k : ℕ). map f (take i rows) ++ drop k rows) n

module _ (c b : ℕ) (rows cleared : List Row) (p : Row) (hb : b < length rows) (hc : b < length cleared) (tops : take (b + 1) cleared ≡ take b rows ++ (p ∷ [])) where
  front_count : length (take b rows) ≡ b
  front_count = length-take-le b rows (omega arith)

  front_is : take b cleared ≡ take b rows
  front_is = sym (take-take b (b + 1) cleared (omega arith)) ∙ ap (take b) tops ∙ take_at (take b rows) (p ∷ []) b front_count

  pivot_is : get_or cleared b no_row ≡ p
  pivot_is = sym (get_or-take (b + 1) cleared b no_row (omega arith)) ∙ ap (λ (l : List Row). get_or l b no_row) tops ∙ get_or_at (take b rows) p [] no_row b front_count

  new_front : List Row
  new_front = map (clear_row c p) (take b rows) ++ (p ∷ [])

  new_count : length new_front ≡ b + 1
  unfolding new_front
  new_count = length-append (map (clear_row c p) (take b rows)) (p ∷ []) ∙ ap (λ (k : ℕ). k + 1) (length-map (take b rows) (clear_row c p) ∙ front_count)

  now : clear_above c b cleared ≡ new_front ++ drop (b + 1) cleared
  unfolding clear_above new_front
  now =
      ap₂ (λ (q : Row) (l : List Row). map (clear_row c q) l ++ drop b cleared) pivot_is front_is
      ∙ ap (λ (l : List Row). map (clear_row c p) (take b rows) ++ l)
      (drop-cons cleared b no_row hc ∙ ap₂ (λ (q : Row) (k : ℕ). q ∷ drop k cleared) pivot_is (sym (add-one b)))
      ∙ sym (append_snoc (map (clear_row c p) (take b rows)) p (drop (b + 1) cleared))

  above_front : take (b + 1) (clear_above c b cleared) ≡ map (clear_row c p) (take b rows) ++ (p ∷ [])
  unfolding new_front
  above_front = ap (take (b + 1)) now ∙ take_at new_front (drop (b + 1) cleared) (b + 1) new_count

  above_rest : drop (b + 1) (clear_above c b cleared) ≡ drop (b + 1) cleared
  above_rest = ap (drop (b + 1)) now ∙ drop_at new_front (drop (b + 1) cleared) (b + 1) new_count

-- ---- the loop

abbrev progress_on : ℕ → List ℕ → List Row → Progress
progress_on rank numbers rows = record { done = pivot_rows (take rank numbers) (take rank rows); left = drop rank rows }

pub record ClearingColumns (n : ℕ) (numbers₀ : List ℕ) (a : Area) (rank col : ℕ) (numbers : List ℕ) (b : Area) : Type 0 where
  pub same : SameArea a b
  pub ranked : rank ≤ a.m
  pub numbers_long : length numbers ≡ length numbers₀
  pub numbers_past : drop rank numbers ≡ drop rank numbers₀
  pub words_long : length b.words.now ≡ length a.words.now
  pub words_past : drop (a.m * a.w + a.m) b.words.now ≡ drop (a.m * a.w + a.m) a.words.now
  pub pivots_below : Each (λ p. p < n) (take rank numbers)
  pub future : clear_columns n 0 (untouched (rows_in a)) ≡ clear_columns (n - col) col (progress_on rank numbers (rows_in b))

pub columns_begin : (n : ℕ) (numbers : List ℕ) (a : Area) → ClearingColumns n numbers a 0 0 numbers a
unfolding pivot_rows
columns_begin n numbers a =
    let z : n - 0 ≡ n = omega arith in
    record {
      same = same_area;
      ranked = omega arith;
      numbers_long = refl;
      numbers_past = refl;
      words_long = refl;
      words_past = refl;
      pivots_below = tt;
      future = sym (ap (λ (k : ℕ). clear_columns k 0 (untouched (rows_in a))) z);
    }

module _ {n : ℕ} {numbers₀ : List ℕ} {a : Area} {rank col : ℕ} {numbers : List ℕ} {b : Area} (s : ClearingColumns n numbers₀ a rank col numbers b) where
  abbrev rows : List Row
  rows = rows_in b

  -- the column is done, and the next one is at hand
  one_on : col < n → (t : Progress) → clear_column col (progress_on rank numbers rows) ≡ t
      → clear_columns n 0 (untouched (rows_in a)) ≡ clear_columns (n - (col + 1)) (col + 1) t
  unfolding clear_columns
  one_on h t e =
      let k : n - col ≡ suc (n - (col + 1)) = omega arith in
      s.future ∙ ap (λ (i : ℕ). clear_columns i col (progress_on rank numbers rows)) k
      ∙ ap₂ (λ (c : ℕ) (p : Progress). clear_columns (n - (col + 1)) c p) (sym (add-one col)) e

  pub columns_ranked : rank ≤ b.m
  columns_ranked = let m = s.same.same_m in let r = s.ranked in omega arith

  -- where the search found a row
  pub columns_place : {pivot : ℕ} → Some pivot ≡ pivot_from col rank (drop rank (rows_in b)) → (rank ≤ pivot) × (pivot < b.m)
  columns_place {pivot} e =
      let r = s.ranked in
      let m = s.same.same_m in
      let l = rows_count b in
      let d = length-drop rank rows in
      let t = pivot_place col rank (drop rank rows) pivot (sym e) in
      (t.0, omega (arith, t.1))

  -- no row has the column
  pub columns_skip : col < n → None ≡ pivot_from col rank (drop rank (rows_in b)) → ClearingColumns n numbers₀ a rank (col + 1) numbers b
  columns_skip h e = record {
    same = s.same;
    ranked = s.ranked;
    numbers_long = s.numbers_long;
    numbers_past = s.numbers_past;
    words_long = s.words_long;
    words_past = s.words_past;
    pivots_below = s.pivots_below;
    future =
        one_on h (progress_on rank numbers rows)
        (clear_passed col (pivot_rows (take rank numbers) (take rank rows)) (drop rank rows) (column_none col rank (drop rank rows) (sym e)));
  }

  -- a pivot's row is brought up, and its column is cleared below it and above
  pub columns_turn : {pivot : ℕ} {c d : Area} → col < n → a.m ≤ length numbers → Some pivot ≡ pivot_from col rank (drop rank (rows_in b))
      → Holds b (clear_below col rank (swap_rows (col / 64) rank pivot (rows_in b))) c
      → Holds c (clear_above col rank (rows_in c)) d → ClearingColumns n numbers₀ a (rank + 1) (col + 1) (set numbers rank col) d
  columns_turn {pivot} {c} {d} h f e g k =
      let l = rows_count b in
      let l' = rows_count c in
      let m = s.same.same_m in
      let m' = g.same.same_m in
      let q = columns_place e in
      let hr : rank < a.m = omega (arith, q) in
      let step : Holds b (clear_above col rank (clear_below col rank (swap_rows (col / 64) rank pivot (rows_in b)))) d = holds_then (clear_above col rank) g k in
      let past = rw (s.same.same_m, s.same.same_w) at step.became.past in
      let t : PivotTaken col rank rows (rows_in c) = subst (PivotTaken col rank rows) (sym (holds_in g)) (pivot_taken col rank pivot rows (omega arith) (sym e)) in
      let p : Row = t.pivot in
      let pivots : take (rank + 1) (set numbers rank col) ≡ take rank numbers ++ (col ∷ []) =
      ap (λ (k : ℕ). take k (set numbers rank col)) (add-one rank) ∙ take-suc-set numbers rank col (omega arith) in
      let tops : take (rank + 1) (rows_in d) ≡ map (clear_row col p) (take rank rows) ++ (p ∷ []) =
      ap (take (rank + 1)) (holds_in k) ∙ above_front col rank rows (rows_in c) p (omega arith) (omega arith) t.tops in
      let below : drop (rank + 1) (rows_in d) ≡ drop (rank + 1) (rows_in c) =
      ap (drop (rank + 1)) (holds_in k) ∙ above_rest col rank rows (rows_in c) p (omega arith) (omega arith) t.tops in
      let as_many : length (take rank numbers) ≡ length (map (clear_row col p) (take rank rows)) =
      length-take-le rank numbers (omega arith) ∙ sym (length-map (take rank rows) (clear_row col p) ∙ length-take-le rank rows (omega arith)) in
      let done : pivot_rows (take (rank + 1) (set numbers rank col)) (take (rank + 1) (rows_in d))
      ≡ map (clear_pivot_row col p) (pivot_rows (take rank numbers) (take rank rows)) ++ (record { at = col; row = p } ∷ []) =
      ap₂ pivot_rows pivots tops ∙ pivots_snoc (take rank numbers) (map (clear_row col p) (take rank rows)) col p as_many
      ∙ ap (λ (ds : List PivotRow). ds ++ (record { at = col; row = p } ∷ [])) (pivots_map col p (take rank numbers) (take rank rows)) in
      record {
        same = same_then s.same step.same;
        ranked = omega arith;
        numbers_long = length-set numbers rank col ∙ s.numbers_long;
        numbers_past = drop-set-lt (rank + 1) numbers rank col (omega arith) ∙ drop_agree rank (rank + 1) numbers numbers₀ (omega arith) s.numbers_past;
        words_long = step.became.long ∙ s.words_long;
        words_past = past ∙ s.words_past;
        pivots_below = rw pivots (each_append (λ p. p < n) (take rank numbers) (col ∷ []) s.pivots_below (h, tt));
        future =
            one_on h (progress_on (rank + 1) (set numbers rank col) (rows_in d))
            (clear_taken col (pivot_rows (take rank numbers) (take rank rows)) (drop rank rows) p (drop (rank + 1) (rows_in c)) t.step
            ∙ λ i. record { done = sym done i; left = sym below i });
      }

  -- every column is done
  pub columns_end : n ≤ col → ColumnsDone n a.m a.w numbers₀ a.words.now rank numbers b.words.now
  unfolding clear_columns
  columns_end h =
      let z : n - col ≡ 0 = omega arith in
      record {
        ranked = s.ranked;
        pivots_below = s.pivots_below;
        progress = s.future ∙ ap (λ (k : ℕ). clear_columns k col (progress_on rank numbers rows)) z ∙ ap (progress_on rank numbers) (same_rows s.same);
        numbers_long = s.numbers_long;
        numbers_past = s.numbers_past;
        words_long = s.words_long;
        words_past = s.words_past;
      }
