-- The loop over the columns: what the area and the numbers hold so far, and what is left of the walk.
use mathlib.Core.Path.{◌≡◌, refl, sym, ap, ap₂, ◌∙◌}
use mathlib.Core.List.{List, [], ◌∷◌, ◌++◌, append-nil}
use mathlib.Core.Logic.{◌⊎◌, inl, inr}
use mathlib.Core.Bool.{Bool, true, not, ◌||◌}
use lib.Dec.{eqb}
use Prim.Native.Nat.{ℕ, zero, suc, ◌+◌, ◌-◌, ◌*◌, ◌/◌, ◌<◌, ◌≤◌}
use native.Mathlib.Numerals.{add-one}
use native.Mathlib.Omega.{arith}
use lib.ListN.{length, get_or, set, take, drop, length-set, length-drop, drop_of_length-le}
use lib.Seq.{drop-cons, take-suc-set, drop-set-lt, append_snoc}
use Rattle.gf2.proofs.Tests.{eqb_ne}
use Rattle.areas.proofs.Stretch.{drop_agree}
use Rattle.dense_rows.specs.Bits.{Row}
use Rattle.dense_rows.specs.Steps.{pivot_from, no_row, swap_rows, clear_below}
use Rattle.std.specs.Prelude.{Some, None}
use Rattle.std.specs.List.{list_any, range_with_len}
use Rattle.dense_rows.specs.Areas.{rows_in, SameArea, Holds}
use Rattle.dense_rows.specs.declared.area.Area.{Area}
use Rattle.dense_rows.proofs.Holding.{rows_count, same_area, same_then, same_rows, holds_in}
use Rattle.dense_walk.specs.Eliminate.{passed, taken, column, Walk, on_top, walk, residue}
use Rattle.dense_walk.specs.Areas.{Eliminated}
use Rattle.dense_walk.proofs.WalkLaws.{stopped}
use Rattle.dense_walk.proofs.PivotStep.{pivot_place, column_none, pivot_taken}

-- ---- the cases of the walk

walk_passed : (k c : ℕ) (rest : List Row) → 0 < length rest → column c rest ≡ passed → walk (suc k) c rest ≡ walk k (suc c) rest
unfolding walk
walk_passed k c [] h e = absurd (omega arith)
walk_passed k c (a ∷ rows) h e = rw (e, walk)

walk_taken : (k c : ℕ) (rest : List Row) (p : Row) (below : List Row) → 0 < length rest → column c rest ≡ taken p below → walk (suc k) c rest ≡ on_top c p (walk k (suc c) below)
unfolding walk
walk_taken k c [] p below h e = absurd (omega arith)
walk_taken k c (a ∷ rows) p below h e = rw (e, walk)

walk_no_row : (k c : ℕ) → walk k c [] ≡ stopped []
unfolding walk
walk_no_row zero c = refl
walk_no_row (suc k) c = refl

-- ---- the loop

-- pivots and rows that come before those of a walk
abbrev pub joined : List ℕ → List Row → Walk → Walk
joined ps rs wk = record { pivots = ps ++ wk.pivots; rows = rs ++ wk.rows; left = wk.left }

joined_snoc : (ps : List ℕ) (rs : List Row) (c : ℕ) (p : Row) (wk : Walk) → joined ps rs (on_top c p wk) ≡ joined (ps ++ (c ∷ [])) (rs ++ (p ∷ [])) wk
joined_snoc ps rs c p wk = λ i. record { pivots = sym (append_snoc ps c wk.pivots) i; rows = sym (append_snoc rs p wk.rows) i; left = wk.left }

pub record Walking (n : ℕ) (numbers₀ : List ℕ) (a : Area) (rank col : ℕ) (numbers : List ℕ) (b : Area) : Type 0 where
  pub same : SameArea a b
  pub ranked : rank ≤ a.m
  pub numbers_long : length numbers ≡ length numbers₀
  pub numbers_past : drop rank numbers ≡ drop rank numbers₀
  pub words_long : length b.words.now ≡ length a.words.now
  pub words_past : drop (a.m * a.w + a.m) b.words.now ≡ drop (a.m * a.w + a.m) a.words.now
  pub future : walk n 0 (rows_in a) ≡ joined (take rank numbers) (take rank (rows_in b)) (walk (n - col) col (drop rank (rows_in b)))

pub walking_begin : (n : ℕ) (numbers : List ℕ) (a : Area) → Walking n numbers a 0 0 numbers a
walking_begin n numbers a =
    let z : n - 0 ≡ n = omega arith in
    record {
      same = same_area;
      ranked = omega arith;
      numbers_long = refl;
      numbers_past = refl;
      words_long = refl;
      words_past = refl;
      future = sym (ap (λ (k : ℕ). walk k 0 (rows_in a)) z);
    }

module _ {n : ℕ} {numbers₀ : List ℕ} {a : Area} {rank col : ℕ} {numbers : List ℕ} {b : Area} (s : Walking n numbers₀ a rank col numbers b) where
  count : length (rows_in b) ≡ a.m
  count = rows_count b ∙ s.same.same_m

  rest_count : rank < a.m → 0 < length (drop rank (rows_in b))
  rest_count h = let n = count in simp length-drop (omega arith)

  -- the column's index, as the walk counts
  one_less : col < n → n - col ≡ suc (n - (col + 1))
  one_less h = omega arith

  -- where the search found a row
  pub walking_place : {pivot : ℕ} → Some pivot ≡ pivot_from col rank (drop rank (rows_in b)) → (rank ≤ pivot) × (pivot < b.m)
  walking_place {pivot} e =
      let r = s.ranked in
      let m = s.same.same_m in
      let l = rows_count b in
      let d = length-drop rank (rows_in b) in
      let t = pivot_place col rank (drop rank (rows_in b)) pivot (sym e) in
      (t.0, omega (arith, t.1))

  -- no row has the column
  pub walking_skip : col < n → (rank ≡ b.m → ⊥) → None ≡ pivot_from col rank (drop rank (rows_in b)) → Walking n numbers₀ a rank (col + 1) numbers b
  walking_skip h ne e =
      let r = s.ranked in
      let m = s.same.same_m in
      let none = column_none col rank (drop rank (rows_in b)) (sym e) in
      record {
        same = s.same;
        ranked = r;
        numbers_long = s.numbers_long;
        numbers_past = s.numbers_past;
        words_long = s.words_long;
        words_past = s.words_past;
        future =
            s.future
            ∙ ap (λ (wk : Walk). joined (take rank numbers) (take rank (rows_in b)) wk)
            (ap (λ (k : ℕ). walk k col (drop rank (rows_in b))) (one_less h) ∙ walk_passed (n - (col + 1)) col (drop rank (rows_in b)) (rest_count (omega arith)) none
            ∙ ap (λ (c : ℕ). walk (n - (col + 1)) c (drop rank (rows_in b))) (sym (add-one col)));
      }

  -- a pivot's row is brought up and cleared from the rows below
  pub walking_turn : {pivot : ℕ} {c : Area} → col < n → (rank ≡ b.m → ⊥) → rank < length numbers → Some pivot ≡ pivot_from col rank (drop rank (rows_in b))
      → Holds b (clear_below col rank (swap_rows (col / 64) rank pivot (rows_in b))) c
      → Walking n numbers₀ a (rank + 1) (col + 1) (set numbers rank col) c
  walking_turn {pivot} {c} h ne f e g =
      let r = s.ranked in
      let m = s.same.same_m in
      let l = count in
      let past = rw (s.same.same_m, s.same.same_w) at g.became.past in
      let t = pivot_taken col rank pivot (rows_in b) (omega arith) (sym e) in
      let p : Row = t.pivot in
      let R : List Row = clear_below col rank (swap_rows (col / 64) rank pivot (rows_in b)) in
      let pivots : take (rank + 1) (set numbers rank col) ≡ take rank numbers ++ (col ∷ []) =
      ap (λ (k : ℕ). take k (set numbers rank col)) (add-one rank) ∙ take-suc-set numbers rank col f in
      let onward : walk (n - col) col (drop rank (rows_in b)) ≡ on_top col p (walk (n - (col + 1)) (col + 1) (drop (rank + 1) R)) =
      ap (λ (k : ℕ). walk k col (drop rank (rows_in b))) (one_less h) ∙ walk_taken (n - (col + 1)) col (drop rank (rows_in b)) p (drop (rank + 1) R) (rest_count (omega arith)) t.step
      ∙ ap (λ (d : ℕ). on_top col p (walk (n - (col + 1)) d (drop (rank + 1) R))) (sym (add-one col)) in
      record {
        same = same_then s.same g.same;
        ranked = omega arith;
        numbers_long = length-set numbers rank col ∙ s.numbers_long;
        numbers_past = drop-set-lt (rank + 1) numbers rank col (omega arith) ∙ drop_agree rank (rank + 1) numbers numbers₀ (omega arith) s.numbers_past;
        words_long = g.became.long ∙ s.words_long;
        words_past = past ∙ s.words_past;
        future =
            s.future ∙ ap (λ (wk : Walk). joined (take rank numbers) (take rank (rows_in b)) wk) onward
            ∙ joined_snoc (take rank numbers) (take rank (rows_in b)) col p (walk (n - (col + 1)) (col + 1) (drop (rank + 1) R))
            ∙ ap₂ (λ (x : List ℕ) (y : List Row). joined x y (walk (n - (col + 1)) (col + 1) (drop (rank + 1) R))) (sym pivots) (sym t.tops)
            ∙ ap (λ (q : List Row). joined (take (rank + 1) (set numbers rank col)) (take (rank + 1) q) (walk (n - (col + 1)) (col + 1) (drop (rank + 1) q))) (sym (holds_in g));
      }

  -- every column is done, or every row has a pivot
  pub walking_end : (n ≤ col) ⊎ (rank ≡ b.m) → Eliminated n a.m a.w numbers₀ a.words.now rank numbers b.words.now
  unfolding walk
  walking_end o = record {
    ranked = s.ranked;
    pivots = sym (ap (λ (wk : Walk). wk.pivots) ended ∙ append-nil (take rank numbers));
    rows = sym (ap (λ (wk : Walk). wk.rows) ended ∙ append-nil (take rank (rows_in b)) ∙ ap (take rank) (same_rows s.same));
    left = sym (ap (λ (wk : Walk). wk.left) ended ∙ ap (drop rank) (same_rows s.same));
    numbers_long = s.numbers_long;
    numbers_past = s.numbers_past;
    words_long = s.words_long;
    words_past = s.words_past;
  }
    where
      stop : (n ≤ col) ⊎ (rank ≡ b.m) → walk (n - col) col (drop rank (rows_in b)) ≡ stopped (drop rank (rows_in b))
      stop (inl h) = let z : n - col ≡ 0 = omega arith in ap (λ (k : ℕ). walk k col (drop rank (rows_in b))) z
      stop (inr h) =
          let l = rows_count b in
          let z : drop rank (rows_in b) ≡ [] = drop_of_length-le (rows_in b) {i = rank} (omega arith) in
          ap (walk (n - col) col) z ∙ walk_no_row (n - col) col ∙ ap stopped (sym z)

      ended : walk n 0 (rows_in a) ≡ joined (take rank numbers) (take rank (rows_in b)) (stopped (drop rank (rows_in b)))
      ended = s.future ∙ ap (λ (wk : Walk). joined (take rank numbers) (take rank (rows_in b)) wk) (stop o)

  -- the two ends of the loop
  pub walking_done : n ≤ col → Eliminated n a.m a.w numbers₀ a.words.now rank numbers b.words.now
  walking_done h = walking_end (inl h)

  pub walking_full : rank ≡ b.m → Eliminated n a.m a.w numbers₀ a.words.now rank numbers b.words.now
  walking_full h = walking_end (inr h)

-- ---- the constants that are left

-- has row i a constant that is not 0?
abbrev pub constant_set : List Row → ℕ → Bool
constant_set rows i = not (eqb (get_or rows i no_row).c 0)

-- a look at the rows from the rank on, one by one
pub residue_any : (rank n : ℕ) (rows : List Row) → rank + n ≡ length rows → list_any (constant_set rows) (range_with_len rank n) ≡ residue (drop rank rows)
unfolding residue
residue_any rank zero rows e = sym (ap residue (drop_of_length-le rows {i = rank} (omega arith)))
residue_any rank (suc n) rows e =
    rw (add-one rank) (go (get_or rows rank no_row).c refl (residue_any (suc rank) n rows (omega arith)))
    ∙ sym (ap residue (drop-cons rows rank no_row (omega arith)))
  where
    go : (d : ℕ) → (get_or rows rank no_row).c ≡ d → list_any (constant_set rows) (range_with_len (suc rank) n) ≡ residue (drop (suc rank) rows)
        → (not (eqb d 0) || list_any (constant_set rows) (range_with_len (suc rank) n)) ≡ elim d [ zero ↦ residue (drop (suc rank) rows) | suc _ ↦ true ]
    go zero f ih = ih
    go (suc d) f ih = ap (λ b. not b || list_any (constant_set rows) (range_with_len (suc rank) n)) (eqb_ne (suc d) 0 (λ z. omega arith))
