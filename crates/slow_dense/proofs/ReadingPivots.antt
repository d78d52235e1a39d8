-- The loop that reads the constants off, one pivot a turn.
use mathlib.Core.Path.{◌≡◌, refl, sym, ap, ap₂, ◌∙◌}
use mathlib.Core.List.{List, ◌∷◌}
use Prim.Native.Nat.{ℕ, suc, ◌+◌, ◌<◌, ◌≤◌}
use native.Mathlib.Numerals.{add-one}
use native.Mathlib.Omega.{arith}
use lib.ListN.{length, get_or, set, take, drop, length-set, drop_of_length-le}
use lib.Seq.{drop-cons, get_or-take, length-take-le}
use Rattle.gf2.specs.Equation.{Each}
use Rattle.gf2.proofs.Each.{each_at}
use Rattle.dense_rows.specs.Bits.{Row}
use Rattle.dense_rows.specs.Areas.{rows_seen}
use Rattle.dense_rows.specs.declared.view.View.{View}
use Rattle.dense_rows.specs.Steps.{no_row}
use Rattle.dense_rows.proofs.Holding.{seen_count}
use Rattle.slow_rules.specs.Slow.{PivotRow, read_off, pivot_rows}

-- the first pivot of the columns and rows from i on
pivot_next : (cs : List ℕ) (rows : List Row) (i : ℕ) → i < length cs → i < length rows
    → pivot_rows (drop i cs) (drop i rows) ≡ record { at = get_or cs i 0; row = get_or rows i no_row } ∷ pivot_rows (drop (suc i) cs) (drop (suc i) rows)
unfolding pivot_rows
pivot_next cs rows i h l = ap₂ pivot_rows (drop-cons cs i 0 h) (drop-cons rows i no_row l)

-- the pivots before i are read off, and those from i on are left
pub record ReadingPivots (a : View) (ps x₀ : List ℕ) (i : ℕ) (x : List ℕ) : Type 0 where
  pub long : length x ≡ length x₀
  pub left : read_off (pivot_rows ps (take (length ps) (rows_seen a))) x₀ ≡ read_off (pivot_rows (drop i ps) (drop i (take (length ps) (rows_seen a)))) x

pub reading_begin : (a : View) (ps x : List ℕ) → ReadingPivots a ps x 0 x
reading_begin a ps x = record { long = refl; left = refl }

module _ {a : View} {ps x₀ : List ℕ} {i : ℕ} {x : List ℕ} (s : ReadingPivots a ps x₀ i x) where
  -- the pivot is a cell
  pub reading_cell : Each (λ p. p < length x₀) ps → i < length ps → get_or ps i 0 < length x
  reading_cell cells h = let l = s.long in let c = each_at (λ p. p < length x₀) ps 0 i h cells in omega arith

  pub reading_turn : {v : ℕ} → length ps ≤ a.m → i < length ps → v ≡ (get_or (rows_seen a) i no_row).c → ReadingPivots a ps x₀ (i + 1) (set x (get_or ps i 0) v)
  unfolding read_off
  reading_turn {v} r h e =
      let n = seen_count a in
      let l = length-take-le (length ps) (rows_seen a) (omega arith) in
      let rs : List Row = take (length ps) (rows_seen a) in
      record {
        long = length-set x (get_or ps i 0) v ∙ s.long;
        left =
            rw (add-one i) (s.left ∙ ap (λ (ds : List PivotRow). read_off ds x) (pivot_next ps rs i h (omega arith))
            ∙ ap (λ (c : ℕ). read_off (pivot_rows (drop (suc i) ps) (drop (suc i) rs)) (set x (get_or ps i 0) c))
            (ap (λ (q : Row). q.c) (get_or-take (length ps) (rows_seen a) i no_row h) ∙ sym e));
      }

  pub reading_end : length ps ≤ i → x ≡ read_off (pivot_rows ps (take (length ps) (rows_seen a))) x₀
  unfolding read_off pivot_rows
  reading_end h =
      sym (s.left ∙ ap (λ (l : List ℕ). read_off (pivot_rows l (drop i (take (length ps) (rows_seen a)))) x) (drop_of_length-le ps {i = i} h))
