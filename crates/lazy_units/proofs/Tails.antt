-- The end of an area, lent and back.
use mathlib.Core.Path.{◌≡◌}
use mathlib.Core.List.{List, ◌++◌, append-nil}
use Prim.Native.Nat.{ℕ, ◌-◌, ◌≤◌, ◌<◌}
use native.Mathlib.Omega.{arith}
use borrow.Rule.Slice.PartMut.{put_mid, Post-is}
use lib.ListN.{length, take, drop, length-drop}
use lib.Seq.{take_all, drop-length, length-take-le, take_at, drop_at}
use Rattle.answers.specs.Sizes.{max_variables}
use Rattle.rows.specs.Picture.{Held, rows_of}
use Rattle.sparse_rules.specs.Eliminate.{outer_row}
use Rattle.sparse_rules.specs.Cancelled.{outer_row_cancels}
use Rattle.sparse_rows.specs.Reduce.{Reduces}
use Rattle.sparse_rows.specs.Reduction.{Reduction}
use Rattle.lazy_units.specs.Clearing.{ClearFits, Cleared}

pub tail_is : (a : ℕ) (l : List ℕ) → take (length l - a) (drop a l) ≡ drop a l
tail_is a l = let e = length-drop a l in take_all (length l - a) (drop a l) (omega arith)

back_is : (a : ℕ) (l ys : List ℕ) → a ≤ length l → put_mid a (length l - a) l ys ≡ take a l ++ ys
back_is a l ys h = rw (Post-is a (length l) l h, drop-length l, append-nil ys)

pub back_front : (a : ℕ) (l ys : List ℕ) → a ≤ length l → take a (put_mid a (length l - a) l ys) ≡ take a l
back_front a l ys h = rw (back_is a l ys h) (take_at (take a l) ys a (length-take-le a l h))

pub back_tail : (a : ℕ) (l ys : List ℕ) → a ≤ length l → drop a (put_mid a (length l - a) l ys) ≡ ys
back_tail a l ys h = rw (back_is a l ys h) (drop_at (take a l) ys a (length-take-le a l h))

module _ {dense n m d i : ℕ} {numbers words : List ℕ} (f : ClearFits dense n m d i numbers words) where
  pub clear_asks : Held n m (take (length numbers - dense) (drop dense numbers)) (take (length words - m) (drop m words)) × (i < d) × (d ≤ m) × (n ≤ max_variables)
  clear_asks = (rw (tail_is dense numbers, tail_is m words) f.held, f.in_use, f.within, f.small)

  pub clear_gives : (t u : List ℕ) (r : Reduction) → Reduces (outer_row i) n m d (take (length numbers - dense) (drop dense numbers)) (take (length words - m) (drop m words)) t u r
      → Cleared dense n m d i numbers words (put_mid dense (length numbers - dense) numbers t) (put_mid m (length words - m) words u) r
  clear_gives t u r q = record {
    reduces = rw (back_tail dense numbers t f.place, back_tail m words u f.word_place) (rw (tail_is dense numbers, tail_is m words) at q);
    numbers_kept = back_front dense numbers t f.place;
    words_kept = back_front m words u f.word_place;
  }

  pub clear_counts : {t : ℕ} → t ≡ outer_row_cancels i (take d (rows_of n m (take (length numbers - dense) (drop dense numbers)) (take (length words - m) (drop m words))))
      → t ≡ outer_row_cancels i (take d (rows_of n m (drop dense numbers) (drop m words)))
  clear_counts q = rw (tail_is dense numbers, tail_is m words) at q
