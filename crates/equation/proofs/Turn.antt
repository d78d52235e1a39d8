-- A turn of the merge: by the order of the two variables, one of them is written, or neither is kept.
use mathlib.Core.Path.{◌≡◌, refl, sym, ap, ◌∙◌}
use mathlib.Core.List.{List, ◌∷◌, ◌++◌, append-nil}
use Prim.Native.Nat.{ℕ, suc, ◌+◌, ◌<◌, ◌≤◌}
use native.Mathlib.Numerals.{add-one}
use native.Mathlib.Omega.{arith}
use lib.ListN.{length, drop, get_or, set, length-append, length-drop, drop_of_length-le}
use lib.Seq.{drop-cons}
use Rattle.gf2.specs.Equation.{sym_diff}
use Rattle.gf2.proofs.SymDiff.{turn_less, turn_same, turn_more, left_ended, right_ended}
use Rattle.areas.proofs.Cells.{Writing, writing_begin, writing_turn}
use Rattle.equation.specs.Merging.{Ended}

-- i of l and j of r are done: the first d variables of the sum stand in `out` from s on, and the sum of what is left is still to come
pub record Merged (l r before out : List ℕ) (s i j d : ℕ) : Type 0 where
  pub in_left : i ≤ length l
  pub in_right : j ≤ length r
  pub written : Writing s (sym_diff l r) before d out
  pub to_come : drop d (sym_diff l r) ≡ sym_diff (drop i l) (drop j r)

pub merged_begin : (l r before : List ℕ) (s : ℕ) → s + length (sym_diff l r) ≤ length before → Merged l r before before s 0 0 0
merged_begin l r before s room = record { in_left = omega arith; in_right = omega arith; written = writing_begin s (sym_diff l r) before room; to_come = refl }

-- x stands at place d of the sum, and xs behind it
record NextIs (sum : List ℕ) (d x : ℕ) (xs : List ℕ) : Type 0 where
  here : d < length sum
  value : get_or sum d 0 ≡ x
  behind : drop (d + 1) sum ≡ xs

next_is : (sum : List ℕ) (d x : ℕ) (xs : List ℕ) → drop d sum ≡ x ∷ xs → NextIs sum d x xs
next_is sum d x xs e =
    let k : length (drop d sum) ≡ suc (length xs) = ap length e in
    let h : d < length sum = omega (arith, length-drop d sum) in
    let c : get_or sum d 0 ∷ drop (suc d) sum ≡ x ∷ xs = sym (drop-cons sum d 0 h) ∙ e in
    record { here = h; value = ap (λ (l : List ℕ). get_or l 0 0) c; behind = rw (add-one d) (ap (λ (l : List ℕ). drop 1 l) c) }

module _ {l r before out : List ℕ} {s i j d : ℕ} (w : Merged l r before out s i j d) (hi : i < length l) (hj : j < length r) where
  -- the smaller of the two variables is the next of the sum
  next_less : get_or l i 0 < get_or r j 0 → NextIs (sym_diff l r) d (get_or l i 0) (sym_diff (drop (i + 1) l) (drop j r))
  next_less h = next_is (sym_diff l r) d (get_or l i 0) (sym_diff (drop (i + 1) l) (drop j r)) (w.to_come ∙ turn_less l r i j hi hj h)

  next_more : get_or r j 0 < get_or l i 0 → NextIs (sym_diff l r) d (get_or r j 0) (sym_diff (drop i l) (drop (j + 1) r))
  next_more h = next_is (sym_diff l r) d (get_or r j 0) (sym_diff (drop i l) (drop (j + 1) r)) (w.to_come ∙ turn_more l r i j hi hj h)

  -- .. so there is room for it
  pub less_fits : get_or l i 0 < get_or r j 0 → d < length (sym_diff l r)
  less_fits h = (next_less h).here

  pub more_fits : get_or r j 0 < get_or l i 0 → d < length (sym_diff l r)
  more_fits h = (next_more h).here

  pub on_less : get_or l i 0 < get_or r j 0 → Merged l r before (set out (s + d) (get_or l i 0)) s (i + 1) j (d + 1)
  on_less h =
      let n = next_less h in
      record { in_left = omega arith; in_right = w.in_right; written = writing_turn _ w.written n.here (sym n.value); to_come = n.behind }

  pub on_more : get_or r j 0 < get_or l i 0 → Merged l r before (set out (s + d) (get_or r j 0)) s i (j + 1) (d + 1)
  on_more h =
      let n = next_more h in
      record { in_left = w.in_left; in_right = omega arith; written = writing_turn _ w.written n.here (sym n.value); to_come = n.behind }

  -- neither is kept, and nothing is written
  pub on_both : get_or l i 0 ≡ get_or r j 0 → Merged l r before out s (i + 1) (j + 1) d
  on_both h = record { in_left = omega arith; in_right = omega arith; written = w.written; to_come = w.to_come ∙ turn_same l r i j hi hj h }

-- where one list has ended, what is left of the other is the rest of the sum
module _ {l r before out : List ℕ} {s i j d : ℕ} (w : Merged l r before out s i j d) where
  ended : drop i l ++ drop j r ≡ drop d (sym_diff l r) → Ended l r i j d
  ended e =
      let k : length (drop i l ++ drop j r) ≡ length (drop d (sym_diff l r)) = ap length e in
      let some = w.written.some in
      record {
        in_left = w.in_left;
        in_right = w.in_right;
        size = omega (arith, length-append (drop i l) (drop j r), length-drop i l, length-drop j r, length-drop d (sym_diff l r));
        rest = e;
      }

  pub left_done : length l ≤ i → Ended l r i j d
  left_done h = ended (rw (drop_of_length-le l h) (sym (w.to_come ∙ left_ended l (drop j r) i h)))

  pub right_done : length r ≤ j → Ended l r i j d
  right_done h = ended (rw (drop_of_length-le r h, append-nil) (sym (w.to_come ∙ right_ended (drop i l) r j h)))
