-- What a search for the pivot over the numbers of the rows comes to.
use mathlib.Core.Path.{◌≡◌, refl, sym, ap, ◌∙◌}
use mathlib.Core.List.{List}
use mathlib.Core.Bool.{true, false}
use Prim.Native.Nat.{ℕ, zero, suc, ◌+◌, ◌-◌, ◌<◌, ◌≤◌}
use native.Mathlib.Nat.{le_refl}
use native.Mathlib.Omega.{arith}
use lib.ListN.{length, get_or, drop, drop_of_length-le}
use lib.Seq.{drop-cons}
use Rattle.std.specs.Prelude.{Option, Some, None, MatchOption}
use Rattle.dense_rows.specs.Bits.{Row, has_bit}
use Rattle.dense_rows.specs.Steps.{pivot_from, no_row}
use Rattle.dense_rows.proofs.SearchLaws.{pivot_here, pivot_later}

module _ (col rank m : ℕ) (rows : List Row) (count : length rows ≡ m) where
  -- the rows from the rank on and before row i have not the column
  passed_to : (i : ℕ) → rank ≤ i → i ≤ m → ((j : ℕ) → rank ≤ j → j < i → has_bit col (get_or rows j no_row) ≡ false)
      → pivot_from col rank (drop rank rows) ≡ pivot_from col i (drop i rows)
  passed_to i h l f = go (i - rank) i (omega arith) l f
    where
      go : (d i : ℕ) → i ≡ rank + d → i ≤ m → ((j : ℕ) → rank ≤ j → j < i → has_bit col (get_or rows j no_row) ≡ false)
          → pivot_from col rank (drop rank rows) ≡ pivot_from col i (drop i rows)
      go zero i e l f = let q : i ≡ rank = omega arith in rw q refl
      go (suc d) i e l f =
          let q : i ≡ suc (rank + d) = omega arith in
          rw q (go d (rank + d) refl (omega arith) (λ j a b. f j a (omega arith)) ∙ ap (pivot_from col (rank + d)) (drop-cons rows (rank + d) no_row (omega arith))
          ∙ pivot_later col (rank + d) (get_or rows (rank + d) no_row) (drop (suc (rank + d)) rows) (f (rank + d) (omega arith) (omega arith)))

  pub searched : rank ≤ m → (o : Option ℕ)
      → MatchOption o ((j : ℕ) → rank ≤ j → j < m → has_bit col (get_or rows j no_row) ≡ false)
      (λ i. (rank ≤ i) × (i < m) × (has_bit col (get_or rows i no_row) ≡ true) × ((j : ℕ) → rank ≤ j → j < i → has_bit col (get_or rows j no_row) ≡ false))
      → o ≡ pivot_from col rank (drop rank rows)
  unfolding pivot_from
  searched h None f =
      sym (passed_to m h (le_refl m) f ∙ ap (pivot_from col m) (drop_of_length-le rows {i = m} (omega arith)))
  searched h (Some i) f =
      sym (passed_to i f.0 (omega (arith, f.1)) f.3 ∙ ap (pivot_from col i) (drop-cons rows i no_row (omega (arith, f.1)))
      ∙ pivot_here col i (get_or rows i no_row) (drop (suc i) rows) f.2)
