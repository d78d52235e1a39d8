-- The numbers that show a state have both their blocks of rows padded.
use mathlib.Core.Path.{◌≡◌, sym, ap, ◌∙◌}
use mathlib.Core.List.{List, [], ◌++◌, append-nil, map}
use Prim.Native.Nat.{ℕ, ◌+◌, ◌*◌, ◌≤◌}
use native.Mathlib.Nat.{add-zero}
use native.Mathlib.Omega.{arith}
use lib.ListN.{length, drop, replicate, length-replicate}
use Rattle.gf2.specs.Equation.{Equation}
use Rattle.areas.specs.Rows.{laid}
use Rattle.areas.specs.Segments.{joined}
use Rattle.rows.specs.Padding.{PaddedRows}
use Rattle.rows.specs.Picture.{picture, vars_of, length_of}
use Rattle.rows.proofs.Padding.{rows_padded}
use Rattle.lazy.specs.Lazy.{State}
use Rattle.lazy_setup.specs.declared.Layout.{Layout}
use Rattle.lazy_setup.specs.Area.{segments}
use Rattle.lazy_pops.specs.Laid.{Laid}
use Rattle.lazy_pops.proofs.Places.{places, segmented}
use Rattle.lazy_units.specs.Tidy.{Tidy}
use Rattle.lazy_units.proofs.DensePart.{filled, length_filled, part_is_picture, filled_narrow}
use Rattle.lazy_units.proofs.Ends.{numbers_end}

module _ {n m : ℕ} {layout : Layout} {sys : List Equation} {s : State} {numbers : List ℕ} (d : Laid n m layout sys s numbers) where
  first_rows : PaddedRows 0 layout.lengths n m numbers
  unfolding segments joined
  first_rows =
      let p = places d in
      let k : length s.rows ≡ m = d.sized.rows ∙ sym d.many in
      rw (k, add-zero, ← p.lengths) at (rows_padded n s.rows [] (joined (drop 2 (segments n sys s))) d.sized.narrow (segmented d).shown)

  dense_rows : PaddedRows 0 (m * n + n) n m (drop layout.dense numbers)
  unfolding picture
  dense_rows =
      let low : length s.dense ≤ m = omega (arith, d.many, d.sized.dense) in
      let all : List Equation = filled m s.dense in
      let e : drop layout.dense numbers ≡ laid n (map vars_of all) ++ (replicate n 0 ++ (map length_of all ++ [])) =
      numbers_end d ∙ part_is_picture n m s.dense d.sized.dense_narrow low ∙ ap (λ (l : List ℕ). laid n (map vars_of all) ++ (replicate n 0 ++ l)) (sym (append-nil (map length_of all))) in
      rw (length_filled m s.dense low, length-replicate {A = ℕ} n 0) at (rows_padded n all (replicate n 0) [] (filled_narrow n m s.dense d.sized.dense_narrow) e)

  pub laid_tidy : Tidy n m layout numbers
  laid_tidy = let p = places d in record { place = p.lengths; before = omega arith; inside = omega arith; equations = first_rows; dense = dense_rows }
