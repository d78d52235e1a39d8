-- What the cleared columns say of the run: the constants may be read off, and what the run comes to.
use mathlib.Core.Path.{◌≡◌, ap, ◌∙◌}
use mathlib.Core.List.{List}
use mathlib.Core.Bool.{true, false}
use Prim.Native.Nat.{ℕ, ◌*◌, ◌≤◌}
use lib.ListN.{replicate}
use Rattle.gf2.specs.Result.{unsolvable, ok}
use Rattle.dense_rows.specs.Bits.{Row}
use Rattle.dense_walk.specs.Eliminate.{residue}
use Rattle.dense_walk.specs.Stairs.{FitRows}
use Rattle.slow_rules.specs.Slow.{PivotRow, read_off, read_end, slow_elimination, pivot_rows, PivotsBelow, Clears, read_pivots}

pub clears_below : (n w : ℕ) (rows : List Row) (pivots : List ℕ) (tops left : List Row) → n ≤ 64 * w → FitRows n w rows → Clears n rows pivots tops left → PivotsBelow n w pivots tops
clears_below n w rows pivots tops left h f e = e.0

-- the cases of the end
end_refused : (n : ℕ) (done : List PivotRow) (left : List Row) → residue left ≡ true → read_end n (record { done = done; left = left }) ≡ unsolvable
unfolding read_end
end_refused n done left r = rw (r, read_end)

end_solved : (n : ℕ) (done : List PivotRow) (left : List Row) → residue left ≡ false → read_end n (record { done = done; left = left }) ≡ ok (read_off done (replicate n 0))
unfolding read_end
end_solved n done left r = rw (r, read_end)

-- a constant is left
pub clears_refused : (n : ℕ) (rows : List Row) (pivots : List ℕ) (tops left : List Row) → Clears n rows pivots tops left → residue left ≡ true → slow_elimination n rows ≡ unsolvable
unfolding slow_elimination
clears_refused n rows pivots tops left e r = ap (read_end n) e.1 ∙ end_refused n (pivot_rows pivots tops) left r

-- none is left
pub clears_solved : (n : ℕ) (rows : List Row) (pivots : List ℕ) (tops left : List Row) → Clears n rows pivots tops left → residue left ≡ false
    → slow_elimination n rows ≡ ok (read_pivots n pivots tops (replicate n 0))
unfolding slow_elimination
clears_solved n rows pivots tops left e r = ap (read_end n) e.1 ∙ end_solved n (pivot_rows pivots tops) left r
