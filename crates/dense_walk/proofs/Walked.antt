-- What the walk of dense elimination says of the run: it is ready for back substitution, and what the run comes to.
use mathlib.Core.Path.{◌≡◌, ap, ◌∙◌, subst}
use mathlib.Core.List.{List}
use mathlib.Core.Bool.{true, false}
use Prim.Native.Nat.{ℕ, ◌*◌, ◌<◌, ◌≤◌}
use native.Mathlib.Nat.{zero-add}
use lib.ListN.{replicate}
use Rattle.gf2.specs.Equation.{Each}
use Rattle.gf2.specs.Result.{unsolvable, ok}
use Rattle.gf2.proofs.SymDiff.{each_sym_diff}
use Rattle.dense_rows.specs.Bits.{Row}
use Rattle.dense_walk.specs.Eliminate.{Walk, walk, residue, back_sub, finish, dense_elimination}
use Rattle.dense_walk.specs.Stairs.{Ready, FitRows, Walks}
use Rattle.dense_walk.proofs.RowTheorems.{wide_good}
use Rattle.dense_walk.proofs.WalkLaws.{Walked, walked, walked_stairs, walked_ahead}

pub walk_ready : (n w : ℕ) (rows : List Row) (pivots : List ℕ) (tops left : List Row) → n ≤ 64 * w → FitRows n w rows → Walks n rows pivots tops left → Ready n w pivots tops
walk_ready n w rows pivots tops left h f e =
    let good = wide_good w rows f.0 in
    let d : Walked n 0 rows (record { pivots = pivots; rows = tops; left = left }) = subst (Walked n 0 rows) e (walked n 0 rows) in
    record {
      stairs = walked_stairs n w h d (zero-add n) good;
      wide_enough = h;
      fits = (walked_ahead n w h (64 * w) (λ q. Each (λ u. u < n) q.vars) (λ x y p q. each_sym_diff (λ u. u < n) x.vars y.vars p q) d (zero-add n) good f.1).0;
    }

-- the cases of the end
end_refused : (n : ℕ) (wk : Walk) → residue wk.left ≡ true → finish n wk ≡ unsolvable
unfolding finish
end_refused n wk r = rw (r, finish)

end_solved : (n : ℕ) (wk : Walk) → residue wk.left ≡ false → finish n wk ≡ ok (back_sub n wk.pivots wk.rows (replicate n 0))
unfolding finish
end_solved n wk r = rw (r, finish)

-- a constant is left
pub walk_refused : (n : ℕ) (rows : List Row) (pivots : List ℕ) (tops left : List Row) → Walks n rows pivots tops left → residue left ≡ true → dense_elimination n rows ≡ unsolvable
unfolding dense_elimination
walk_refused n rows pivots tops left e r = ap (finish n) e ∙ end_refused n (record { pivots = pivots; rows = tops; left = left }) r

-- none is left
pub walk_solved : (n : ℕ) (rows : List Row) (pivots : List ℕ) (tops left : List Row) → Walks n rows pivots tops left → residue left ≡ false
    → dense_elimination n rows ≡ ok (back_sub n pivots tops (replicate n 0))
unfolding dense_elimination
walk_solved n rows pivots tops left e r = ap (finish n) e ∙ end_solved n (record { pivots = pivots; rows = tops; left = left }) r
