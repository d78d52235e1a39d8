-- P1 to P5 by the sparse rules, by computing, and how many variables cancel in the sums of P3, P4 and P5.
use mathlib.Core.Path.{◌≡◌, refl}
use mathlib.Core.List.{[], ◌∷◌}
use Rattle.gf2.specs.Equation.{eqn, eval_vars, lists, sym_diff}
use Rattle.gf2.specs.NumberLists.{one, count}
use Rattle.gf2.specs.Common.{common}
use Rattle.gf2.specs.Result.{unsolvable, ok}
use Rattle.sparse_rules.specs.Eliminate.{summed, meeting, meet_row, outer_row, outer_rows, echelon_form, contradicted, pin, back_sub, finish, gaussian_elimination}
use Rattle.sparse_rules.specs.Cancelled.{meeting_cancels, meet_row_cancels, outer_row_cancels, outer_rows_cancel, sparse_cancels}

pub P1 : gaussian_elimination 3 [] ≡ ok (0 ∷ 0 ∷ 0 ∷ [])
unfolding gaussian_elimination echelon_form outer_rows finish contradicted back_sub
P1 = refl

pub P2_solved : gaussian_elimination 0 (eqn [] 0 ∷ []) ≡ ok []
unfolding gaussian_elimination echelon_form outer_rows finish contradicted back_sub pin
P2_solved = refl

pub P2_unsolvable : gaussian_elimination 0 (eqn [] 1 ∷ []) ≡ unsolvable
unfolding gaussian_elimination echelon_form outer_rows finish contradicted
P2_unsolvable = refl

pub P3 : gaussian_elimination 3 (eqn (0 ∷ 1 ∷ []) 5 ∷ eqn (1 ∷ 2 ∷ []) 3 ∷ eqn (0 ∷ 2 ∷ []) 6 ∷ []) ≡ ok (6 ∷ 3 ∷ 0 ∷ [])
unfolding gaussian_elimination echelon_form outer_rows outer_row meet_row meeting summed sym_diff finish contradicted back_sub pin eval_vars
P3 = refl

pub P4 : gaussian_elimination 3 (eqn (0 ∷ 1 ∷ []) 5 ∷ eqn (1 ∷ 2 ∷ []) 3 ∷ eqn (0 ∷ 2 ∷ []) 7 ∷ []) ≡ unsolvable
unfolding gaussian_elimination echelon_form outer_rows outer_row meet_row meeting summed sym_diff
P4 = refl

pub P5 : gaussian_elimination 3 (eqn (0 ∷ 1 ∷ []) 1 ∷ eqn (0 ∷ 2 ∷ []) 2 ∷ []) ≡ ok (2 ∷ 3 ∷ 0 ∷ [])
unfolding gaussian_elimination echelon_form outer_rows outer_row meet_row meeting summed sym_diff finish contradicted back_sub pin eval_vars
P5 = refl

-- {0,1} and {0,2} share 0; then {1,2} and {1,2} share both
pub P3_cancels : sparse_cancels (eqn (0 ∷ 1 ∷ []) 5 ∷ eqn (1 ∷ 2 ∷ []) 3 ∷ eqn (0 ∷ 2 ∷ []) 6 ∷ []) ≡ 3
unfolding sparse_cancels outer_rows_cancel outer_row_cancels meet_row_cancels meeting_cancels common count one lists outer_row meet_row meeting summed sym_diff
P3_cancels = refl

-- refused in the last of those sums, which counts
pub P4_cancels : sparse_cancels (eqn (0 ∷ 1 ∷ []) 5 ∷ eqn (1 ∷ 2 ∷ []) 3 ∷ eqn (0 ∷ 2 ∷ []) 7 ∷ []) ≡ 3
unfolding sparse_cancels outer_rows_cancel outer_row_cancels meet_row_cancels meeting_cancels common count one lists outer_row meet_row meeting summed sym_diff
P4_cancels = refl

pub P5_cancels : sparse_cancels (eqn (0 ∷ 1 ∷ []) 1 ∷ eqn (0 ∷ 2 ∷ []) 2 ∷ []) ≡ 1
unfolding sparse_cancels outer_rows_cancel outer_row_cancels meet_row_cancels meeting_cancels common count one lists outer_row meet_row meeting summed sym_diff
P5_cancels = refl
