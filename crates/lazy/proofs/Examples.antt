-- P1 to P5 by the lazy rules, by computing; P5 is not the sparse answer. How many variables cancel in the sums of P3, P4 and P5.
use mathlib.Core.Path.{◌≡◌, refl}
use mathlib.Core.List.{[], ◌∷◌}
use Rattle.gf2.specs.Equation.{eqn, eval_vars, lists, sym_diff}
use Rattle.gf2.specs.NumberLists.{up_from, down_from, keep, first_of, one, count}
use Rattle.gf2.specs.Common.{common}
use Rattle.gf2.specs.Result.{unsolvable, ok}
use Rattle.sparse_rules.specs.Eliminate.{summed, meeting, meet_row, outer_row, contradicted, pin, back_sub}
use Rattle.sparse_rules.specs.Cancelled.{meeting_cancels, meet_row_cancels, outer_row_cancels}
use Rattle.lazy.specs.Cancelled.{added_cancels, pop_cancels, unit_cancels, after_cancels, lazy_cancels}
use Rattle.lazy.specs.Lazy.{listing, others, heaviest, start, lowered, pushed, added_into, skip, activate, pass_over, copy, solve_for, pop_dense, pop_equation, pop_variable, pop, dense_row, fill, last_unit, unit, after, whole_run, lazy_elimination}

pub P1 : lazy_elimination 3 [] ≡ ok (0 ∷ 0 ∷ 0 ∷ [])
unfolding lazy_elimination whole_run after unit pop pop_equation pop_variable pop_dense pass_over copy solve_for skip activate lowered pushed added_into dense_row last_unit fill start heaviest listing others up_from down_from keep first_of lists outer_row meet_row meeting summed contradicted back_sub pin sym_diff eval_vars
P1 = refl

pub P2_solved : lazy_elimination 0 (eqn [] 0 ∷ []) ≡ ok []
unfolding lazy_elimination whole_run after unit pop pop_equation pop_variable pop_dense pass_over copy solve_for skip activate lowered pushed added_into dense_row last_unit fill start heaviest listing others up_from down_from keep first_of lists outer_row meet_row meeting summed contradicted back_sub pin sym_diff eval_vars
P2_solved = refl

pub P2_unsolvable : lazy_elimination 0 (eqn [] 1 ∷ []) ≡ unsolvable
unfolding lazy_elimination whole_run after unit pop pop_equation pop_variable pop_dense pass_over copy solve_for skip activate lowered pushed added_into dense_row last_unit fill start heaviest listing others up_from down_from keep first_of lists outer_row meet_row meeting summed contradicted back_sub pin sym_diff eval_vars
P2_unsolvable = refl

pub P3 : lazy_elimination 3 (eqn (0 ∷ 1 ∷ []) 5 ∷ eqn (1 ∷ 2 ∷ []) 3 ∷ eqn (0 ∷ 2 ∷ []) 6 ∷ []) ≡ ok (6 ∷ 3 ∷ 0 ∷ [])
unfolding lazy_elimination whole_run after unit pop pop_equation pop_variable pop_dense pass_over copy solve_for skip activate lowered pushed added_into dense_row last_unit fill start heaviest listing others up_from down_from keep first_of lists outer_row meet_row meeting summed contradicted back_sub pin sym_diff eval_vars
P3 = refl

pub P4 : lazy_elimination 3 (eqn (0 ∷ 1 ∷ []) 5 ∷ eqn (1 ∷ 2 ∷ []) 3 ∷ eqn (0 ∷ 2 ∷ []) 7 ∷ []) ≡ unsolvable
unfolding lazy_elimination whole_run after unit pop pop_equation pop_variable pop_dense pass_over copy solve_for skip activate lowered pushed added_into dense_row last_unit fill start heaviest listing others up_from down_from keep first_of lists outer_row meet_row meeting summed contradicted back_sub pin sym_diff eval_vars
P4 = refl

pub P5 : lazy_elimination 3 (eqn (0 ∷ 1 ∷ []) 1 ∷ eqn (0 ∷ 2 ∷ []) 2 ∷ []) ≡ ok (0 ∷ 1 ∷ 2 ∷ [])
unfolding lazy_elimination whole_run after unit pop pop_equation pop_variable pop_dense pass_over copy solve_for skip activate lowered pushed added_into dense_row last_unit fill start heaviest listing others up_from down_from keep first_of lists outer_row meet_row meeting summed contradicted back_sub pin sym_diff eval_vars
P5 = refl

-- {0,1} and {0,2} share 0; then {1,2} and {1,2} share both
pub P3_cancels : lazy_cancels 3 (eqn (0 ∷ 1 ∷ []) 5 ∷ eqn (1 ∷ 2 ∷ []) 3 ∷ eqn (0 ∷ 2 ∷ []) 6 ∷ []) ≡ 3
unfolding lazy_cancels after_cancels unit_cancels pop_cancels added_cancels outer_row_cancels meet_row_cancels meeting_cancels common count one unit pop pop_equation pop_variable pop_dense pass_over copy solve_for skip activate lowered pushed added_into dense_row last_unit fill start heaviest listing others up_from down_from keep first_of lists outer_row meet_row meeting summed contradicted back_sub pin sym_diff eval_vars
P3_cancels = refl

-- refused at the pop after those sums
pub P4_cancels : lazy_cancels 3 (eqn (0 ∷ 1 ∷ []) 5 ∷ eqn (1 ∷ 2 ∷ []) 3 ∷ eqn (0 ∷ 2 ∷ []) 7 ∷ []) ≡ 3
unfolding lazy_cancels after_cancels unit_cancels pop_cancels added_cancels outer_row_cancels meet_row_cancels meeting_cancels common count one unit pop pop_equation pop_variable pop_dense pass_over copy solve_for skip activate lowered pushed added_into dense_row last_unit fill start heaviest listing others up_from down_from keep first_of lists outer_row meet_row meeting summed contradicted back_sub pin sym_diff eval_vars
P4_cancels = refl

-- neither solved variable stands in another equation: no sum
pub P5_cancels : lazy_cancels 3 (eqn (0 ∷ 1 ∷ []) 1 ∷ eqn (0 ∷ 2 ∷ []) 2 ∷ []) ≡ 0
unfolding lazy_cancels after_cancels unit_cancels pop_cancels added_cancels outer_row_cancels meet_row_cancels meeting_cancels common count one unit pop pop_equation pop_variable pop_dense pass_over copy solve_for skip activate lowered pushed added_into dense_row last_unit fill start heaviest listing others up_from down_from keep first_of lists outer_row meet_row meeting summed contradicted back_sub pin sym_diff eval_vars
P5_cancels = refl
