-- How many variables cancel in P3, P4, P5 and P10, by the definitions of the public calls, computed.
use mathlib.Core.Path.{◌≡◌, refl}
use mathlib.Core.List.{[], ◌∷◌}
use Rattle.gf2.specs.Equation.{eval_vars, lists, sym_diff}
use Rattle.gf2.specs.NumberLists.{up_from, down_from, keep, first_of, one, count}
use Rattle.gf2.specs.Common.{common}
use Rattle.areas.specs.Stretch.{stretch, put, cleared}
use Rattle.areas.specs.Rows.{padded}
use Rattle.answers.specs.Reported.{reported}
use Rattle.system.specs.System.{equation_at, equations_from, climbs, starts_kept, rises_below, lowest_bad, sizes_fit, shape_kept, system_rules}
use Rattle.equation.specs.Increase.{rises, rises_from}
use Rattle.equation.specs.Sums.{sum_call}
use Rattle.sparse_rules.specs.Cancelled.{meeting_cancels, meet_row_cancels, outer_row_cancels, outer_rows_cancel, sparse_cancels}
use Rattle.sparse_rules.specs.Eliminate.{summed, meeting, meet_row, outer_row, outer_rows, echelon_form, contradicted, pin, back_sub, finish, gaussian_elimination}
use Rattle.sparse_rules.specs.SparseCall.{sparse_call}
use Rattle.lazy.specs.Cancelled.{added_cancels, pop_cancels, unit_cancels, after_cancels, lazy_cancels}
use Rattle.lazy.specs.Lazy.{lazy_elimination, whole_run, after, unit, pop, pop_equation, pop_variable, pop_dense, pass_over, copy, solve_for, skip, activate, lowered, pushed, added_into, dense_row, last_unit, fill, start, heaviest, listing, others}
use Rattle.lazy_calls.specs.LazyCall.{lazy_call}
use Rattle.workbench.specs.SumCounts.{sparse_tells, lazy_tells, sum_tells, P3, P4, P5, refused3}

-- the refused sum of P4 counts; a refusal by 3 made none
pub sparse_counts : (sparse_tells P3 ≡ 3) × (sparse_tells P4 ≡ 3) × (sparse_tells P5 ≡ 1) × (sparse_tells refused3 ≡ 0)
unfolding reported sparse_call system_rules sizes_fit shape_kept starts_kept climbs rises_below lowest_bad equations_from equation_at stretch cleared sparse_cancels outer_rows_cancel outer_row_cancels meet_row_cancels meeting_cancels common count one lists gaussian_elimination echelon_form outer_rows outer_row meet_row meeting summed sym_diff contradicted finish back_sub pin eval_vars
sparse_counts = (refl, refl, refl, refl)

-- P5 needs no sum by the lazy rules
pub lazy_counts : (lazy_tells P3 ≡ 3) × (lazy_tells P4 ≡ 3) × (lazy_tells P5 ≡ 0) × (lazy_tells refused3 ≡ 0)
unfolding reported lazy_call system_rules sizes_fit shape_kept starts_kept climbs rises_below lowest_bad equations_from equation_at stretch cleared lazy_cancels after_cancels unit_cancels pop_cancels added_cancels outer_row_cancels meet_row_cancels meeting_cancels common count one lazy_elimination whole_run after unit pop pop_equation pop_variable pop_dense pass_over copy solve_for skip activate lowered pushed added_into dense_row last_unit fill start heaviest listing others up_from down_from keep first_of lists outer_row meet_row meeting summed contradicted back_sub pin sym_diff eval_vars
lazy_counts = (refl, refl, refl, refl)

-- P10: {1,3,5} plus {3,4}, a list plus itself, and a list that does not rise
pub sum_counts : (sum_tells (1 ∷ 3 ∷ 5 ∷ []) (3 ∷ 4 ∷ []) ≡ 1) × (sum_tells (2 ∷ 7 ∷ []) (2 ∷ 7 ∷ []) ≡ 2) × (sum_tells (7 ∷ 2 ∷ []) (2 ∷ 7 ∷ []) ≡ 0)
unfolding sum_call rises rises_from sym_diff put padded common count one lists
sum_counts = (refl, refl, refl)
