-- The lazy lines of the table, computed.
use mathlib.Core.Path.{refl}
use Rattle.gf2.specs.Equation.{Each, eval_vars, lists, sym_diff}
use Rattle.workbench.specs.Bench.{Comes, comes_to, lazy_lines}
use Rattle.gf2.specs.NumberLists.{up_from, down_from, keep, first_of}
use Rattle.areas.specs.Stretch.{stretch, cleared}
use Rattle.system.specs.System.{equation_at, equations_from, climbs, starts_kept, rises_below, lowest_bad, sizes_fit, shape_kept, system_rules}
use Rattle.sparse_rules.specs.Eliminate.{summed, meeting, meet_row, outer_row, contradicted, pin, back_sub}
use Rattle.lazy.specs.Lazy.{lazy_elimination, whole_run, after, unit, pop, pop_equation, pop_variable, pop_dense, pass_over, copy, solve_for, skip, activate, lowered, pushed, added_into, dense_row, last_unit, fill, start, heaviest, listing, others}
use Rattle.lazy_calls.specs.LazyCall.{lazy_call}

pub lazy_come_out : Each Comes lazy_lines
unfolding comes_to lazy_call system_rules sizes_fit shape_kept starts_kept climbs rises_below lowest_bad equations_from equation_at stretch cleared lazy_elimination whole_run after unit pop pop_equation pop_variable pop_dense pass_over copy solve_for skip activate lowered pushed added_into dense_row last_unit fill start heaviest listing others up_from down_from keep first_of lists outer_row meet_row meeting summed contradicted back_sub pin sym_diff eval_vars
lazy_come_out = (refl, (refl, (refl, (refl, (refl, (refl, tt))))))
