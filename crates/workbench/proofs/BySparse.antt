-- The sparse lines of the table, computed.
use mathlib.Core.Path.{refl}
use Rattle.gf2.specs.Equation.{Each, eval_vars, sym_diff}
use Rattle.workbench.specs.Bench.{Comes, comes_to, sparse_lines}
use Rattle.areas.specs.Stretch.{stretch, cleared}
use Rattle.system.specs.System.{equation_at, equations_from, climbs, starts_kept, rises_below, lowest_bad, sizes_fit, shape_kept, system_rules}
use Rattle.sparse_rules.specs.Eliminate.{summed, meeting, meet_row, outer_row, outer_rows, echelon_form, contradicted, pin, back_sub, finish, gaussian_elimination}
use Rattle.sparse_rules.specs.SparseCall.{sparse_call}

pub sparse_come_out : Each Comes sparse_lines
unfolding comes_to sparse_call system_rules sizes_fit shape_kept starts_kept climbs rises_below lowest_bad equations_from equation_at stretch cleared gaussian_elimination echelon_form outer_rows outer_row meet_row meeting summed sym_diff contradicted finish back_sub pin eval_vars
sparse_come_out = (refl, (refl, (refl, (refl, (refl, (refl, tt))))))
