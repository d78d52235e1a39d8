-- The sums of two lists in the table, computed.
use mathlib.Core.Path.{refl}
use Rattle.gf2.specs.Equation.{Each, sym_diff}
use Rattle.workbench.specs.Bench.{Comes, comes_to, sum_lines}
use Rattle.areas.specs.Stretch.{put}
use Rattle.areas.specs.Rows.{padded}
use Rattle.equation.specs.Increase.{rises, rises_from}
use Rattle.equation.specs.Sums.{sum_call}

pub sum_come_out : Each Comes sum_lines
unfolding comes_to sum_call rises rises_from sym_diff put padded
sum_come_out = (refl, (refl, tt))
