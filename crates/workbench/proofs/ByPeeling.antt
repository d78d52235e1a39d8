-- The lines of both peelers, computed.
use mathlib.Core.Path.{refl}
use Rattle.gf2.specs.Equation.{Each}
use Rattle.workbench.specs.Bench.{Comes, comes_to, peel_lines, by_high, by_low}
use lib.Ieee.{mul, div, of_int, round, units, odd, span, climb, size}
use Rattle.areas.specs.Stretch.{cleared}
use Rattle.peel_rules.specs.Edges.{bad_edge, touches, degree, edge_at, without, side_of, pivot, first, second}
use Rattle.peel_rules.specs.Peel.{push, popped, pop, step, run, ones, start, peel, fill_one, fill, verdict, answer, crowded_from, crowded_vertex}

pub high_come_out : Each Comes (peel_lines by_high)
unfolding comes_to bad_edge touches degree edge_at without side_of pivot first second push popped pop step run ones start peel fill_one fill verdict answer crowded_from crowded_vertex cleared of_int mul div round units odd span climb size
high_come_out = (refl, (refl, (refl, (refl, tt))))

pub low_come_out : Each Comes (peel_lines by_low)
unfolding comes_to bad_edge touches degree edge_at without side_of pivot first second push popped pop step run ones start peel fill_one fill verdict answer crowded_from crowded_vertex cleared of_int mul div round units odd span climb size
low_come_out = (refl, (refl, (refl, (refl, tt))))
