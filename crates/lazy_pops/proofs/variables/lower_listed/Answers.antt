use Rattle.std.proofs.Common.{arith}
use Rattle.lazy_pops.proofs.Listed.{bounds, listed_fits, listed_done}
use Rattle.lazy_pops.proofs.variables.lower_listed.Goals as goal

pub overflow_add-first : goal.overflow_add-first
overflow_add-first c = let b = bounds _ c.requires.at.laid c.requires.at.v_in in omega arith

pub offset_bounds-numbers-first : goal.offset_bounds-numbers-first
offset_bounds-numbers-first c = let b = bounds _ c.requires.at.laid c.requires.at.v_in in omega arith

pub bounds-numbers-first : goal.bounds-numbers-first
bounds-numbers-first c = let b = bounds _ c.requires.at.laid c.requires.at.v_in in omega arith

pub overflow_add-to : goal.overflow_add-to
overflow_add-to c = let b = bounds _ c.requires.at.laid c.requires.at.v_in in omega arith

pub offset_bounds-numbers-first-2 : goal.offset_bounds-numbers-first-2
offset_bounds-numbers-first-2 c = let b = bounds _ c.requires.at.laid c.requires.at.v_in in omega arith

pub bounds-numbers-first-2 : goal.bounds-numbers-first-2
bounds-numbers-first-2 c = let b = bounds _ c.requires.at.laid c.requires.at.v_in in omega arith

pub overflow_add-layout : goal.overflow_add-layout
overflow_add-layout c = let b = bounds _ c.requires.at.laid c.requires.at.v_in in omega arith

pub overflow_sub-to : goal.overflow_sub-to
overflow_sub-to c = let b = bounds _ c.requires.at.laid c.requires.at.v_in in omega arith

pub lower_in-requires : goal.lower_in-requires
lower_in-requires c = listed_fits c.requires.at

pub returns : goal.returns
returns c = λ n sys s w. listed_done w (c.lower_in.ensures.value, c.lower_in.ensures.numbers_after)
