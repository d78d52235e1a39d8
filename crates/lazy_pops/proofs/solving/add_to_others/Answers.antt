use Rattle.std.proofs.Common.{arith}
use Rattle.lazy_pops.proofs.Recording.{others_cells, others_fit}
use Rattle.lazy_pops.proofs.solving.add_to_others.Goals as goal

pub overflow_add-first : goal.overflow_add-first
overflow_add-first c = let b = others_cells c.requires.at in omega arith

pub offset_bounds-numbers-first : goal.offset_bounds-numbers-first
offset_bounds-numbers-first c = let b = others_cells c.requires.at in omega arith

pub bounds-numbers-first : goal.bounds-numbers-first
bounds-numbers-first c = let b = others_cells c.requires.at in omega arith

pub overflow_add-to : goal.overflow_add-to
overflow_add-to c = let b = others_cells c.requires.at in omega arith

pub offset_bounds-numbers-first-2 : goal.offset_bounds-numbers-first-2
offset_bounds-numbers-first-2 c = let b = others_cells c.requires.at in omega arith

pub bounds-numbers-first-2 : goal.bounds-numbers-first-2
bounds-numbers-first-2 c = let b = others_cells c.requires.at in omega arith

pub overflow_add-layout : goal.overflow_add-layout
overflow_add-layout c = let b = others_cells c.requires.at in omega arith

pub overflow_sub-to : goal.overflow_sub-to
overflow_sub-to c = let b = others_cells c.requires.at in omega arith

pub add_listed-requires : goal.add_listed-requires
add_listed-requires c = record { sys = c.requires.sys; s = c.requires.s; v = c.args.v; at = others_fit c.requires.at }

pub returns-clause-add_done : goal.returns-clause-add_done
returns-clause-add_done c = λ sys s a. c.add_listed.ensures.add_done sys s _ (others_fit a)

pub returns-clause-value : goal.returns-clause-value
returns-clause-value c = λ sys s a. c.add_listed.ensures.value sys s _ (others_fit a)
