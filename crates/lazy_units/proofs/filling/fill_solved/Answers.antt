use Rattle.std.proofs.Common.{arith, refl, sym, ◌∙◌}
use Rattle.lazy_units.proofs.FillTurns.{fill_cells, meet_fits, fill_turn, fill_end}
use Rattle.lazy_units.proofs.filling.fill_solved.Goals as goal

pub loop-i-init : goal.loop-i-init
loop-i-init c = λ sys s a. refl

pub overflow_add-e : goal.overflow_add-e
overflow_add-e c = let b = fill_cells c.requires.at in omega arith

pub offset_bounds-numbers-layout : goal.offset_bounds-numbers-layout
offset_bounds-numbers-layout c = let b = fill_cells c.requires.at in omega arith

pub bounds-numbers-layout : goal.bounds-numbers-layout
bounds-numbers-layout c = let b = fill_cells c.requires.at in omega arith

pub overflow_add-v : goal.overflow_add-v
overflow_add-v c = let b = fill_cells c.requires.at in omega arith

pub offset_bounds-numbers-layout-in-loop-i : goal.offset_bounds-numbers-layout-in-loop-i
offset_bounds-numbers-layout-in-loop-i c = let b = fill_cells c.requires.at in omega arith

pub bounds-numbers-layout-in-loop-i : goal.bounds-numbers-layout-in-loop-i
bounds-numbers-layout-in-loop-i c = let b = fill_cells c.requires.at in omega arith

pub fill_one-requires : goal.fill_one-requires
fill_one-requires c = meet_fits c.requires.at _ c.loop-i-test.true _ (c.loop-i.auto.solution ∙ c.requires.long)

pub loop-i-preserved : goal.loop-i-preserved
loop-i-preserved c = λ sys s a. rw c.fill_one.ensures (sym (fill_turn a _ c.loop-i-test.true c.loop-i.solution) ∙ c.loop-i.invariant sys s a)

pub returns : goal.returns
returns c = λ sys s a. sym (fill_end a _ c.loop-i-test.false _) ∙ c.loop-i.invariant sys s a
