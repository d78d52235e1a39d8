use Rattle.std.proofs.Common.{arith, length-set}
use Rattle.lazy_pops.proofs.VariablePop.{cells, skipped, lowers_at, became_active}
use Rattle.lazy_pops.proofs.variables.pop_variable.Goals as goal

pub overflow_sub-next : goal.overflow_sub-next
overflow_sub-next c = let b = cells c.requires.at in omega arith

pub overflow_add-last : goal.overflow_add-last
overflow_add-last c = let b = cells c.requires.at in omega arith

pub offset_bounds-numbers-last : goal.offset_bounds-numbers-last
offset_bounds-numbers-last c = let b = cells c.requires.at in omega arith

pub bounds-numbers-last : goal.bounds-numbers-last
bounds-numbers-last c = let b = cells c.requires.at in omega arith

pub bounds-numbers-last-2 : goal.bounds-numbers-last-2
bounds-numbers-last-2 c = let b = cells c.requires.at in omega arith

pub overflow_add-layout : goal.overflow_add-layout
overflow_add-layout c = let b = cells c.requires.at in omega arith

pub offset_bounds-numbers-layout : goal.offset_bounds-numbers-layout
offset_bounds-numbers-layout c = let b = cells c.requires.at in omega arith

pub bounds-numbers-layout : goal.bounds-numbers-layout
bounds-numbers-layout c = let b = cells c.requires.at in simp length-set (omega arith)

pub overflow_add-numbers : goal.overflow_add-numbers
overflow_add-numbers c = let b = cells c.requires.at in omega arith

pub offset_bounds-numbers-layout-2 : goal.offset_bounds-numbers-layout-2
offset_bounds-numbers-layout-2 c = let b = cells c.requires.at in omega arith

pub bounds-numbers-layout-2 : goal.bounds-numbers-layout-2
bounds-numbers-layout-2 c = let b = cells c.requires.at in simp length-set (omega arith)

pub returns-then-numbers-layout-eq0 : goal.returns-then-numbers-layout-eq0
returns-then-numbers-layout-eq0 c = λ n sys s v vs a. skipped a c.if-numbers-layout-eq0.true

pub lower_listed-requires : goal.lower_listed-requires
lower_listed-requires c = record { n = c.requires.n; sys = c.requires.sys; s = _; at = lowers_at c.requires.at c.if-numbers-layout-eq0.false }

pub returns : goal.returns
returns c = λ n sys s v vs a. became_active a c.if-numbers-layout-eq0.false (c.lower_listed.ensures n sys _ (lowers_at a c.if-numbers-layout-eq0.false))

pub offset_bounds-numbers-last-2 : goal.offset_bounds-numbers-last-2
offset_bounds-numbers-last-2 c = let b = cells c.requires.at in omega arith
