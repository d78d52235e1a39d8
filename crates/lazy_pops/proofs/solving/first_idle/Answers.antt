use Rattle.std.proofs.Common.{arith}
use Rattle.lazy_pops.proofs.Seeking.{row_lent, mark_in, seek_found, seek_on, seek_none}
use Rattle.lazy_pops.proofs.solving.first_idle.Goals as goal

pub overflow_add-layout : goal.overflow_add-layout
overflow_add-layout c = let b = mark_in c.loop-v.invariant (row_lent _ _ _) c.loop-v-test.true in omega arith

pub offset_bounds-numbers-layout : goal.offset_bounds-numbers-layout
offset_bounds-numbers-layout c = let b = mark_in c.loop-v.invariant (row_lent _ _ _) c.loop-v-test.true in omega arith

pub bounds-numbers-layout : goal.bounds-numbers-layout
bounds-numbers-layout c = let b = mark_in c.loop-v.invariant (row_lent _ _ _) c.loop-v-test.true in omega arith

pub returns-then-numbers-layout-ne0 : goal.returns-then-numbers-layout-ne0
returns-then-numbers-layout-ne0 c = seek_found c.loop-v.invariant (row_lent _ _ _) c.loop-v-test.true c.if-numbers-layout-ne0.true

pub loop-v-preserved : goal.loop-v-preserved
loop-v-preserved c = seek_on c.loop-v.invariant (row_lent _ _ _) c.loop-v-test.true c.if-numbers-layout-ne0.false

pub returns : goal.returns
returns c = seek_none c.loop-v.invariant (row_lent _ _ _) c.loop-v-test.false
