-- Each stretch begins where the one before it ends.
use Rattle.std.proofs.Common.{arith}
use Rattle.lazy_calls.proofs.Swept.{dense_here, swept_all}
use Rattle.lazy_calls.proofs.sweeping.sweep.Goals as goal

pub overflow_add-end-2 : goal.overflow_add-end-2
overflow_add-end-2 c = let h = dense_here c.requires c.empty_rows.ensures c.fill.ensures in omega arith

pub empty_rows-requires : goal.empty_rows-requires
empty_rows-requires c = c.requires.equations

pub empty_rows-requires-2 : goal.empty_rows-requires-2
empty_rows-requires-2 c = dense_here c.requires c.empty_rows.ensures c.fill.ensures

pub returns : goal.returns
returns c = swept_all c.requires c.empty_rows.ensures c.fill.ensures c.empty_rows-2.ensures c.fill-2.ensures
