use Rattle.std.proofs.Common.{arith}
use Rattle.areas.proofs.Cells.{writing_begin, writing_next, writing_end}
use Rattle.areas.proofs.copies.copy.Goals as goal

pub loop-i-init : goal.loop-i-init
loop-i-init g c = writing_begin _ _ _ c.requires

pub loop-i-preserved : goal.loop-i-preserved
loop-i-preserved g c = writing_next _ _ c.loop-i.invariant (omega arith) c.index-src-i.is

pub returns : goal.returns
returns g c = writing_end c.loop-i.invariant (omega arith)
