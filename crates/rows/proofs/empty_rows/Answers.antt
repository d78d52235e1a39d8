use Rattle.std.proofs.Common.{arith}
use Rattle.rows.proofs.Padding.{row_here, emptying_begin, emptying_turn}
use Rattle.rows.proofs.empty_rows.Goals as goal

pub loop-i-init : goal.loop-i-init
loop-i-init c = emptying_begin c.requires

pub fill-requires : goal.fill-requires
fill-requires c = let r = row_here c.loop-i.invariant c.loop-i-test.true in (omega arith, omega arith)

pub loop-i-preserved : goal.loop-i-preserved
loop-i-preserved c = rw c.fill.ensures (emptying_turn c.loop-i.invariant c.loop-i-test.true)
