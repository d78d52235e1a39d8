use Rattle.slow_dense.proofs.ReadingPivots.{reading_turn, reading_end}
use Rattle.slow_dense.proofs.columns.read_off.Goals as goal

pub loop-i-preserved : goal.loop-i-preserved
loop-i-preserved c = reading_turn c.loop-i.invariant c.requires.0 c.loop-i-test.true c.constant.ensures

pub returns : goal.returns
returns c = reading_end c.loop-i.invariant c.loop-i-test.false
