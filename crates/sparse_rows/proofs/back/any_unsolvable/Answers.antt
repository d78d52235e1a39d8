use Rattle.sparse_rows.proofs.Backward.{checking_turn, checking_stop, checking_end}
use Rattle.sparse_rows.proofs.back.any_unsolvable.Goals as goal

pub returns-then-is_unsolvable : goal.returns-then-is_unsolvable
returns-then-is_unsolvable c = checking_stop c.loop-i.invariant c.loop-i-test.true c.is_unsolvable.ensures c.if-is_unsolvable.true

pub loop-i-preserved : goal.loop-i-preserved
loop-i-preserved c = checking_turn c.loop-i.invariant c.loop-i-test.true c.is_unsolvable.ensures c.if-is_unsolvable.false

pub returns : goal.returns
returns c = checking_end c.loop-i.invariant c.loop-i-test.false
