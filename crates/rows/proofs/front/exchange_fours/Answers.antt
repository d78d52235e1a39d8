use Rattle.rows.proofs.Fronting.{exchanged_none, one_more_four}
use Rattle.rows.proofs.front.exchange_fours.Goals as goal

pub loop-k-init : goal.loop-k-init
loop-k-init g c = exchanged_none c.args.numbers.now c.args.p c.args.q

pub loop-k-preserved : goal.loop-k-preserved
loop-k-preserved g c = one_more_four _ _ _ _ _ _ _ c.loop-k-test.true c.requires.0 c.requires.1 c.loop-k.invariant c.exchange_four.ensures
