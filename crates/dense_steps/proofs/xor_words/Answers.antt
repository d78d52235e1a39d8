use Rattle.dense_steps.proofs.Xoring.{xoring_begin, xoring_turn}
use Rattle.dense_steps.proofs.xor_words.Goals as goal

pub loop-k-init : goal.loop-k-init
loop-k-init c = xoring_begin _ _ _ _ c.requires.0 c.requires.1 c.requires.2

pub loop-k-preserved : goal.loop-k-preserved
loop-k-preserved c = xoring_turn c.loop-k.invariant c.loop-k-test.true
