use Rattle.system_check.proofs.Evaluating.{evaluating_turn, evaluating_end}
use Rattle.system_check.proofs.evaluation.eval_vars.Goals as goal

pub loop-v-preserved : goal.loop-v-preserved
loop-v-preserved c = evaluating_turn c.loop-v.invariant c.loop-v-test.true

pub returns : goal.returns
returns c = evaluating_end c.loop-v.invariant c.loop-v-test.false
