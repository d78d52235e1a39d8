-- The walk keeps `Evaluating`, which bounds each index.
use Rattle.system_check.proofs.Evaluating.{Evaluating}
use Rattle.system_check.proofs.evaluation.eval_vars.Given as goal

abbrev pub invariant-loop-v : goal.invariant-loop-v
invariant-loop-v l = Evaluating l.vars l.values l.sum l.v-index
