-- The walk keeps `Ordered`.
use Rattle.system.proofs.InOrder.{Ordered}
use Rattle.system.proofs.order.in_order.Given as goal

abbrev pub invariant-loop-v : goal.invariant-loop-v
invariant-loop-v l = Ordered l.n l.vars l.low l.v-index
