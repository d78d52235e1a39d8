-- The walk keeps `Passed`.
use Rattle.system.proofs.Lowest.{Passed}
use Rattle.system.proofs.order.lowest_bad.Given as goal

abbrev pub invariant-loop-i : goal.invariant-loop-i
invariant-loop-i l = Passed l.system.n l.system.m l.system.starts.now l.system.vars.now l.i
