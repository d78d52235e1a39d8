-- The equations before k are lowered.
use Rattle.lazy_pops.proofs.LowerTurns.{LoweringIn}
use Rattle.lazy_pops.proofs.lowering.lower_in.Given as goal

abbrev pub invariant-loop-k : goal.invariant-loop-k
invariant-loop-k l = LoweringIn l.initial.numbers l.list l.count l.skip l.layout.priority l.layout.m l.layout.equations l.top l.numbers l.k l.t
