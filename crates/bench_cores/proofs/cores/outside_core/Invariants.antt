use Rattle.bench_cores.proofs.Stripping.{Rounds}
use Rattle.bench_cores.proofs.cores.outside_core.Given as goal

abbrev pub invariant-loop-round : goal.invariant-loop-round
invariant-loop-round l = Rounds l.edges l._round l.outside l.alive
