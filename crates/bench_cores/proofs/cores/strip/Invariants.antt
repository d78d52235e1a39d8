use Rattle.bench_cores.proofs.Stripping.{Stripping}
use Rattle.bench_cores.proofs.cores.strip.Given as goal

abbrev pub invariant-loop-i : goal.invariant-loop-i
invariant-loop-i l = Stripping l.edges l.fn.alive l.i l.alive l.gone
