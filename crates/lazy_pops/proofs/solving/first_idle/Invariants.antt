-- None of the variables before this one is idle.
use Rattle.lazy_pops.proofs.Seeking.{Seeking}
use Rattle.lazy_pops.proofs.solving.first_idle.Given as goal

abbrev pub invariant-loop-v : goal.invariant-loop-v
invariant-loop-v l = Seeking l.numbers l.row l.count l.layout.idle l.v-index
