use Rattle.link_load.proofs.Loading.{Noting}
use Rattle.link_load.proofs.load_vars.Given as goal

abbrev pub invariant-loop-i : goal.invariant-loop-i
invariant-loop-i l = Noting l.initial.rows l.rows l.initial.vars l.to l.i l.vars
