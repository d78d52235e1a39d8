-- The walk keeps `Meeting`.
use Rattle.system_check.proofs.Meeting.{Meeting}
use Rattle.system_check.proofs.evaluation.all_met.Given as goal

abbrev pub invariant-loop-i : goal.invariant-loop-i
invariant-loop-i l = Meeting l.system.m l.system.starts.now l.system.vars.now l.system.constants.now l.solution l.i
