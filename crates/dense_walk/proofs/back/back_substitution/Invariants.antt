use Rattle.dense_walk.proofs.Backing.{Backing}
use Rattle.dense_walk.proofs.back.back_substitution.Given as goal

abbrev pub invariant-loop-i : goal.invariant-loop-i
invariant-loop-i l = Backing l.view l.pivots l.fn.solution l.i l.solution
