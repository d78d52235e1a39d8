use Rattle.dense_walk.proofs.Walking.{Walking}
use Rattle.dense_walk.proofs.walk.eliminate.Given as goal

abbrev pub invariant-loop-col : goal.invariant-loop-col
invariant-loop-col l = Walking l.n l.fn.numbers l.fn.area l.rank l.col l.numbers l.area
