use Rattle.dense.specs.Call.{dense_call}
use Rattle.dense.proofs.dense_gaussian_elimination.Goals as goal

pub returns : goal.returns
unfolding dense_call
returns c = c.solve_by.ensures
