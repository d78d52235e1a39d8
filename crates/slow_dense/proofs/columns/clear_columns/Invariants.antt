use Rattle.slow_dense.proofs.ClearingColumns.{ClearingColumns}
use Rattle.slow_dense.proofs.columns.clear_columns.Given as goal

abbrev pub invariant-loop-col : goal.invariant-loop-col
invariant-loop-col l = ClearingColumns l.n l.fn.numbers l.fn.area l.rank l.col l.numbers l.area
