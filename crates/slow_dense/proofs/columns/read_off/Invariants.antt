use Rattle.slow_dense.proofs.ReadingPivots.{ReadingPivots}
use Rattle.slow_dense.proofs.columns.read_off.Given as goal

abbrev pub invariant-loop-i : goal.invariant-loop-i
invariant-loop-i l = ReadingPivots l.view l.pivots l.fn.solution l.i l.solution
