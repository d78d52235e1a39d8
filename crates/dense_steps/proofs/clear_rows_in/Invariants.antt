-- The rows before row i are cleared.
use Rattle.dense_rows.specs.Rows.{held, Became}
use Rattle.dense_steps.specs.Clearing.{cleared_rows}
use Rattle.dense_steps.proofs.clear_rows_in.Given as goal

abbrev pub invariant-loop-i : goal.invariant-loop-i
invariant-loop-i l = Became l.m l.w l.initial.words (cleared_rows l.col l.word l.pivot l.from l.i (held l.m l.w l.initial.words)) l.words
