use Rattle.dense_rows.proofs.SetBits.{Summing}
use Rattle.dense_rows.proofs.values.row_value.Given as goal

abbrev pub invariant-loop-j : goal.invariant-loop-j
invariant-loop-j l = Summing l.row l.from l.values l.j l.value
