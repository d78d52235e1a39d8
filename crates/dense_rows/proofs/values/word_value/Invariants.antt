use Rattle.dense_rows.proofs.SetBits.{Valuing}
use Rattle.dense_rows.proofs.values.word_value.Given as goal

abbrev pub invariant-loop-left : goal.invariant-loop-left
invariant-loop-left l = Valuing l.word l.base l.values l.left l.value

abbrev pub decreases-loop-left : goal.decreases-loop-left
decreases-loop-left l = l.left
