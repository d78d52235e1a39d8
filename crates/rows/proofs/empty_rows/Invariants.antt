-- Of each row as many numbers are zeroed as its length says.
use Rattle.rows.proofs.Padding.{Emptying}
use Rattle.rows.proofs.empty_rows.Given as goal

abbrev pub invariant-loop-i : goal.invariant-loop-i
invariant-loop-i l = Emptying l.at l.lengths l.n l.m l.initial.numbers l.i l.numbers
