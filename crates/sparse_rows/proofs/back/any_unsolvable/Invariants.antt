-- The rows from i on hold an unsolvable one exactly where the rows do.
use Rattle.rows.specs.Picture.{rows_of}
use Rattle.sparse_rows.proofs.Backward.{Checking}
use Rattle.sparse_rows.proofs.back.any_unsolvable.Given as goal

abbrev pub invariant-loop-i : goal.invariant-loop-i
invariant-loop-i l = Checking (rows_of l.n l.m l.numbers l.words) l.d l.i
