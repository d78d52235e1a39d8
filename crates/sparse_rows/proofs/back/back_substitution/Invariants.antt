-- The rows from i on are substituted, from the last one down.
use Rattle.rows.specs.Picture.{rows_of}
use Rattle.sparse_rows.proofs.Backward.{Backing}
use Rattle.sparse_rows.proofs.back.back_substitution.Given as goal

abbrev pub invariant-loop-i : goal.invariant-loop-i
invariant-loop-i l = Backing (rows_of l.n l.m l.numbers l.words) l.d l.fn.solution l.solution l.i
