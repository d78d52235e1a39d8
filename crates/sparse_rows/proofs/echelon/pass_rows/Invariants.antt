-- What is left of the loop over the later rows gives what the whole gives; u is the number that row i begins with.
use Rattle.sparse_rows.proofs.Passing.{Passing}
use Rattle.sparse_rows.proofs.echelon.pass_rows.Given as goal

abbrev pub invariant-loop-k : goal.invariant-loop-k
invariant-loop-k l = Passing l.n l.m l.d l.i l.j l.fn.numbers l.fn.words l.numbers l.words l.u l.k
