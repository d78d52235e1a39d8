-- The first i rows are the first i equations, and the others have no variables.
use Rattle.std.proofs.Common.{drop}
use Rattle.answers.specs.Sizes.{row_numbers, row_words}
use Rattle.system.specs.Lent.{equations_in}
use Rattle.sparse.proofs.Loading.{Loading}
use Rattle.sparse.proofs.load.load.Given as goal

abbrev pub invariant-loop-i : goal.invariant-loop-i
invariant-loop-i l =
    Loading l.system.n l.system.m (equations_in l.system) (drop (row_numbers l.system.n l.system.m) l.initial.numbers) (drop (row_words l.system.m) l.initial.words) l.numbers l.words l.i
