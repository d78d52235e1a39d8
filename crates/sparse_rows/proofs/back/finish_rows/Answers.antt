-- A row that no values meet, or the values from the last row to the first.
use Rattle.sparse_rows.proofs.Solving.{finish_stop, zeros_all, finish_done}
use Rattle.sparse_rows.proofs.back.finish_rows.Goals as goal

pub returns-then-any_unsolvable : goal.returns-then-any_unsolvable
returns-then-any_unsolvable c = finish_stop _ _ _ c.any_unsolvable.ensures c.if-any_unsolvable.true

pub returns : goal.returns
returns c =
    finish_done _ _ _ _ _ c.any_unsolvable.ensures c.if-any_unsolvable.false (zeros_all _ _ _ c.requires.2 c.fill.ensures) c.back_substitution.ensures
