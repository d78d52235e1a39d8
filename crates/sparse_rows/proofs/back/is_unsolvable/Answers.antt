-- A row is unsolvable where it is empty and its constant is not 0.
use Rattle.sparse_rows.proofs.Backward.{solvable_full, unsolvable_empty}
use Rattle.sparse_rows.proofs.back.is_unsolvable.Goals as goal

pub returns-then-numbers-m-ne0 : goal.returns-then-numbers-m-ne0
returns-then-numbers-m-ne0 c = solvable_full c.requires.0 _ c.requires.1 c.if-numbers-m-ne0.true

pub returns : goal.returns
returns c = unsolvable_empty c.requires.0 _ c.requires.1 c.if-numbers-m-ne0.false
