use Rattle.std.proofs.Common.{sym}
use Rattle.dense_rows.proofs.HeldLaws.{row_lent}
use Rattle.dense_rows.proofs.view.View.row.Goals as goal

pub returns : goal.returns
returns c = let a = c.args.self in sym (row_lent a.m a.w a.words.now _ c.args.i c.requires)
