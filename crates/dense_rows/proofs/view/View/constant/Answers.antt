use Rattle.std.proofs.Common.{sym}
use Rattle.dense_rows.proofs.HeldLaws.{held_constant}
use Rattle.dense_rows.proofs.view.View.constant.Goals as goal

pub returns : goal.returns
returns c = let a = c.args.self in sym (held_constant a.m a.w a.words.now a.room c.args.i c.requires)
