use Rattle.dense_rows.proofs.BitTest.{bit_tested}
use Rattle.dense_rows.proofs.view.View.has.Goals as goal

pub returns : goal.returns
returns c = let a = c.args.self in bit_tested a.m a.w c.args.col c.args.i a.words.now a.room c.requires.0 c.requires.1
