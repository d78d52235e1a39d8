-- What is seen of the area are its rows.
use Rattle.slow_dense.proofs.engine.SlowEngine.read.Goals as goal

pub read_off-requires : goal.read_off-requires
read_off-requires c = let v = c.view.ensures in (rw v.same_m c.requires.0, c.requires.2)

pub returns : goal.returns
returns c = let v = c.view.ensures in rw (v.same_m, v.same_w, v.same_words) at c.read_off.ensures
