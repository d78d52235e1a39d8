-- What is seen of the area are its rows.
use Rattle.dense.proofs.engine.DenseEngine.read.Goals as goal

pub back_substitution-requires : goal.back_substitution-requires
back_substitution-requires c = let v = c.view.ensures in rw (v.same_m, v.same_w, v.same_words) c.requires

pub returns : goal.returns
returns c = let v = c.view.ensures in rw (v.same_m, v.same_w, v.same_words) at c.back_substitution.ensures
