use Rattle.lazy_units.proofs.FillTurns.{part_is}
use Rattle.lazy_units.proofs.filling.fill_one.Goals as goal

pub eval_vars-sum-requires : goal.eval_vars-sum-requires
eval_vars-sum-requires c = rw (part_is _ _ _) c.requires.below

pub returns : goal.returns
returns c = rw (c.eval_vars-sum.ensures, part_is _ _ _)
