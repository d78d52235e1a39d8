use Rattle.std.proofs.Common.{arith, ap, ◌∙◌, slice_set, List}
use Rattle.areas.proofs.Filling.{filled_none, filled_more}
use Rattle.areas.proofs.fills.fill.Goals as goal

pub loop-k-init : goal.loop-k-init
loop-k-init g c = filled_none _ _ _

pub loop-k-preserved : goal.loop-k-preserved
loop-k-preserved g c =
    ap (λ (area : List g.row.T.Denot). slice_set area c.loop-k.k c.args.value) c.loop-k.invariant
    ∙ filled_more _ _ _ _ (omega arith) (omega arith)
