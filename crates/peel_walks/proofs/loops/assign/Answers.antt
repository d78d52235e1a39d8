use Rattle.std.proofs.Common.{sym, ◌∙◌}
use Rattle.peel_walks.proofs.TableLaws.{filled_next, none_to_fill}
use Rattle.peel_walks.proofs.loops.assign.Goals as goal

pub loop-k-preserved : goal.loop-k-preserved
loop-k-preserved g c =
    let at = c.peeled_at-at.ensures in
    filled_next _ _ _ _ _ _ _ c.loop-k-test.true (rw (← at.edge, ← at.side) c.fill_one.ensures) ∙ c.loop-k.invariant

pub returns : goal.returns
returns g c = sym (none_to_fill _ _ _ _ _ _ _ c.loop-k-test.false) ∙ c.loop-k.invariant
