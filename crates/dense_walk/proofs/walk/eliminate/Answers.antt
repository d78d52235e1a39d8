-- What the search answered, by the arm that was taken.
use Rattle.std.proofs.Common.{sym, ◌∙◌, rules, arith}
use Rattle.dense_walk.proofs.Walking.{walking_place, walking_skip, walking_turn}
use Rattle.dense_walk.proofs.walk.eliminate.Goals as goal

pub loop-col-preserved-in_default : goal.loop-col-preserved-in_default
loop-col-preserved-in_default c =
    walking_skip c.loop-col.invariant c.loop-col-test.true (search rules) (sym c.in_default.is ∙ c.find_pivot.ensures)

pub take_pivot-requires : goal.take_pivot-requires
take_pivot-requires c =
    let h = walking_place c.loop-col.invariant (sym c.in-Some.is ∙ c.find_pivot.ensures) in
    let s = c.loop-col.invariant.same in
    (h.0, h.1, omega (arith, s))

pub loop-col-preserved : goal.loop-col-preserved
loop-col-preserved c =
    walking_turn c.loop-col.invariant c.loop-col-test.true (search rules) (search rules) (sym c.in-Some.is ∙ c.find_pivot.ensures) c.take_pivot.ensures
