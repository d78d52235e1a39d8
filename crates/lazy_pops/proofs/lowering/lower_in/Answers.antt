use Rattle.lazy_pops.proofs.LowerTurns.{lower_begin, lower_end, turn_skip, turn_fits, turn_on}
use Rattle.lazy_pops.proofs.lowering.lower_in.Goals as goal
use Rattle.lazy_pops.proofs.lowering.lower_in.Goals.{then-e-skip, else-e-skip}

pub loop-k-init : goal.loop-k-init
loop-k-init c = lower_begin c.requires

pub lower-t-requires : goal.lower-t-requires
lower-t-requires c = turn_fits c.loop-k.invariant c.loop-k-test.true c.if-e-skip.true

pub loop-k-preserved : goal.loop-k-preserved
loop-k-preserved c =
    let i = c.loop-k.invariant in
    let h = c.loop-k-test.true in
    elim c.if-e-skip.branch [
      | then-e-skip w ↦ rw (w.numbers-is, w.t-is, w.lower-t.ensures.value, w.lower-t.ensures.numbers_after) (turn_on i h w.if-e-skip.true)
      | else-e-skip w ↦ rw (w.numbers-is, w.t-is) (turn_skip i h w.if-e-skip.false)
    ]

pub returns-clause-value : goal.returns-clause-value
returns-clause-value c = (lower_end c.loop-k.invariant c.loop-k-test.false).0

pub returns-clause-numbers_after : goal.returns-clause-numbers_after
returns-clause-numbers_after c = (lower_end c.loop-k.invariant c.loop-k-test.false).1
