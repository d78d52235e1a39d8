use Rattle.system.proofs.InOrder.{ordered_low, ordered_high, ordered_turn, ordered_end}
use Rattle.system.proofs.order.in_order.Goals as goal
use Rattle.system.proofs.order.in_order.Goals.{then-v-low-via-then-v-low, then-v-low-via-else-v-low+then-v-n}

pub returns-then-v-low : goal.returns-then-v-low
returns-then-v-low c =
    elim c.then-v-low.branch [
      | then-v-low-via-then-v-low w ↦ ordered_low c.loop-v.invariant c.loop-v-test.true w.if-v-low.true
      | then-v-low-via-else-v-low+then-v-n w ↦ ordered_high c.loop-v.invariant c.loop-v-test.true w.if-v-low.false w.if-v-n.true
    ]

pub loop-v-preserved : goal.loop-v-preserved
loop-v-preserved c = ordered_turn c.loop-v.invariant c.loop-v-test.true c.if-v-low.false c.if-v-n.false

pub returns : goal.returns
returns c = ordered_end c.loop-v.invariant c.loop-v-test.false
