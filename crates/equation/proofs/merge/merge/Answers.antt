-- A turn for each order of the two variables; the end of a list.
use native.Mathlib.Nat.{zero-add}
use native.Mathlib.Omega.{arith}
use Rattle.equation.proofs.Turn.{merged_begin, less_fits, more_fits, on_less, on_more, on_both, left_done, right_done}
use Rattle.equation.proofs.merge.merge.Goals as goal

pub loop-i-init : goal.loop-i-init
loop-i-init c = merged_begin _ _ _ _ (omega arith)

-- there is room for the variable that is written
pub bounds-out-d : goal.bounds-out-d
bounds-out-d c = omega (arith, c.loop-i.invariant.written, less_fits c.loop-i.invariant c.loop-i-test.true c.if-j-right.true c.if-l-r.true)

pub bounds-out-d-then-r-l : goal.bounds-out-d-then-r-l
bounds-out-d-then-r-l c = omega (arith, c.loop-i.invariant.written, more_fits c.loop-i.invariant c.loop-i-test.true c.if-j-right.true c.if-r-l.true)

pub loop-i-preserved-then-l-r : goal.loop-i-preserved-then-l-r
loop-i-preserved-then-l-r c = rw (zero-add _) at (on_less c.loop-i.invariant c.loop-i-test.true c.if-j-right.true c.if-l-r.true)

pub loop-i-preserved-then-r-l : goal.loop-i-preserved-then-r-l
loop-i-preserved-then-r-l c = rw (zero-add _) at (on_more c.loop-i.invariant c.loop-i-test.true c.if-j-right.true c.if-r-l.true)

pub loop-i-preserved : goal.loop-i-preserved
loop-i-preserved c = on_both c.loop-i.invariant c.loop-i-test.true c.if-j-right.true (omega arith)

pub returns-else-j-right-clause-ended : goal.returns-else-j-right-clause-ended
returns-else-j-right-clause-ended c = right_done c.loop-i.invariant c.if-j-right.false

pub returns-after-loop-i-clause-ended : goal.returns-after-loop-i-clause-ended
returns-after-loop-i-clause-ended c = left_done c.loop-i.invariant c.loop-i-test.false
