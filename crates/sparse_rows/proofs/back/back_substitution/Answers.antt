use native.Mathlib.Omega.{arith}
use Rattle.sparse_rows.proofs.Backward.{backing_begin, backing_turn, backing_end}
use Rattle.sparse_rows.proofs.back.back_substitution.Goals as goal

pub loop-i-init : goal.loop-i-init
loop-i-init c = backing_begin _ _ _ (omega (arith, c.requires.0.count, c.requires.1))

pub loop-i-preserved : goal.loop-i-preserved
loop-i-preserved c = backing_turn _ c.loop-i.invariant c.loop-i-test.true c.pin_row.ensures c.pin_row.auto.solution

pub returns : goal.returns
returns c = backing_end c.loop-i.invariant c.loop-i-test.false
