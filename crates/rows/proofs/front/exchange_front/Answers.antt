use native.Mathlib.Omega.{arith}
use Rattle.rows.proofs.Fronting.{exchanged_none, front_turn}
use Rattle.rows.proofs.front.exchange_front.Goals as goal

pub loop-i-init : goal.loop-i-init
loop-i-init c = (omega arith, exchanged_none c.args.numbers.now c.args.p c.args.q)

pub loop-i-preserved : goal.loop-i-preserved
loop-i-preserved c =
    front_turn _ _ _ _ _ _ _ _ c.requires.1 c.requires.2 (omega arith) c.loop-i.invariant.1 c.exchange_some-i.ensures
