use Rattle.std.proofs.Common.{arith}
use Rattle.link_lines.proofs.Lining.{listing_begin, listing_turn}
use Rattle.link_lines.proofs.text.Text.values.Goals as goal

pub loop-value-init : goal.loop-value-init
loop-value-init c = listing_begin c.args.values.now c.args.self.now (omega (arith, c.requires))

pub loop-value-preserved : goal.loop-value-preserved
loop-value-preserved c = listing_turn c.loop-value.invariant c.loop-value-test.true c.number.ensures.adds c.number.ensures.short
