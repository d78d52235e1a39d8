use Rattle.std.proofs.Common.{sym, ◌∙◌}
use Rattle.system.proofs.Lowest.{passed_begin, passed_read, passed_turn, passed_stop, passed_end}
use Rattle.system.proofs.order.lowest_bad.Goals as goal

pub loop-i-init : goal.loop-i-init
loop-i-init c = passed_begin _ _ _ _ c.requires

pub variables-requires : goal.variables-requires
variables-requires c = passed_read c.loop-i.invariant c.loop-i-test.true

pub returns-then-not-in_order : goal.returns-then-not-in_order
returns-then-not-in_order c =
    λ constants. (c.loop-i-test.true, passed_stop c.loop-i.invariant c.loop-i-test.true c.args.system.now.constants.now (rw c.variables.ensures at (sym c.in_order.ensures ∙ c.if-not-in_order.true)) constants)

pub loop-i-preserved : goal.loop-i-preserved
loop-i-preserved c =
    passed_turn c.loop-i.invariant c.loop-i-test.true c.args.system.now.constants.now (rw c.variables.ensures at (sym c.in_order.ensures ∙ c.if-not-in_order.false))

pub returns : goal.returns
returns c = λ constants. passed_end c.loop-i.invariant c.loop-i-test.false constants
