use Rattle.std.proofs.Common.{sym, ◌∙◌}
use Rattle.system_check.proofs.Meeting.{meeting_low, meeting_turn, meeting_stop, meeting_end}
use Rattle.system_check.proofs.evaluation.all_met.Goals as goal

pub eval_vars-requires : goal.eval_vars-requires
eval_vars-requires c = rw c.variables.ensures (meeting_low c.loop-i.invariant c.loop-i-test.true)

pub returns-then-eval_vars-system : goal.returns-then-eval_vars-system
returns-then-eval_vars-system c =
    meeting_stop c.loop-i.invariant c.loop-i-test.true (rw (c.eval_vars.ensures, c.variables.ensures) at c.if-eval_vars-system.true)

pub loop-i-preserved : goal.loop-i-preserved
loop-i-preserved c =
    meeting_turn c.loop-i.invariant c.loop-i-test.true (rw c.variables.ensures at (sym c.eval_vars.ensures ∙ c.if-eval_vars-system.false))

pub returns : goal.returns
returns c = meeting_end c.loop-i.invariant c.loop-i-test.false
