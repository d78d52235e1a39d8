use Rattle.std.proofs.Common.{sym, rules, arith}
use borrow.Author.Tests.{eqb-true, eqb-false}
use Rattle.link_form.proofs.Scanning.{scanning_begin, scanning_broken, scanning_turn, scanning_left, scanning_end}
use Rattle.link_form.proofs.rows.Rows.listed.Goals as goal

pub loop-row-init : goal.loop-row-init
loop-row-init c = scanning_begin c.args.self.now c.args.m

pub returns-in_err-t : goal.returns-in_err-t
returns-in_err-t c = rw c.from_residual.ensures (scanning_broken c.loop-row.invariant c.loop-row-test.true c.in_err-t.ensures)

-- no more variables are listed than there are bytes
pub overflow_add-t : goal.overflow_add-t
overflow_add-t c =
    let n = scanning_turn c.loop-row.invariant c.loop-row-test.true c.in_ok-t.ensures in
    let f = n.few in
    search rules

pub loop-row-preserved : goal.loop-row-preserved
loop-row-preserved c = scanning_turn c.loop-row.invariant c.loop-row-test.true c.in_ok-t.ensures

pub returns-then-is_empty : goal.returns-then-is_empty
returns-then-is_empty c = scanning_end c.loop-row.invariant c.loop-row-test.false (eqb-true _ _ (sym c.if-is_empty.ensures))

pub returns-else-is_empty : goal.returns-else-is_empty
returns-else-is_empty c =
    let n = eqb-false _ _ (sym c.if-is_empty.ensures) in
    scanning_left c.loop-row.invariant c.loop-row-test.false (omega (arith, n))
