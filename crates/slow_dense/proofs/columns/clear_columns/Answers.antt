-- What the search answered, by the arm that was taken.
use Rattle.std.proofs.Common.{sym, ◌∙◌, arith}
use Rattle.slow_dense.proofs.ClearingColumns.{columns_begin, columns_place, columns_skip, columns_turn, columns_end}
use Rattle.slow_dense.proofs.columns.clear_columns.Goals as goal

pub loop-col-init : goal.loop-col-init
loop-col-init c = columns_begin c.args.n c.args.numbers.now c.args.area.now

pub loop-col-preserved-in_default : goal.loop-col-preserved-in_default
loop-col-preserved-in_default c = columns_skip c.loop-col.invariant c.loop-col-test.true (sym c.in_default.is ∙ c.find_pivot.ensures)

pub take_pivot-requires : goal.take_pivot-requires
take_pivot-requires c =
    let h = columns_place c.loop-col.invariant (sym c.in-Some.is ∙ c.find_pivot.ensures) in
    let s = c.loop-col.invariant.same in
    (h.0, h.1, omega (arith, s, c.requires))

pub clear_above-requires : goal.clear_above-requires
clear_above-requires c =
    let h = columns_place c.loop-col.invariant (sym c.in-Some.is ∙ c.find_pivot.ensures) in
    let s = c.loop-col.invariant.same in
    let t = c.take_pivot.ensures.same in
    (omega (arith, h, t), omega (arith, s, t, c.requires))

pub bounds-numbers-rank : goal.bounds-numbers-rank
bounds-numbers-rank c =
    let h = columns_place c.loop-col.invariant (sym c.in-Some.is ∙ c.find_pivot.ensures) in
    let s = c.loop-col.invariant in
    omega (arith, h, s, s.same, c.requires)

pub loop-col-preserved : goal.loop-col-preserved
loop-col-preserved c =
    let s = c.loop-col.invariant in
    columns_turn s c.loop-col-test.true (omega (arith, s, c.requires)) (sym c.in-Some.is ∙ c.find_pivot.ensures) c.take_pivot.ensures c.clear_above.ensures

pub returns-clause-done : goal.returns-clause-done
returns-clause-done c = columns_end c.loop-col.invariant c.loop-col-test.false
