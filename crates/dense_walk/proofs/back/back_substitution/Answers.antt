-- A turn is at row i - 1.
use Rattle.std.proofs.Common.{◌≡◌, ◌+◌, ◌-◌, arith}
use Rattle.dense_walk.proofs.Backing.{backing_begin, backing_pivot, backing_row, backing_turn}
use Rattle.dense_walk.proofs.back.back_substitution.Goals as goal

pub loop-i-init : goal.loop-i-init
loop-i-init c = backing_begin c.args.view c.args.pivots.now c.args.solution.now

pub row_value-requires : goal.row_value-requires
row_value-requires c =
    let i = c.loop-i.i in
    let e : i - 1 + 1 ≡ i = omega arith in
    backing_row c.loop-i.invariant c.requires.0 c.requires.2 (i - 1) e (omega arith) c.row.result.now c.row.ensures c.requires.1

pub bounds-solution-pivot : goal.bounds-solution-pivot
bounds-solution-pivot c =
    let i = c.loop-i.i in
    let e : i - 1 + 1 ≡ i = omega arith in
    backing_pivot c.loop-i.invariant c.requires.0 c.requires.2 (i - 1) e (omega arith)

pub loop-i-preserved : goal.loop-i-preserved
loop-i-preserved c =
    let i = c.loop-i.i in
    let e : i - 1 + 1 ≡ i = omega arith in
    backing_turn c.loop-i.invariant c.requires.0 c.requires.2 (i - 1) e (omega arith) c.row.result.now c.row.ensures c.constant.ensures c.row_value.ensures
