use mathlib.Core.Path.{sym, ap, ◌∙◌}
use native.Mathlib.Omega.{arith}
use lib.ListN.{length}
use lib.Seq.{length-take-le}
use Rattle.row_sums.proofs.SettleRow.{sum_is, sum_short, settled}
use Rattle.row_sums.proofs.add_into.Goals as goal

pub add_ptr-len-requires : goal.add_ptr-len-requires
add_ptr-len-requires c = omega (arith, c.requires, sum_short c.requires c.split_at_mut-rows.ensures.front)

pub slice_bounds-copy-end-2 : goal.slice_bounds-copy-end-2
slice_bounds-copy-end-2 c = let h = sum_short c.requires c.split_at_mut-rows.ensures.front in sym (length-take-le _ _ (omega arith))

pub copy-requires : goal.copy-requires
copy-requires c =
    let h = sum_short c.requires c.split_at_mut-rows.ensures.front in
    omega (arith, c.requires, length-take-le c.add_ptr-len.result c.add_ptr-len.new.out (omega arith))

pub returns-clause-value : goal.returns-clause-value
returns-clause-value c = c.add_ptr-len.ensures.value ∙ ap length (sum_is c.requires c.split_at_mut-rows.ensures.front)

pub returns-clause-area_after : goal.returns-clause-area_after
returns-clause-area_after c =
    let cut = c.split_at_mut-rows.ensures in
    let sum = c.add_ptr-len.ensures in
    settled c.requires cut.front cut.back sum.value sum.out_after c.copy.ensures c.max.ensures c.fill.ensures c.fill-2.ensures
