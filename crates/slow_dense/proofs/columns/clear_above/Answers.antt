use Rattle.std.proofs.Common.{arith}
use Rattle.dense_rows.specs.Areas.{rows_in}
use Rattle.dense_rows.proofs.Holding.{rows_count, holds_as}
use Rattle.slow_dense.proofs.ClearingColumns.{cleared_above}
use Rattle.slow_dense.proofs.columns.clear_above.Goals as goal

pub returns : goal.returns
returns c =
    let rows = rows_in c.args.area.now in
    let count = rows_count c.args.area.now in
    holds_as (cleared_above c.args.col c.args.rank rows (omega (arith, c.requires))) c.clear_rows.ensures
