use Rattle.dense_rows.specs.Areas.{rows_in}
use Rattle.dense_rows.proofs.Holding.{rows_count, holds_as}
use Rattle.dense_steps.proofs.Clearing.{cleared_below}
use Rattle.dense_steps.proofs.clear_below.Goals as goal

pub returns : goal.returns
returns c =
    let a = c.args.area.now in
    holds_as (cleared_below c.args.col c.args.rank a.m (rows_in a) c.requires.0 (rows_count a)) c.clear_rows.ensures
