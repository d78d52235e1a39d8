-- The rows after the branch are the swapped rows either way; then they are cleared.
use Rattle.std.proofs.Common.{◌/◌}
use Rattle.dense_rows.specs.Steps.{swap_rows, clear_below}
use Rattle.dense_rows.specs.Areas.{rows_in, Holds}
use Rattle.dense_rows.proofs.Holding.{holds_then}
use Rattle.dense_steps.proofs.Clearing.{stays}
use Rattle.dense_steps.proofs.take_pivot.Goals as goal
use Rattle.dense_steps.proofs.take_pivot.Goals.{then-pivot-rank, else-pivot-rank}

pub returns : goal.returns
returns c =
    let a = c.args in
    let brought : Holds a.area.now (swap_rows (a.col / 64) a.rank a.pivot (rows_in a.area.now)) c.if-pivot-rank.area =
    elim c.if-pivot-rank.branch [
      | then-pivot-rank w ↦ rw w.area-is w.swap_rows.ensures
      | else-pivot-rank w ↦ rw w.area-is (stays (a.col / 64) a.rank a.pivot w.if-pivot-rank.false)
    ] in
    holds_then (clear_below a.col a.rank) brought c.clear_below.ensures
