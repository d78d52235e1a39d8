-- Both rooms are zeroed from their first cell on.
use Rattle.rows.proofs.Loading.{zeroed_cleared}
use Rattle.rows.proofs.clear.Goals as goal

pub returns : goal.returns
returns c = record { numbers_after = zeroed_cleared _ _ _ c.fill.ensures; words_after = zeroed_cleared _ _ _ c.fill-2.ensures }
