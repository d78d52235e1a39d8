-- The rows by what they hold, the lengths, the constants.
use Rattle.rows.proofs.Emptying.{emptied}
use Rattle.rows.proofs.Holding.{drawn_padded}
use Rattle.rows.proofs.Loading.{zeroed_cleared}
use Rattle.rows.proofs.empty.Goals as goal

pub empty_rows-requires : goal.empty_rows-requires
empty_rows-requires c = drawn_padded c.requires

pub returns : goal.returns
returns c = record { numbers_after = emptied c.requires _ _ c.empty_rows.ensures c.fill.ensures; words_after = zeroed_cleared _ _ _ c.fill-2.ensures }
