use Rattle.rows.proofs.Fronting.{four_done}
use Rattle.rows.proofs.front.exchange_four.Goals as goal

pub returns : goal.returns
returns c = four_done _ _ _ c.requires.0 c.requires.1
