use Rattle.rows.proofs.Swapping.{swap_fits, swap_done}
use Rattle.rows.proofs.swap_rows.Goals as goal

pub exchange_front-requires : goal.exchange_front-requires
exchange_front-requires c = swap_fits c.requires.0 c.args.i c.args.j _ c.requires.1 c.requires.2 c.max-k.ensures

pub returns : goal.returns
returns c = swap_done c.requires.0 c.args.i c.args.j _ c.requires.1 c.requires.2 c.max-k.ensures _ _ c.exchange_front.ensures
