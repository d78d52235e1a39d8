use Rattle.peel_parts.proofs.PartLaws.{end_asks, settled}
use Rattle.peel_parts.proofs.parts.settle.Goals as goal

pub ended-requires : goal.ended-requires
ended-requires g c = end_asks c.requires

pub returns : goal.returns
returns g c = settled c.requires c.fill_cells.ensures c.ended.ensures
