use Rattle.peel_parts.proofs.PartLaws.{not_filled, all_filled}
use Rattle.peel_parts.proofs.parts.fill_cells.Goals as goal

pub returns-then-count-m : goal.returns-then-count-m
returns-then-count-m g c = not_filled _ _ _ _ _ _ _ _ c.if-count-m.true

pub returns : goal.returns
returns g c = all_filled _ _ _ _ _ _ _ _ _ _ c.if-count-m.false c.fill.ensures c.assign.ensures
