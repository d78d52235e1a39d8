use Rattle.peel_turns.proofs.PictureLaws.{first_visits, second_visits, taken_off}
use Rattle.peel_turns.proofs.visiting.take_off.Goals as goal

pub visit-head-requires : goal.visit-head-requires
visit-head-requires c = first_visits c.requires _ c.zero_at.ensures _ _ _ _ c.first_of-a.ensures c.second_of-b.ensures c.first_side.ensures c.second_side.ensures

pub visit-requires : goal.visit-requires
visit-requires c =
    second_visits c.requires _ c.zero_at.ensures _ _ _ _ c.first_of-a.ensures c.second_of-b.ensures c.first_side.ensures c.second_side.ensures _ _ _ c.visit-head.ensures

pub returns : goal.returns
returns c =
    taken_off c.requires _ c.zero_at.ensures _ _ _ _ c.first_of-a.ensures c.second_of-b.ensures c.first_side.ensures c.second_side.ensures _ _ _ c.visit-head.ensures _ _ _ c.visit.ensures
