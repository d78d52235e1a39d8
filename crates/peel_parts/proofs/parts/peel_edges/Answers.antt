use Rattle.peel_parts.proofs.PartLaws.{starts_from, peeled_all}
use Rattle.peel_parts.proofs.parts.peel_edges.Goals as goal

pub peel_from-requires : goal.peel_from-requires
peel_from-requires g c =
    let p = c.preload-first.ensures in
    starts_from c.requires p.preloaded p.none_peeled p.next

pub returns : goal.returns
returns g c = peeled_all c.requires c.preload-first.ensures.preloaded c.peel_from.ensures
