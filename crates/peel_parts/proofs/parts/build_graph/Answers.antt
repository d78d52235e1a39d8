use Rattle.peel_parts.proofs.PartLaws.{built}
use Rattle.peel_parts.proofs.parts.build_graph.Goals as goal

pub returns : goal.returns
returns c =
    built c.requires c.empty_graph.ensures c.add_edges.ensures.lowest c.add_edges.ensures.graph c.add_edges.auto.numbers c.add_edges.auto.bytes c.empty_graph.auto.numbers c.empty_graph.auto.bytes
