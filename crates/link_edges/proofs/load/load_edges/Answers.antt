use Rattle.link_form.specs.File.{rows_in}
use Rattle.link_form.specs.Rows.{rows_of}
use Rattle.link_edges.proofs.Filling.{filling_begin, filling_room, filling_turn}
use Rattle.link_edges.proofs.load.load_edges.Goals as goal

pub loop-i-init : goal.loop-i-init
loop-i-init c =
    let a = c.args in
    filling_begin a.rows.now a.m (rows_in (rows_of a.m a.rows.now)) c.requires.kind c.requires.whole c.requires.few

pub edge_in-requires : goal.edge_in-requires
edge_in-requires c = let f = c.loop-i.invariant in record { kind = f.edges; there = filling_room f c.loop-i-test.true }

pub loop-i-preserved : goal.loop-i-preserved
loop-i-preserved c = filling_turn c.loop-i.invariant c.loop-i-test.true c.edge_in.ensures.value c.edge_in.ensures.passed
