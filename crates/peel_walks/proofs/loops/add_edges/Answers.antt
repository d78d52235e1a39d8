use Rattle.std.proofs.Common.{refl, arith}
use Rattle.peel_walks.proofs.TableLaws.{building_turn, building_end}
use Rattle.peel_walks.proofs.loops.add_edges.Goals as goal

pub loop-i-preserved : goal.loop-i-preserved
loop-i-preserved c = building_turn c.loop-i.invariant c.loop-i-test.true refl c.add_edge-low.ensures.lowest c.add_edge-low.ensures.graph

pub returns-clause-lowest : goal.returns-clause-lowest
returns-clause-lowest c = (building_end c.loop-i.invariant (omega (arith, c.loop-i.auto.i-end))).0

pub returns-clause-graph : goal.returns-clause-graph
returns-clause-graph c = (building_end c.loop-i.invariant (omega (arith, c.loop-i.auto.i-end))).1
