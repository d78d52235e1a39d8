use Rattle.peel_walks.proofs.TwoEdges.{two_edges_turn}
use Rattle.peel_walks.proofs.tests.takes_one_edge_off.Goals as goal

pub turn-after-requires : goal.turn-after-requires
turn-after-requires g c = two_edges_turn
