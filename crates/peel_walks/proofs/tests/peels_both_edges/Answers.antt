use Rattle.peel_walks.proofs.TwoEdges.{two_edges_begin}
use Rattle.peel_walks.proofs.tests.peels_both_edges.Goals as goal

pub peel-count-requires : goal.peel-count-requires
peel-count-requires g c = two_edges_begin
