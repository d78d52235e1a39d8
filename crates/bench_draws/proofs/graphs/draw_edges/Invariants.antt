use Rattle.std.proofs.Common.{◌≡◌, ◌*◌, take}
use Rattle.bench_draws.specs.Draws.{after, edges_of}
use Rattle.bench_draws.proofs.graphs.draw_edges.Given as goal

abbrev pub invariant-loop-edge : goal.invariant-loop-edge
invariant-loop-edge l =
    (l.random ≡ after (4 * l.edge-index) l.fn.random) × (take l.edge-index l.edge-items ≡ edges_of l.n l.hubs l.edge-index l.fn.random)
