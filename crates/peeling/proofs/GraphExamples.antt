-- Adds and removals on graphs of two vertices, and what the graph's theorems say of them.
use mathlib.Core.Path.{◌≡◌, refl}
use mathlib.Core.List.{[], ◌∷◌}
use mathlib.Core.Bool.{false}
use native.Mathlib.Omega.{arith}
use Rattle.peeling.specs.Graph.{graph_of}
use Rattle.peeling.specs.Incidences.{incidence, degree_in, xor_in, Changed, fresh, added, removed, VertexHolds}
use Rattle.peeling.proofs.Incidences.{graph_holds}

-- edges 5 and 6 come to vertex 0 at sides 1 and 2, and edge 5 to vertex 1
two_edges : Changed 2 (incidence 1 5 0 ∷ incidence 0 6 2 ∷ incidence 0 5 1 ∷ []) (graph_of (3 ∷ 5 ∷ []) (11 ∷ 4 ∷ [])) false false
unfolding degree_in
two_edges = added 1 5 0 (omega arith) (omega arith) (added 0 6 2 (omega arith) (omega arith) (added 0 5 1 (omega arith) (omega arith) fresh))

-- edge 5 leaves vertex 0: edge 6 and its side are left
one_left : Changed 2 (incidence 1 5 0 ∷ incidence 0 6 2 ∷ []) (graph_of (6 ∷ 5 ∷ []) (6 ∷ 4 ∷ [])) false false
one_left = removed (incidence 1 5 0 ∷ incidence 0 6 2 ∷ []) [] 0 5 1 two_edges

pub one_holds : VertexHolds (incidence 1 5 0 ∷ incidence 0 6 2 ∷ []) (graph_of (6 ∷ 5 ∷ []) (6 ∷ 4 ∷ [])) 0
one_holds = graph_holds one_left 0

-- which is: edge 6, and 1 times 4 plus side 2
pub one_reads : (xor_in (λ j. j.edge) 0 (incidence 1 5 0 ∷ incidence 0 6 2 ∷ []) ≡ 6) × (xor_in (λ j. j.side) 0 (incidence 1 5 0 ∷ incidence 0 6 2 ∷ []) ≡ 2) × (degree_in 0 (incidence 1 5 0 ∷ incidence 0 6 2 ∷ []) ≡ 1)
unfolding degree_in xor_in
one_reads = (refl, refl, refl)
