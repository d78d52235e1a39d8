-- Two edges that share vertex 2: the graph, and the stack of the vertices on one edge, as the peeling begins.
use mathlib.Core.Path.{◌≡◌, refl}
use mathlib.Core.List.{List, [], ◌∷◌}
use mathlib.Core.Bool.{true}
use Prim.Native.Nat.{ℕ}
use native.Mathlib.Omega.{arith}
use Rattle.peeling.specs.declared.numbers.Edge.{Edge}
use Rattle.peel_rules.specs.Edges.{edge, bad_edge, touches, degree}
use Rattle.peel_rules.specs.Peel.{crowded_from, crowded_vertex}
use Rattle.peel_rules.specs.Machine.{add_edge, build, empty, mones}
use Rattle.peel_rules.proofs.PeelTheorems.{all_valid}
use Rattle.peel_steps.specs.Pictures.{rising}
use Rattle.peel_turns.specs.Steps.{Turns}
use Rattle.peel_walks.specs.Walks.{PeelStarts}
use Rattle.peel_walks.proofs.PeelLaws.{loop_begins, turn_asks}

abbrev edges : List Edge
edges = edge 0 1 2 7 ∷ edge 2 3 4 9 ∷ []

abbrev numbers : List ℕ
numbers = 0 ∷ 0 ∷ 1 ∷ 1 ∷ 1 ∷ 0 ∷ 1 ∷ 3 ∷ 4 ∷ 0 ∷ 0 ∷ 0 ∷ 77 ∷ []

abbrev bytes : List ℕ
bytes = 4 ∷ 5 ∷ 10 ∷ 5 ∷ 6 ∷ 0 ∷ 0 ∷ 77 ∷ []

pub two_edges_begin : PeelStarts true 5 edges numbers bytes (record { stack = 4; peeled = 0; next = 99 })
unfolding bad_edge touches degree crowded_from crowded_vertex add_edge build empty mones rising
two_edges_begin = record {
  lent = record { n_small = omega arith; m_small = omega arith; numbers_room = omega arith; bytes_room = omega arith };
  valid = let none_bad : bad_edge 5 edges ≡ 2 = refl in all_valid 5 edges (omega (arith, none_bad));
  uncrowded = refl;
  graph = refl;
  stack = refl;
  none = refl;
}

pub two_edges_turn : Turns true 5 edges 4 0 numbers bytes
two_edges_turn = turn_asks two_edges_begin (loop_begins two_edges_begin) (omega arith)
