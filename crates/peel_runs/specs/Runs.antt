-- What the run over the table asks, and what it leaves.
use Rattle.std.specs.Prelude.{◌≡◌, List, [], Bool, ℕ, Option, IfSome, ◌<◌, length}
use Rattle.answers.specs.Numbers.{number_of, place_of}
use Rattle.peeling.specs.declared.numbers.Edge.{Edge}
use Rattle.peeling.specs.declared.numbers.Vertex.{Vertex}
use Rattle.peel_rules.specs.Peel.{crowded_vertex}
use Rattle.peel_rules.specs.Machine.{build, empty}
use Rattle.peel_rules.specs.Calls.{PeelCall, admitted}
use Rattle.peel_gates.specs.Ends.{Peeling}
use Rattle.peel_steps.specs.Lowest.{vertex_or}
use Rattle.peel_steps.specs.Pictures.{graph_in}
use Rattle.peel_gates.specs.Rooms.{numbers_room, bytes_room}
use Rattle.peel_parts.specs.Parts.{Admitted}

-- the graph is made, and the lowest vertex that lies on a crowd of edges is known
pub record BuiltAsks (high : Bool) (n : ℕ) (low : Option Vertex) (T : List Edge) (cells numbers bytes : List ℕ) : Type 0 where
  pub admitted : Admitted high n T cells numbers bytes
  pub graph : graph_in n numbers bytes ≡ build 0 T (empty n)
  pub crowd : vertex_or n low ≡ crowded_vertex n T
  pub found : IfSome low (λ v. v.0 < n)

-- the answer, by its number and place, and every lent cell are as the definition of the call says
pub record Leaves (c : PeelCall) (r : Peeling) (solution numbers bytes : List ℕ) : Type 0 where
  pub answer : r.answer ≡ c.answer
  pub number : number_of r.answer ≡ number_of c.answer
  pub place : place_of r.answer ≡ place_of c.answer
  pub report : r.report ≡ c.report
  pub solution_is : solution ≡ c.solution
  pub numbers_are : numbers ≡ c.numbers
  pub bytes_are : bytes ≡ c.bytes

-- the run says the same in whatever areas
unfoldable pub run_says : Bool → ℕ → List Edge → List ℕ → PeelCall
run_says high n T cells = admitted (numbers_room high n (length T)) (bytes_room high n (length T)) n T cells [] []

unfoldable pub run_call : Bool → ℕ → List Edge → List ℕ → List ℕ → List ℕ → PeelCall
run_call high n T cells numbers bytes = admitted (numbers_room high n (length T)) (bytes_room high n (length T)) n T cells numbers bytes
