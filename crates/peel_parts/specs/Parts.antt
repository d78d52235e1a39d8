-- What the parts of a run ask, and what they leave.
use Rattle.std.specs.Prelude.{◌≡◌, List, [], Bool, ℕ, Option, IfSome, ◌≤◌, ◌<◌, length, drop, ltb}
use Rattle.areas.specs.Stretch.{zeroed}
use Rattle.answers.specs.Calls.{pick}
use Rattle.gf2.specs.Equation.{Each}
use Rattle.answers.specs.Sizes.{max_equations}
use Rattle.peeling.specs.declared.numbers.Edge.{Edge}
use Rattle.peeling.specs.declared.numbers.Vertex.{Vertex}
use Rattle.peel_rules.specs.Edges.{Valid}
use Rattle.peel_rules.specs.Peel.{peel, fill, answer, crowded_vertex}
use Rattle.peel_rules.specs.Machine.{build, empty}
use Rattle.peel_rules.specs.Calls.{PeelCall, ran}
use Rattle.peel_gates.specs.Ends.{Peeling}
use Rattle.peel_steps.specs.Lowest.{vertex_or}
use Rattle.peel_steps.specs.Pictures.{graph_in, peeled_in}
use Rattle.peel_gates.specs.Rooms.{numbers_room, bytes_room}
use Rattle.peel_gates.specs.Rooms.{Lent}
use Rattle.peel_walks.specs.Walks.{Fillable}

-- the edges keep their rule, and both areas have room for the graph
pub record Begins (n : ℕ) (T : List Edge) (numbers bytes : List ℕ) : Type 0 where
  pub valid : Each (Valid n) T
  pub small : length T ≤ max_equations
  pub room : n ≤ length numbers
  pub room_b : n ≤ length bytes

-- the graph is made in the first n cells of both areas, and a crowded vertex is found if there is one
pub record GraphBuilt (n : ℕ) (T : List Edge) (numbers bytes numbers₁ bytes₁ : List ℕ) (low : Option Vertex) : Type 0 where
  pub graph : graph_in n numbers₁ bytes₁ ≡ build 0 T (empty n)
  pub crowd : vertex_or n low ≡ crowded_vertex n T
  pub found : IfSome low (λ v. v.0 < n)
  pub rest : drop n numbers₁ ≡ drop n numbers
  pub rest_b : drop n bytes₁ ≡ drop n bytes
  pub long : length numbers₁ ≡ length numbers
  pub long_b : length bytes₁ ≡ length bytes

-- the graph of all edges, in areas that have their room
pub record PeelAsks (high : Bool) (n : ℕ) (T : List Edge) (numbers bytes : List ℕ) : Type 0 where
  pub lent : Lent high n (length T) numbers bytes
  pub valid : Each (Valid n) T
  pub uncrowded : crowded_vertex n T ≡ n
  pub graph : graph_in n numbers bytes ≡ build 0 T (empty n)

pub record FillAsks (high : Bool) (n : ℕ) (T : List Edge) (count : ℕ) (cells numbers bytes : List ℕ) : Type 0 where
  pub fillable : Fillable high n T count n numbers bytes
  pub size : length cells ≡ n

-- the cells are filled from zeros, if every edge is peeled
unfoldable pub cells_after : Bool → ℕ → List Edge → ℕ → ℕ → List ℕ → List ℕ → List ℕ → List ℕ
cells_after high n T m count cells numbers bytes = pick (ltb count m) cells (fill (peeled_in high T n count numbers bytes) (zeroed 0 n cells))

-- the peeling is over
pub record SettleAsks (high : Bool) (n : ℕ) (T : List Edge) (count : ℕ) (cells numbers bytes : List ℕ) : Type 0 where
  pub small : length T ≤ max_equations
  pub valid : Each (Valid n) T
  pub fills : FillAsks high n T count cells numbers bytes
  pub peeled : peeled_in high T n count numbers bytes ≡ (peel n T).peeled
  pub counts : count ≡ length (peel n T).peeled

-- the answer and the solution are as the definition of the call says
pub record Says (c : PeelCall) (r : Peeling) (solution : List ℕ) : Type 0 where
  pub answer : r.answer ≡ c.answer
  pub report : r.report ≡ c.report
  pub solution_is : solution ≡ c.solution

-- what a run says does not depend on the areas
unfoldable pub ran_says : Bool → ℕ → List Edge → List ℕ → PeelCall
ran_says high n T cells = ran (numbers_room high n (length T)) (bytes_room high n (length T)) (length T) (answer n T) cells [] []

-- the call was not refused before the run
pub record Admitted (high : Bool) (n : ℕ) (T : List Edge) (cells numbers bytes : List ℕ) : Type 0 where
  pub lent : Lent high n (length T) numbers bytes
  pub valid : Each (Valid n) T
  pub size : length cells ≡ n

-- the graph is made, and no vertex lies on a crowd of edges
pub record GraphAsks (high : Bool) (n : ℕ) (T : List Edge) (cells numbers bytes : List ℕ) : Type 0 where
  pub admitted : Admitted high n T cells numbers bytes
  pub uncrowded : crowded_vertex n T ≡ n
  pub graph : graph_in n numbers bytes ≡ build 0 T (empty n)

-- what lies behind the room is as it was
pub record Past (high : Bool) (n : ℕ) (T : List Edge) (numbers bytes numbers' bytes' : List ℕ) : Type 0 where
  pub long : length numbers' ≡ length numbers
  pub long_b : length bytes' ≡ length bytes
  pub rest : drop (numbers_room high n (length T)) numbers' ≡ drop (numbers_room high n (length T)) numbers
  pub rest_b : drop (bytes_room high n (length T)) bytes' ≡ drop (bytes_room high n (length T)) bytes
