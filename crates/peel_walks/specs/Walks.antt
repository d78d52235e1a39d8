-- What the loops over the table ask, and what they leave.
use Rattle.std.specs.Prelude.{◌≡◌, List, Bool, ℕ, ◌≤◌, ◌<◌, length, get_or, drop}
use Rattle.gf2.specs.Equation.{Each}
use Rattle.answers.specs.Sizes.{max_variables, max_equations}
use Rattle.peeling.specs.declared.numbers.Edge.{Edge}
use Rattle.peel_rules.specs.Edges.{Valid}
use Rattle.peel_rules.specs.Peel.{peel, crowded_vertex}
use Rattle.peel_rules.specs.Machine.{no_edge, build, empty, mones}
use Rattle.peel_turns.specs.declared.visiting.Heads.{Heads}
use Rattle.peel_turns.specs.Steps.{next_of}
use Rattle.peel_steps.specs.Pictures.{graph_in, stack_in, number_at, peeled_in}
use Rattle.peel_gates.specs.Rooms.{numbers_room, bytes_room}
use Rattle.peel_steps.specs.Pictures.{Reads}
use Rattle.peel_gates.specs.Rooms.{Lent}

-- the edges' vertices lie in both areas
pub record Room (T : List Edge) (numbers bytes : List ℕ) : Type 0 where
  pub valid : Each (Valid (length numbers)) T
  pub valid_b : Each (Valid (length bytes)) T
  pub small : length T ≤ max_equations

-- the graph of all edges, and the stack of the vertices of degree 1
pub record PeelStarts (high : Bool) (n : ℕ) (T : List Edge) (numbers bytes : List ℕ) (first : Heads) : Type 0 where
  pub lent : Lent high n (length T) numbers bytes
  pub valid : Each (Valid n) T
  pub uncrowded : crowded_vertex n T ≡ n
  pub graph : graph_in n numbers bytes ≡ build 0 T (empty n)
  pub stack : stack_in n first.stack numbers ≡ mones n (build 0 T (empty n))
  pub none : first.peeled ≡ 0

-- the same, and which edge is read first
pub record PeelsFrom (high : Bool) (n : ℕ) (T : List Edge) (numbers bytes : List ℕ) (first : Heads) : Type 0 where
  pub lent : Lent high n (length T) numbers bytes
  pub valid : Each (Valid n) T
  pub uncrowded : crowded_vertex n T ≡ n
  pub graph : graph_in n numbers bytes ≡ build 0 T (empty n)
  pub stack : stack_in n first.stack numbers ≡ mones n (build 0 T (empty n))
  pub none : first.peeled ≡ 0
  pub next : first.next ≡ next_of n first.stack numbers bytes

-- the record of the first `count` peeled edges can be read, and leads to edges over `cells` vertices
pub record Fillable (high : Bool) (n : ℕ) (T : List Edge) (count cells : ℕ) (numbers bytes : List ℕ) : Type 0 where
  pub small : n ≤ max_variables
  pub few : count ≤ max_equations
  pub reads : (k : ℕ) → k < count → Reads high n k numbers bytes
  pub numbered : (k : ℕ) → k < count → number_at high n k numbers < length T
  pub valid : (k : ℕ) → k < count → Valid cells (get_or T (number_at high n k numbers) no_edge)

-- the record holds what the rules peel
pub record PeelEnds (high : Bool) (n : ℕ) (T : List Edge) (numbers bytes numbers' bytes' : List ℕ) (count : ℕ) : Type 0 where
  pub long : length numbers' ≡ length numbers
  pub long_b : length bytes' ≡ length bytes
  pub rest : drop (numbers_room high n (length T)) numbers' ≡ drop (numbers_room high n (length T)) numbers
  pub rest_b : drop (bytes_room high n (length T)) bytes' ≡ drop (bytes_room high n (length T)) bytes
  pub peeled : peeled_in high T n count numbers' bytes' ≡ (peel n T).peeled
  pub counts : count ≡ length (peel n T).peeled
  pub fillable : Fillable high n T count n numbers' bytes'
