-- What the peelers' steps ask of the areas, and what they make of them.
use Rattle.std.specs.Prelude.{◌≡◌, List, Bool, true, false, cond, ℕ, ◌+◌, ◌-◌, ◌/◌, ◌%◌, ◌≤◌, ◌<◌, length, get_or, drop, eqb}
use Rattle.answers.specs.Sizes.{max_variables}
use Rattle.peeling.specs.declared.numbers.Edge.{Edge}
use Rattle.peeling.specs.Graph.{remove, clear}
use Rattle.peel_rules.specs.Edges.{Valid, first, second}
use Rattle.peel_rules.specs.Machine.{side_from, side_no, first_side, no_edge, mpush, graph_after, stack_after, mones}
use Rattle.peel_turns.specs.declared.visiting.Heads.{Heads}
use Rattle.peel_steps.specs.Pictures.{graph_in, stack_in, kept_numbers, kept_bytes}

-- the areas have room for the graph and the stack
pub record Holds (n : ℕ) (numbers bytes : List ℕ) : Type 0 where
  pub room : n + n ≤ length numbers
  pub room_b : n ≤ length bytes
  pub small : n ≤ max_variables

-- the vertices of degree 1 are on the stack
pub record Preloaded (n : ℕ) (numbers bytes numbers' : List ℕ) (top : ℕ) : Type 0 where
  pub long : length numbers' ≡ length numbers
  pub graph : graph_in n numbers' bytes ≡ graph_in n numbers bytes
  pub stack : stack_in n top numbers' ≡ mones n (graph_in n numbers bytes)
  pub rest : drop (n + n) numbers' ≡ drop (n + n) numbers
  pub within : top ≤ n

-- ---- one of the other two vertices

pub record Visits (n top : ℕ) (numbers bytes : List ℕ) (w : ℕ) : Type 0 where
  pub holds : Holds n numbers bytes
  pub below : w < n
  pub four : 4 ≤ get_or bytes w 0
  pub top< : top < n

pub record Visited (n top : ℕ) (numbers bytes numbers' bytes' : List ℕ) (w i t r : ℕ) : Type 0 where
  pub long : length numbers' ≡ length numbers
  pub long_b : length bytes' ≡ length bytes
  pub graph : graph_in n numbers' bytes' ≡ remove (graph_in n numbers bytes) w i t
  pub stack : stack_in n r numbers' ≡ mpush (graph_in n numbers bytes) w (stack_in n top numbers)
  pub rest : drop (n + r) numbers' ≡ drop (n + r) numbers
  pub rest_b : drop n bytes' ≡ drop n bytes
  pub rises : top ≤ r

-- ---- the edge of vertex v

pub record TakesOff (n top : ℕ) (numbers bytes : List ℕ) (v i t : ℕ) (e : Edge) : Type 0 where
  pub holds : Holds n numbers bytes
  pub v< : v < n
  pub valid : Valid n e
  pub first_4 : 4 ≤ get_or (clear (graph_in n numbers bytes) v).degrees (first (side_from t) e) 0
  pub second_4 : 4 ≤ get_or (remove (clear (graph_in n numbers bytes) v) (first (side_from t) e) i (side_no (first_side (side_from t)))).degrees (second (side_from t) e) 0
  pub fits : length (stack_after (graph_in n numbers bytes) v (stack_in n top numbers) i (side_from t) e) < n

pub record TakenOff (n top : ℕ) (numbers bytes numbers' bytes' : List ℕ) (v i t : ℕ) (e : Edge) (r : ℕ) : Type 0 where
  pub long : length numbers' ≡ length numbers
  pub long_b : length bytes' ≡ length bytes
  pub graph : graph_in n numbers' bytes' ≡ graph_after (graph_in n numbers bytes) v i (side_from t) e
  pub stack : stack_in n r numbers' ≡ stack_after (graph_in n numbers bytes) v (stack_in n top numbers) i (side_from t) e
  pub rest : drop (n + r) numbers' ≡ drop (n + r) numbers
  pub rest_b : drop n bytes' ≡ drop n bytes

-- ---- a turn of the peeling

-- the record of peeled edges has room for one more
abbrev pub Keeps : Bool → ℕ → ℕ → List ℕ → List ℕ → Type 0
Keeps true n k numbers bytes = (n + n + k < length numbers) × (n + k < length bytes)
Keeps false n k numbers bytes = (k < n) × (n + n ≤ length numbers)

-- the vertex on top of the stack
abbrev pub top_of : ℕ → ℕ → List ℕ → ℕ
top_of n stack numbers = get_or numbers (n + (stack - 1)) 0

-- the edge to read for the vertex on top: where it has none, any will do
abbrev pub next_of : ℕ → ℕ → List ℕ → List ℕ → ℕ
next_of n stack numbers bytes =
    cond (eqb stack 0) 0 (cond (eqb (get_or bytes (top_of n stack numbers) 0 / 4) 0) 0 (get_or numbers (top_of n stack numbers) 0))

-- the vertex on top can be read
pub record Tops (n stack : ℕ) (numbers bytes : List ℕ) : Type 0 where
  pub holds : Holds n numbers bytes
  pub within : stack ≤ n
  pub top< : 0 < stack → top_of n stack numbers < n

-- what a vertex that has an edge asks
pub record Busy (high : Bool) (n : ℕ) (T : List Edge) (stack peeled : ℕ) (numbers bytes : List ℕ) (v i t : ℕ) : Type 0 where
  pub numbered : i < length T
  pub keeps : Keeps high n peeled numbers bytes
  pub takes : TakesOff n (stack - 1) (kept_numbers high n peeled v i numbers) (kept_bytes high n peeled t bytes) v i t (get_or T i no_edge)

-- what a turn that reads the table asks
pub record Turns (high : Bool) (n : ℕ) (T : List Edge) (stack peeled : ℕ) (numbers bytes : List ℕ) : Type 0 where
  pub holds : Holds n numbers bytes
  pub some_left : 0 < stack
  pub within : stack ≤ n
  pub top< : top_of n stack numbers < n
  pub few : peeled < max_variables
  pub busy : 4 ≤ get_or bytes (top_of n stack numbers) 0
      → Busy high n T stack peeled numbers bytes (top_of n stack numbers) (get_or numbers (top_of n stack numbers) 0) (get_or bytes (top_of n stack numbers) 0 % 4)

-- what it leaves
pub record Turned (high : Bool) (n : ℕ) (T : List Edge) (stack peeled : ℕ) (numbers bytes numbers' bytes' : List ℕ) (r : Heads) : Type 0 where
  pub long : length numbers' ≡ length numbers
  pub long_b : length bytes' ≡ length bytes
  pub skipped : get_or bytes (top_of n stack numbers) 0 < 4 → (numbers' ≡ numbers) × (bytes' ≡ bytes) × (r.stack ≡ stack - 1) × (r.peeled ≡ peeled)
  pub took : 4 ≤ get_or bytes (top_of n stack numbers) 0
      → TakenOff n (stack - 1) (kept_numbers high n peeled (top_of n stack numbers) (get_or numbers (top_of n stack numbers) 0) numbers)
      (kept_bytes high n peeled (get_or bytes (top_of n stack numbers) 0 % 4) bytes) numbers' bytes'
      (top_of n stack numbers) (get_or numbers (top_of n stack numbers) 0) (get_or bytes (top_of n stack numbers) 0 % 4)
      (get_or T (get_or numbers (top_of n stack numbers) 0) no_edge) r.stack
      × (r.peeled ≡ peeled + 1)
