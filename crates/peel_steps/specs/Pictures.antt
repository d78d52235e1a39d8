-- What the peelers' areas hold: the graph, then the stack, then the record of peeled edges.
use Rattle.std.specs.Prelude.{List, [], ◌∷◌, Bool, true, false, ℕ, zero, suc, ◌+◌, ◌-◌, ◌%◌, ◌≤◌, ◌<◌, length, get_or, set, take}
use Rattle.peeling.specs.declared.numbers.Edge.{Edge}
use Rattle.peeling.specs.Graph.{Graph, graph_of}
use Rattle.peel_rules.specs.Peel.{Peeled}
use Rattle.peel_rules.specs.Machine.{no_edge, side_from}

-- the graph stands in the first n cells of both areas
abbrev pub graph_in : ℕ → List ℕ → List ℕ → Graph
graph_in n numbers bytes = graph_of (take n numbers) (take n bytes)

-- the k cells from b on, the last first: a stack that grows upwards
unfoldable pub rising : ℕ → ℕ → List ℕ → List ℕ
rising b zero area = []
rising b (suc k) area = get_or area (b + k) 0 ∷ rising b k area

-- the k cells before e, the first first: a stack that grows downwards
unfoldable pub falling : ℕ → ℕ → List ℕ → List ℕ
falling e zero area = []
falling e (suc k) area = get_or area (e - suc k) 0 ∷ falling e k area

-- the stack of vertices to visit stands behind the graph
abbrev pub stack_in : ℕ → ℕ → List ℕ → List ℕ
stack_in n k numbers = rising n k numbers

-- ---- the record of peeled edges: low memory keeps the vertex, whose record is read again; high memory keeps the edge's number and side

abbrev pub kept_numbers : Bool → ℕ → ℕ → ℕ → ℕ → List ℕ → List ℕ
kept_numbers true n k v i numbers = set numbers (n + n + k) i
kept_numbers false n k v i numbers = set numbers (n + n - (k + 1)) v

abbrev pub kept_bytes : Bool → ℕ → ℕ → ℕ → List ℕ → List ℕ
kept_bytes true n k t bytes = set bytes (n + k) t
kept_bytes false n k t bytes = bytes

-- the number and the side of the k-th peeled edge
abbrev pub number_at : Bool → ℕ → ℕ → List ℕ → ℕ
number_at true n k numbers = get_or numbers (n + n + k) 0
number_at false n k numbers = get_or numbers (get_or numbers (n + n - (k + 1)) 0) 0

abbrev pub side_no_at : Bool → ℕ → ℕ → List ℕ → List ℕ → ℕ
side_no_at true n k numbers bytes = get_or bytes (n + k) 0
side_no_at false n k numbers bytes = get_or bytes (get_or numbers (n + n - (k + 1)) 0) 0 % 4

-- the first k peeled edges, the last first
unfoldable pub peeled_in : Bool → List Edge → ℕ → ℕ → List ℕ → List ℕ → List Peeled
peeled_in high T n zero numbers bytes = []
peeled_in high T n (suc k) numbers bytes =
    record { edge = get_or T (number_at high n k numbers) no_edge; side = side_from (side_no_at high n k numbers bytes) } ∷ peeled_in high T n k numbers bytes

-- ---- reading the record

-- the record of the vertex that was kept can be read
pub record Rereads (n k : ℕ) (numbers bytes : List ℕ) : Type 0 where
  pub k< : k < n
  pub room : n + n ≤ length numbers
  pub v_n : get_or numbers (n + n - (k + 1)) 0 < length numbers
  pub v_b : get_or numbers (n + n - (k + 1)) 0 < length bytes

-- the record of the k-th peeled edge can be read
abbrev pub Reads : Bool → ℕ → ℕ → List ℕ → List ℕ → Type 0
Reads true n k numbers bytes = (n + n + k < length numbers) × (n + k < length bytes)
Reads false n k numbers bytes = Rereads n k numbers bytes
