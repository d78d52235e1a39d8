-- What the graph's calls answer and leave, outside their domain too: there the state stays.
use Rattle.std.specs.Prelude.{◌≡◌, Bool, ◌&&◌, ◌||◌, ℕ, Result, Ok, Err, get_or, ltb, leb}
use Rattle.answers.specs.Calls.{pick}
use Rattle.answers.specs.Numbers.{number_of, place_of}
use Rattle.answers.specs.declared.refusal.Refusal.{Refusal}
use Rattle.answers.specs.Answers.{Answer, Solved, OutsideDomain, answer_of, refusal_of}
use Rattle.peeling.specs.declared.numbers.EdgeNo.{EdgeNo}
use Rattle.peeling.specs.declared.graph.XorGraph.{XorGraph}
use Rattle.peeling.specs.declared.graph.VertexRecord.{VertexRecord}
use Rattle.peeling.specs.declared.graph.EdgeAndSide as code
use Rattle.peeling.specs.Graph.{Graph, holds_vertex, degree_of, sides_of, add, overflows, remove, clear}

abbrev pub empty_vertex : VertexRecord
empty_vertex = record { edge = record { 0 = 0 }; byte = 0 }

-- ---- what the calls come to, and what the code hands back comes to

-- an addition's answer, and the graph's flag after it
pub record Added : Type 0 where
  pub answer : Answer
  pub graph : XorGraph

-- the edge and the side that are read, 0 and 0 with a refusal
pub record EdgeAndSide : Type 0 where
  pub answer : Answer
  pub edge : EdgeNo
  pub side : ℕ

-- the degree that is read, 0 with a refusal
pub record DegreeRead : Type 0 where
  pub answer : Answer
  pub degree : ℕ

abbrev pub added_of : {A : Type 0} → Result A Refusal → XorGraph → Added
added_of r g = record { answer = answer_of r; graph = g }

abbrev pub edge_and_side_of : Result code.EdgeAndSide Refusal → EdgeAndSide
edge_and_side_of (Ok x) = record { answer = Solved; edge = x.edge; side = x.side }
edge_and_side_of (Err r) = record { answer = refusal_of r; edge = record { 0 = 0 }; side = 0 }

abbrev pub degree_read_of : Result ℕ Refusal → DegreeRead
degree_read_of (Ok d) = record { answer = Solved; degree = d }
degree_read_of (Err r) = record { answer = refusal_of r; degree = 0 }

pub record AddCall : Type 0 where
  pub result : Added
  pub graph : Graph

pub record GraphCall : Type 0 where
  pub answer : Answer
  pub graph : Graph

-- ---- the domains, and the numbers

-- a vertex of the graph, and a side
abbrev pub may_add : Graph → ℕ → ℕ → Bool
may_add g v side = holds_vertex g v && ltb side 3

-- .. and a degree that is not 0
abbrev pub may_remove : Graph → ℕ → ℕ → Bool
may_remove g v side = holds_vertex g v && (ltb side 3 && leb 4 (get_or g.degrees v 0))

-- a vertex on one edge at the most
abbrev pub may_read : Graph → ℕ → Bool
may_read g v = holds_vertex g v && ltb (degree_of g v) 2

-- 0 inside the domain, 10 outside it, with place 0
pub record DomainAnswer (inside : Bool) (answer : Answer) : Type 0 where
  pub number : number_of answer ≡ pick inside 0 10
  pub place : place_of answer ≡ 0

-- ---- the calls

-- outside the domain
abbrev pub not_added : Bool → Added
not_added overflow = record { answer = OutsideDomain; graph = record { overflow = overflow } }

abbrev pub no_edge_and_side : EdgeAndSide
no_edge_and_side = record { answer = OutsideDomain; edge = record { 0 = 0 }; side = 0 }

abbrev pub no_degree : DegreeRead
no_degree = record { answer = OutsideDomain; degree = 0 }

-- the flag, once set, stays
abbrev pub add_call : Graph → Bool → ℕ → ℕ → ℕ → AddCall
add_call g overflow v i side =
    pick (may_add g v side)
    (record { result = record { answer = Solved; graph = record { overflow = overflow || overflows g v } }; graph = add g v i side })
    (record { result = not_added overflow; graph = g })

abbrev pub remove_call : Graph → ℕ → ℕ → ℕ → GraphCall
remove_call g v i side =
    pick (may_remove g v side) (record { answer = Solved; graph = remove g v i side }) (record { answer = OutsideDomain; graph = g })

abbrev pub zero_call : Graph → ℕ → GraphCall
zero_call g v = pick (holds_vertex g v) (record { answer = Solved; graph = clear g v }) (record { answer = OutsideDomain; graph = g })

abbrev pub edge_and_side_call : Graph → ℕ → EdgeAndSide
edge_and_side_call g v =
    pick (may_read g v)
    (record { answer = Solved; edge = record { 0 = get_or g.edges v 0 }; side = sides_of g v })
    no_edge_and_side

abbrev pub degree_call : Graph → ℕ → DegreeRead
degree_call g v = pick (holds_vertex g v) (record { answer = Solved; degree = degree_of g v }) no_degree
