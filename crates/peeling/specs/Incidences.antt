-- A graph after adds and removals, in any order: which incidences it has, and what a vertex holds of them.
use Rattle.std.specs.Prelude.{◌≡◌, List, [], ◌∷◌, ◌++◌, Bool, false, cond, ◌||◌, ℕ, suc, ◌+◌, ◌*◌, ◌<◌, get_or, eqb}
use Rattle.std.specs.Int.Bits.{bit_xor}
use Rattle.areas.specs.Stretch.{zeros}
use Rattle.peeling.specs.Graph.{Graph, graph_of}
use Rattle.peeling.specs.GraphCalls.{add_call, remove_call}

-- an edge at one of its vertices
pub record Incidence : Type 0 where
  pub vertex : ℕ
  pub edge : ℕ
  pub side : ℕ

abbrev pub incidence : ℕ → ℕ → ℕ → Incidence
incidence v i t = record { vertex = v; edge = i; side = t }

-- how many are v's
unfoldable pub degree_in : ℕ → List Incidence → ℕ
degree_in v [] = 0
degree_in v (j ∷ js) = cond (eqb v j.vertex) (suc (degree_in v js)) (degree_in v js)

-- the XOR of a number of each of v's
unfoldable pub xor_in : (Incidence → ℕ) → ℕ → List Incidence → ℕ
xor_in f v [] = 0
xor_in f v (j ∷ js) = cond (eqb v j.vertex) (bit_xor (f j) (xor_in f v js)) (xor_in f v js)

-- n vertices after adds and removals by the graph's calls: the incidences, the graph, its flag, and whether some vertex had a 64th
pub data Changed (n : ℕ) : List Incidence → Graph → Bool → Bool → Type 0 where
  fresh : Changed n [] (graph_of (zeros n) (zeros n)) false false
  added : {js : List Incidence} {g : Graph} {flag crowd : Bool} (v i t : ℕ) → v < n → t < 3 → Changed n js g flag crowd
      → Changed n (incidence v i t ∷ js) (add_call g flag v i t).graph (add_call g flag v i t).result.graph.overflow
      (crowd || eqb (degree_in v js) 63)
  -- one of the incidences that are there
  removed : {g : Graph} {flag crowd : Bool} (before after : List Incidence) (v i t : ℕ)
      → Changed n (before ++ incidence v i t ∷ after) g flag crowd
      → Changed n (before ++ after) (remove_call g v i t).graph flag crowd

-- the XOR of its edges' numbers; its degree times 4 plus the XOR of its sides
pub record VertexHolds (js : List Incidence) (g : Graph) (v : ℕ) : Type 0 where
  pub edge : get_or g.edges v 0 ≡ xor_in (λ j. j.edge) v js
  pub byte : get_or g.degrees v 0 ≡ degree_in v js * 4 + xor_in (λ j. j.side) v js
