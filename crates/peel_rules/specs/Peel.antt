-- Peeling, on lists: the state holds the edges that remain themselves, in their first order, and no edge numbers.
use Rattle.std.specs.Prelude.{◌≡◌, List, [], ◌∷◌, cond, ℕ, zero, suc, length, get_or, set, replicate, eqb, leb}
use Rattle.std.proofs.Math.Option.{Option, none, some}
use Rattle.std.specs.Int.Bits.{bit_xor}
use Rattle.peeling.specs.declared.numbers.Edge.{Edge}
use Rattle.peel_rules.specs.Edges.{degree, edge_at, without, Side, side_of, pivot, first, second}

-- an edge and the side from which it was peeled
pub record Peeled : Type 0 where
  pub edge : Edge
  pub side : Side

-- ---- the run

-- the edges that remain; the stack, its top first; what was peeled, the last first
pub record State : Type 0 where
  pub left : List Edge
  pub stack : List ℕ
  pub peeled : List Peeled

-- a vertex is pushed if its degree is 2
unfoldable pub push : List Edge → ℕ → List ℕ → List ℕ
push es w st = cond (eqb (degree w es) 2) (w ∷ st) st

-- v was popped, and its edge was looked for
unfoldable pub popped : ℕ → List Edge → List ℕ → List Peeled → Option Edge → State
popped v es st ps none = record { left = es; stack = st; peeled = ps }
popped v es st ps (some e) = record {
  left = without v es;
  stack = push es (second (side_of v e) e) (push es (first (side_of v e) e) st);
  peeled = record { edge = e; side = side_of v e } ∷ ps;
}

unfoldable pub pop : List Edge → List ℕ → List Peeled → State
pop es [] ps = record { left = es; stack = []; peeled = ps }
pop es (v ∷ st) ps = popped v es st ps (edge_at v es)

unfoldable pub step : State → State
step s = pop s.left s.stack s.peeled

unfoldable pub run : ℕ → State → State
run zero s = s
run (suc k) s = run k (step s)

-- the vertices below n of degree 1, the highest first
unfoldable pub ones : ℕ → List Edge → List ℕ
ones zero es = []
ones (suc v) es = cond (eqb (degree v es) 1) (v ∷ ones v es) (ones v es)

unfoldable pub start : ℕ → List Edge → State
start n es = record { left = es; stack = ones n es; peeled = [] }

-- n pops are enough (peel_empties): each pop lowers stack length plus vertices of degree 2 or more
unfoldable pub peel : ℕ → List Edge → State
peel n es = run n (start n es)

-- ---- filling

-- the XOR of the three cells
unfoldable pub edge_xor : List ℕ → Edge → ℕ
edge_xor x e = bit_xor (get_or x e.a.0 0) (bit_xor (get_or x e.b.0 0) (get_or x e.c.0 0))

-- the edge's equation
abbrev pub Met : List ℕ → Edge → Type 0
Met x e = edge_xor x e ≡ e.value

unfoldable pub fill_one : Peeled → List ℕ → List ℕ
fill_one p x = set x (pivot p.side p.edge)
    (bit_xor p.edge.value (bit_xor (get_or x (first p.side p.edge) 0) (get_or x (second p.side p.edge) 0)))

-- from the edge peeled last to the first
unfoldable pub fill : List Peeled → List ℕ → List ℕ
fill [] x = x
fill (p ∷ ps) x = fill ps (fill_one p x)

-- ---- the answer

pub data Outcome : Type 0 where
  solved : List ℕ → Outcome
  -- how many edges were peeled
  stuck : ℕ → Outcome

unfoldable pub verdict : ℕ → List Edge → List Peeled → Outcome
verdict n [] ps = solved (fill ps (replicate n 0))
verdict n (e ∷ es) ps = stuck (length ps)

unfoldable pub answer : ℕ → List Edge → Outcome
answer n es = verdict n (peel n es).left (peel n es).peeled

-- ---- crowds

-- the degree that a byte has no room for
abbrev pub crowd : ℕ
crowd = 64

-- the lowest vertex from v on, among k, that lies on a crowd of edges, or v + k
unfoldable pub crowded_from : ℕ → ℕ → List Edge → ℕ
crowded_from v zero es = v
crowded_from v (suc k) es = cond (leb crowd (degree v es)) v (crowded_from (suc v) k es)

-- the lowest vertex below n that lies on a crowd of edges, or n
unfoldable pub crowded_vertex : ℕ → List Edge → ℕ
crowded_vertex n es = crowded_from 0 n es
