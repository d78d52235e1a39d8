-- The peelers as the code runs them: the graph of XORs and bytes, and stacks of vertices or of edge numbers and sides.
use Rattle.std.specs.Prelude.{List, [], ◌∷◌, Bool, true, false, cond, ℕ, zero, suc, length, get_or, replicate, eqb, ltb}
use Rattle.peeling.specs.declared.numbers.Edge.{Edge}
use Rattle.peeling.specs.Graph.{Graph, degree_of, sides_of, add, overflows, remove, clear}
use Rattle.peel_rules.specs.Edges.{edge, Side, side0, side1, side2, first, second}
use Rattle.peel_rules.specs.Peel.{Outcome, solved, stuck, fill_one}

abbrev pub no_edge : Edge
no_edge = edge 0 0 0 0

unfoldable pub side_no : Side → ℕ
side_no side0 = 0
side_no side1 = 1
side_no side2 = 2

unfoldable pub side_from : ℕ → Side
side_from zero = side0
side_from (suc zero) = side1
side_from (suc (suc k)) = side2

-- the sides of the other two
unfoldable pub first_side : Side → Side
first_side side0 = side1
first_side side1 = side0
first_side side2 = side0

unfoldable pub second_side : Side → Side
second_side side0 = side2
second_side side1 = side2
second_side side2 = side1

-- what v's record says of the side
unfoldable pub side_at : Graph → ℕ → Side
side_at g v = side_from (sides_of g v)

-- ---- making the graph

unfoldable pub add_edge : Graph → ℕ → Edge → Graph
add_edge g i e = add (add (add g e.a.0 i 0) e.b.0 i 1) e.c.0 i 2

-- the edges from number i on
unfoldable pub build : ℕ → List Edge → Graph → Graph
build i [] g = g
build i (e ∷ es) g = build (suc i) es (add_edge g i e)

unfoldable pub empty : ℕ → Graph
empty n = record { edges = replicate n 0; degrees = replicate n 0 }

-- the lowest vertex so far whose byte had no room: v too, if it has none now
unfoldable pub noted : Graph → ℕ → ℕ → ℕ
noted g v low = cond (overflows g v) (cond (ltb v low) v low) low

unfoldable pub noted_edge : Graph → ℕ → Edge → ℕ → ℕ
noted_edge g i e low =
    noted (add (add g e.a.0 i 0) e.b.0 i 1) e.c.0 (noted (add g e.a.0 i 0) e.b.0 (noted g e.a.0 low))

unfoldable pub crowd_of : ℕ → List Edge → Graph → ℕ → ℕ
crowd_of i [] g low = low
crowd_of i (e ∷ es) g low = crowd_of (suc i) es (add_edge g i e) (noted_edge g i e low)

-- ---- taking an edge off

unfoldable pub mpush : Graph → ℕ → List ℕ → List ℕ
mpush g w st = cond (eqb (degree_of g w) 2) (w ∷ st) st

-- v's degree is zeroed, and edge i is taken off the two others
unfoldable pub graph_after : Graph → ℕ → ℕ → Side → Edge → Graph
graph_after g v i s e = remove (remove (clear g v) (first s e) i (side_no (first_side s))) (second s e) i (side_no (second_side s))

-- each of the others is pushed just before
unfoldable pub stack_after : Graph → ℕ → List ℕ → ℕ → Side → Edge → List ℕ
stack_after g v st i s e = mpush (remove (clear g v) (first s e) i (side_no (first_side s))) (second s e) (mpush (clear g v) (first s e) st)

unfoldable pub mones : ℕ → Graph → List ℕ
mones zero g = []
mones (suc v) g = cond (eqb (degree_of g v) 1) (v ∷ mones v g) (mones v g)

-- ---- the low-memory peeler

-- the lower stack, its top first, and the upper stack of the vertices from which edges were peeled, the last first
pub record Machine : Type 0 where
  pub graph : Graph
  pub lower : List ℕ
  pub upper : List ℕ

unfoldable pub take_off : Graph → ℕ → List ℕ → List ℕ → ℕ → Side → Edge → Machine
take_off g v st up i s e = record { graph = graph_after g v i s e; lower = stack_after g v st i s e; upper = v ∷ up }

unfoldable pub mpopped : List Edge → Graph → ℕ → List ℕ → List ℕ → Bool → Machine
mpopped T g v st up true = record { graph = g; lower = st; upper = up }
mpopped T g v st up false = take_off g v st up (get_or g.edges v 0) (side_at g v) (get_or T (get_or g.edges v 0) no_edge)

unfoldable pub mpop : List Edge → Graph → List ℕ → List ℕ → Machine
mpop T g [] up = record { graph = g; lower = []; upper = up }
mpop T g (v ∷ st) up = mpopped T g v st up (eqb (degree_of g v) 0)

unfoldable pub mstep : List Edge → Machine → Machine
mstep T m = mpop T m.graph m.lower m.upper

unfoldable pub mrun : List Edge → ℕ → Machine → Machine
mrun T zero m = m
mrun T (suc k) m = mrun T k (mstep T m)

unfoldable pub mstart : ℕ → List Edge → Machine
mstart n T = let g = build 0 T (empty n) in record { graph = g; lower = mones n g; upper = [] }

-- the filling reads the vertices' records again
unfoldable pub assign : List Edge → Graph → List ℕ → List ℕ → List ℕ
assign T g [] x = x
assign T g (v ∷ vs) x = assign T g vs (fill_one (record { edge = get_or T (get_or g.edges v 0) no_edge; side = side_at g v }) x)

unfoldable pub mverdict : ℕ → List Edge → Machine → Outcome
mverdict n T m = cond (eqb (length m.upper) (length T)) (solved (assign T m.graph m.upper (replicate n 0))) (stuck (length m.upper))

unfoldable pub manswer : ℕ → List Edge → Outcome
manswer n T = mverdict n T (mrun T n (mstart n T))

-- ---- the high-memory peeler

-- the stack, its top first, and the numbers and sides of the peeled edges, the last first
pub record High : Type 0 where
  pub graph : Graph
  pub stack : List ℕ
  pub numbers : List ℕ
  pub sides : List ℕ

unfoldable pub hpopped : List Edge → Graph → ℕ → List ℕ → List ℕ → List ℕ → Bool → High
hpopped T g v st is ts true = record { graph = g; stack = st; numbers = is; sides = ts }
hpopped T g v st is ts false = record {
  graph = graph_after g v (get_or g.edges v 0) (side_at g v) (get_or T (get_or g.edges v 0) no_edge);
  stack = stack_after g v st (get_or g.edges v 0) (side_at g v) (get_or T (get_or g.edges v 0) no_edge);
  numbers = get_or g.edges v 0 ∷ is;
  sides = sides_of g v ∷ ts;
}

unfoldable pub hpop : List Edge → Graph → List ℕ → List ℕ → List ℕ → High
hpop T g [] is ts = record { graph = g; stack = []; numbers = is; sides = ts }
hpop T g (v ∷ st) is ts = hpopped T g v st is ts (eqb (degree_of g v) 0)

unfoldable pub hstep : List Edge → High → High
hstep T h = hpop T h.graph h.stack h.numbers h.sides

unfoldable pub hrun : List Edge → ℕ → High → High
hrun T zero h = h
hrun T (suc k) h = hrun T k (hstep T h)

unfoldable pub hstart : ℕ → List Edge → High
hstart n T = let g = build 0 T (empty n) in record { graph = g; stack = mones n g; numbers = []; sides = [] }

-- the filling reads the numbers and sides that were kept aside
unfoldable pub hassign : List Edge → List ℕ → List ℕ → List ℕ → List ℕ
hassign T [] ts x = x
hassign T (i ∷ is) [] x = x
hassign T (i ∷ is) (t ∷ ts) x = hassign T is ts (fill_one (record { edge = get_or T i no_edge; side = side_from t }) x)

unfoldable pub hverdict : ℕ → List Edge → High → Outcome
hverdict n T h = cond (eqb (length h.numbers) (length T)) (solved (hassign T h.numbers h.sides (replicate n 0))) (stuck (length h.numbers))

unfoldable pub hanswer : ℕ → List Edge → Outcome
hanswer n T = hverdict n T (hrun T n (hstart n T))
