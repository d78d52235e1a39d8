-- Edges of three vertices: which vertices they touch, how many touch a vertex, and what is left without one.
use Rattle.std.specs.Prelude.{List, [], ◌∷◌, Bool, true, false, cond, not, ◌||◌, ◌&&◌, ◌≢◌, ℕ, suc, ◌<◌, eqb, ltb}
use Rattle.std.proofs.Math.Option.{Option, none, some}
use Rattle.peeling.specs.declared.numbers.Edge.{Edge}

abbrev pub edge : ℕ → ℕ → ℕ → ℕ → Edge
edge a b c value = record { a = record { 0 = a }; b = record { 0 = b }; c = record { 0 = c }; value = value }

-- an edge as it may be lent, over n vertices
pub record Valid (n : ℕ) (e : Edge) : Type 0 where
  pub a< : e.a.0 < n
  pub b< : e.b.0 < n
  pub c< : e.c.0 < n
  pub a≢b : e.a.0 ≢ e.b.0
  pub a≢c : e.a.0 ≢ e.c.0
  pub b≢c : e.b.0 ≢ e.c.0

-- the same as a test
abbrev pub is_valid : ℕ → Edge → Bool
is_valid n e =
    (ltb e.a.0 n && (ltb e.b.0 n && ltb e.c.0 n))
    && (not (eqb e.a.0 e.b.0) && (not (eqb e.a.0 e.c.0) && not (eqb e.b.0 e.c.0)))

-- the lowest edge that is not valid, or the number of edges
unfoldable pub bad_edge : ℕ → List Edge → ℕ
bad_edge n [] = 0
bad_edge n (e ∷ es) = cond (is_valid n e) (suc (bad_edge n es)) 0

-- ---- degrees

unfoldable pub touches : ℕ → Edge → Bool
touches v e = eqb v e.a.0 || (eqb v e.b.0 || eqb v e.c.0)

-- one more if the test passes
abbrev pub bump : Bool → ℕ → ℕ
bump true k = suc k
bump false k = k

-- how many of the edges touch the vertex
unfoldable pub degree : ℕ → List Edge → ℕ
degree v [] = 0
degree v (e ∷ es) = bump (touches v e) (degree v es)

-- the first edge that touches the vertex
unfoldable pub edge_at : ℕ → List Edge → Option Edge
edge_at v [] = none
edge_at v (e ∷ es) = cond (touches v e) (some e) (edge_at v es)

-- the edges without that one
unfoldable pub without : ℕ → List Edge → List Edge
without v [] = []
without v (e ∷ es) = cond (touches v e) es (e ∷ without v es)

-- ---- sides

pub data Side : Type 0 where
  side0 side1 side2 : Side

unfoldable pub side_of : ℕ → Edge → Side
side_of v e = cond (eqb v e.a.0) side0 (cond (eqb v e.b.0) side1 side2)

-- the vertex at a side
unfoldable pub pivot : Side → Edge → ℕ
pivot side0 e = e.a.0
pivot side1 e = e.b.0
pivot side2 e = e.c.0

-- the other two, in the order of their sides
unfoldable pub first : Side → Edge → ℕ
first side0 e = e.b.0
first side1 e = e.a.0
first side2 e = e.a.0

unfoldable pub second : Side → Edge → ℕ
second side0 e = e.c.0
second side1 e = e.c.0
second side2 e = e.b.0
