-- Edges that are alive, and what counting them comes to.
use Rattle.std.specs.Prelude.{◌≡◌, List, Bool, true, false, ◌||◌, ℕ, ◌+◌, eqb, length, get_or, set}
use Rattle.peeling.specs.declared.numbers.Edge.{Edge}
use Rattle.peel_rules.specs.Edges.{edge, degree}
use Rattle.peel_rules.specs.Core.{Tight, pick, Within, Core}

-- one of the edge's vertices lies on one of the edges only
unfoldable pub hangs_by : Edge → List Edge → Bool
hangs_by e es = eqb (degree e.a.0 es) 1 || (eqb (degree e.b.0 es) 1 || eqb (degree e.c.0 es) 1)

abbrev pub edge_no : ℕ → List Edge → Edge
edge_no i es = get_or es i (edge 0 0 0 0)

-- edge i stays, or is taken away because it hangs
pub data OneStrip (es : List Edge) (i : ℕ) (before : List Bool) : List Bool → Bool → Type 0 where
  dead : get_or before i false ≡ false → OneStrip es i before before false
  stays : hangs_by (edge_no i es) (pick before es) ≡ false → OneStrip es i before before false
  goes : get_or before i false ≡ true → hangs_by (edge_no i es) (pick before es) ≡ true → OneStrip es i before (set before i false) true

-- edges were taken away, none of them from a set in which every vertex touched is touched twice; if none were, the rest is such a set
pub record Strips (es : List Edge) (before after : List Bool) (gone : ℕ) : Type 0 where
  pub fewer : length (pick before es) ≡ gone + length (pick after es)
  pub kept : (bs : List Bool) → Tight (pick bs es) → Within bs before → Within bs after
  pub ended : gone ≡ 0 → Tight (pick after es)

-- there is a core, and so many edges lie outside it; by core_unique there is one such number
pub record OutsideCore (es : List Edge) (outside : ℕ) : Type 0 where
  pub core : List Bool
  pub is_core : Core es core
  pub count : outside + length (pick core es) ≡ length es
