-- The edges of rows and their table: as many, in their order.
use mathlib.Core.Path.{◌≡◌, refl, sym, ap, ◌∙◌}
use mathlib.Core.List.{List, [], ◌∷◌, ◌++◌, append_assoc}
use Prim.Native.Nat.{suc, ◌-◌, ◌<◌}
use native.Mathlib.Omega.{arith}
use lib.ListN.{length, take, set, replicate, length-append}
use lib.Seq.{take_at, set_at}
use Rattle.gf2.specs.Equation.{Equation}
use Rattle.peeling.specs.declared.numbers.Edge.{Edge}
use Rattle.peel_rules.specs.Machine.{no_edge}
use Rattle.link_form.specs.Lent.{most_rows}
use Rattle.link_edges.specs.Edges.{edge_of, edges_of, table_of}

pub length_edges : (rows : List Equation) → length (edges_of rows) ≡ length rows
unfolding edges_of
length_edges [] = refl
length_edges (r ∷ rows) = ap suc (length_edges rows)

pub edges_append : (rows more : List Equation) → edges_of (rows ++ more) ≡ edges_of rows ++ edges_of more
unfolding edges_of
edges_append [] more = refl
edges_append (r ∷ rows) more = ap (λ (es : List Edge). edge_of r ∷ es) (edges_append rows more)

-- ---- the table

-- the rows' edges stand first
pub table_edges : (rows : List Equation) → take (length rows) (table_of rows) ≡ edges_of rows
unfolding table_of
table_edges rows = take_at (edges_of rows) (replicate (most_rows - length rows) no_edge) (length rows) (length_edges rows)

-- one edge more
pub table_more : (rows : List Equation) (r : Equation) → length rows < most_rows → set (table_of rows) (length rows) (edge_of r) ≡ table_of (rows ++ (r ∷ []))
unfolding table_of edges_of
table_more rows r h =
    let left : List Edge = replicate (most_rows - length (rows ++ (r ∷ []))) no_edge in
    let s : most_rows - length rows ≡ suc (most_rows - length (rows ++ (r ∷ []))) = simp length-append (omega arith) in
    rw s (set_at (edges_of rows) no_edge left (edge_of r) (length rows) (length_edges rows))
    ∙ sym (ap (λ (es : List Edge). es ++ left) (edges_append rows (r ∷ [])) ∙ append_assoc (edges_of rows) (edge_of r ∷ []) left)
