-- The rows of a file of edges as a table, and the peeler's call on it.
use Rattle.std.specs.Prelude.{List, [], ◌∷◌, ◌++◌, ℕ, ◌-◌, length, get_or, replicate}
use Rattle.gf2.specs.Equation.{Equation}
use Rattle.peeling.specs.declared.numbers.Edge.{Edge}
use Rattle.peel_rules.specs.Edges.{edge}
use Rattle.peel_rules.specs.Machine.{no_edge}
use Rattle.peel_rules.specs.Calls.{PeelCall, peel_low_call}
use Rattle.areas.specs.Stretch.{zeros}
use Rattle.link_form.specs.Lent.{most_rows, lent_numbers, lent_bytes}

-- a row's three variables, at sides 0, 1 and 2, and its constant
unfoldable pub edge_of : Equation → Edge
edge_of r = edge (get_or r.vars 0 0) (get_or r.vars 1 0) (get_or r.vars 2 0) r.c

unfoldable pub edges_of : List Equation → List Edge
edges_of [] = []
edges_of (r ∷ rows) = edge_of r ∷ edges_of rows

-- the table that a program keeps: the edges, and no edge behind them
unfoldable pub table_of : List Equation → List Edge
table_of rows = edges_of rows ++ replicate (most_rows - length rows) no_edge

-- the low-memory peeler on work areas that are zero
unfoldable pub lent_call : ℕ → List Edge → List ℕ → PeelCall
lent_call n es solution = peel_low_call n es solution (zeros lent_numbers) (zeros lent_bytes)

abbrev pub edges_call : ℕ → List Equation → List ℕ → PeelCall
edges_call n rows solution = lent_call n (edges_of rows) solution
