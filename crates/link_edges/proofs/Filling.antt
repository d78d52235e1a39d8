-- The table of a file's edges, filled from the first on.
use mathlib.Core.Path.{◌≡◌, refl, sym, ap, ap₂, ◌∙◌}
use mathlib.Core.List.{List}
use mathlib.Core.Option.{some}
use Prim.Native.Nat.{ℕ, ◌+◌, ◌-◌, ◌*◌, ◌≤◌, ◌<◌}
use native.Mathlib.Omega.{arith}
use lib.ListN.{length, take, drop, set, replicate, length-set, length-replicate}
use lib.Seq.{length-take-le}
use Rattle.gf2.specs.Equation.{Equation}
use Rattle.peeling.specs.declared.numbers.Edge.{Edge}
use Rattle.peel_rules.specs.Machine.{no_edge}
use Rattle.link_form.specs.declared.kind.Kind.TheVariants.{Peel}
use Rattle.link_form.specs.declared.rows.Rows.{Rows}
use Rattle.link_form.specs.Kinds.{number_of_kind}
use Rattle.link_form.specs.Lent.{most_rows}
use Rattle.link_form.specs.Rows.{row_of, rows_of, AreBehindHeader, Passed}
use Rattle.link_form.specs.declared.lent.ServedFile.{ServedFile}
use Rattle.link_form.specs.File.{rows_in}
use Rattle.link_form.specs.Serving.{rows_in_file}
use Rattle.link_form.proofs.Behind.{rows_behind, length_served}
use Rattle.link_form.proofs.Scanning.{length_rows}
use Rattle.link_form.proofs.NextRow.{Next, next_row}
use Rattle.link_edges.specs.Edges.{edge_of, edges_of, table_of}
use Rattle.link_edges.proofs.Laws.{table_edges, table_more}
use Rattle.link_edges.proofs.EdgeRows.{edge_bytes}

-- i of m edges stand in the table
pub record Filling (now : Rows) (m : ℕ) (rows : List Equation) (i : ℕ) (table : List Edge) : Type 0 where
  pub edges : now.kind ≡ Peel
  pub few : m ≤ most_rows
  pub many : length rows ≡ m
  pub long : length table ≡ most_rows
  pub reads : rows_of (m - i) now ≡ some (drop i rows)
  pub laid : table ≡ table_of (take i rows)

pub filling_begin : (begin : Rows) (m : ℕ) (rows : List Equation) → begin.kind ≡ Peel → rows_of m begin ≡ some rows → m ≤ most_rows → Filling begin m rows 0 (replicate most_rows no_edge)
unfolding edges_of table_of
filling_begin begin m rows k e f =
    let z : m - 0 ≡ m = omega arith in
    record {
      edges = k;
      few = f;
      many = length_rows (number_of_kind begin.kind) begin.width m begin.rest.now rows e;
      long = length-replicate most_rows no_edge;
      reads = rw z e;
      laid = refl;
    }

next : {now : Rows} {m : ℕ} {rows : List Equation} {i : ℕ} {table : List Edge} → Filling now m rows i table → i < m → Next now.rest.now (number_of_kind now.kind) now.width m rows i
next {now} {m} {rows} {i} f h = next_row now.rest.now (number_of_kind now.kind) now.width m rows i h f.reads

-- the next edge is there
pub filling_room : {now : Rows} {m : ℕ} {rows : List Equation} {i : ℕ} {table : List Edge} → Filling now m rows i table → i < m → 3 * now.width + 8 ≤ length now.rest.now
filling_room {now} f h = rw (edge_bytes now f.edges) at (next f h).there

pub filling_turn : {now after : Rows} {m : ℕ} {rows : List Equation} {i : ℕ} {table : List Edge} {e : Edge} → Filling now m rows i table → i < m → e ≡ edge_of (row_of now)
    → Passed (3 * now.width + 8) now after → Filling after m rows (i + 1) (set table i e)
filling_turn {now} {after} {m} {rows} {i} {table} {e} f h is p =
    let n = next f h in
    let b = f.few in
    let il : length (take i rows) ≡ i = length-take-le i rows (omega (arith, f.many)) in
    record {
      edges = p.kind ∙ f.edges;
      few = b;
      many = f.many;
      long = simp length-set f.long;
      reads = rw (p.kind, p.width, p.rest, ← (edge_bytes now f.edges)) n.reads;
      laid =
          ap₂ (λ (t : List Edge) (x : Edge). set t i x) f.laid is
          ∙ ap (λ (k : ℕ). set (table_of (take i rows)) k (edge_of (row_of now))) (sym il)
          ∙ table_more (take i rows) (row_of now) (omega arith)
          ∙ ap table_of (sym n.more);
    }

-- what the peeler is lent of the table
pub table_lent : (file : ServedFile) (rows : Rows) (table : List Edge) → AreBehindHeader file.bytes.now file.form.kind rows → table ≡ table_of (rows_in (rows_of file.form.m rows))
    → take file.form.m table ≡ edges_of (rows_in_file file)
table_lent file rows table b t = ap₂ take (sym (length_served file)) (t ∙ ap table_of (rows_behind file rows b)) ∙ table_edges (rows_in_file file)
