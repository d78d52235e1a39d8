-- The text of the file of the edges (0,1,2)=5 and (1,2,3)=6 on four vertices.
use mathlib.Core.Path.{◌≡◌, refl}
use mathlib.Core.List.{List, [], ◌∷◌}
use Prim.Native.Nat.{ℕ}
use Rattle.areas.specs.Stretch.{stretch}
use Rattle.system.specs.Fits.{listed_in}
use Rattle.peel_rules.specs.Edges.{bad_edge, touches, degree, edge_at, without, side_of, pivot, first, second}
use Rattle.peel_rules.specs.Peel.{push, popped, pop, step, run, ones, start, peel, fill_one, fill, verdict, answer, crowded_from, crowded_vertex}
use Rattle.link_form.specs.Bytes.{little, fields}
use Rattle.link_lines.specs.Decimal.{decimal, digits_before}
use Rattle.link_form.specs.File.{count, row_bytes, row, read_rows, header_kept, read_file}
use Rattle.link_lines.specs.Lines.{ended, header_line, answer_line, value_lines}
use Rattle.link_edges.specs.Edges.{edge_of, edges_of, lent_call}
use Rattle.link_lines.specs.Outcomes.{outcome_text}
use Rattle.link_file.specs.Text.{served, answered, text_of, link_text}

abbrev file : List ℕ
file =
    76 ∷ 78 ∷ 75 ∷ 1 ∷ 0 ∷ 3 ∷ 4 ∷ 0 ∷ 2 ∷ 0
    ∷ 0 ∷ 0 ∷ 1 ∷ 0 ∷ 2 ∷ 0 ∷ 5 ∷ 0 ∷ 0 ∷ 0 ∷ 0 ∷ 0 ∷ 0 ∷ 0
    ∷ 1 ∷ 0 ∷ 2 ∷ 0 ∷ 3 ∷ 0 ∷ 6 ∷ 0 ∷ 0 ∷ 0 ∷ 0 ∷ 0 ∷ 0 ∷ 0 ∷ []

-- LNK 1 3 4 2, then 0 0, then 0, 0, 5 and 3, a line each
abbrev text : List ℕ
text =
    76 ∷ 78 ∷ 75 ∷ 32 ∷ 49 ∷ 32 ∷ 51 ∷ 32 ∷ 52 ∷ 32 ∷ 50 ∷ 10
    ∷ 48 ∷ 32 ∷ 48 ∷ 10
    ∷ 48 ∷ 10
    ∷ 48 ∷ 10
    ∷ 53 ∷ 10
    ∷ 51 ∷ 10 ∷ []

pub p6_peel : link_text file ≡ text
unfolding link_text text_of outcome_text answered served read_file header_kept read_rows row_bytes count row little fields stretch listed_in header_line answer_line value_lines ended decimal digits_before edge_of edges_of lent_call bad_edge touches degree edge_at without side_of pivot first second push popped pop step run ones start peel fill_one fill verdict answer crowded_from crowded_vertex
p6_peel = refl
