-- What the file program prints for the bytes that it reads.
use Rattle.std.specs.Prelude.{List, [], ◌++◌, ℕ, ◌+◌, ◌*◌, length, eqb, leb}
use Rattle.std.specs.Prelude as told
use Rattle.std.proofs.Math.Option.{Option, none, some}
use Rattle.gf2.specs.Equation.{Equation}
use Rattle.areas.specs.Stretch.{put, zeros}
use Rattle.answers.specs.Calls.{Call, pick}
use Rattle.answers.specs.Answers.{TooLarge, BadFile}
use Rattle.system.specs.Fits.{listed_in}
use Rattle.peel_rules.specs.Calls.{PeelCall}
use Rattle.link_form.specs.File.{Link, peel_kind, read_file}
use Rattle.link_form.specs.Lent.{most_variables, sizes_served, file_rows}
use Rattle.link_form.specs.declared.lent.ServedFile.{ServedFile}
use Rattle.link_form.specs.Serving.{kind_in, rows_in_file}
use Rattle.link_lines.specs.Lines.{header_line, most_ended, most_header, most_answer}
use Rattle.link_lines.specs.Outcomes.{Outcome, outcome, refusal_text, outcome_text}
use Rattle.link_rows.specs.RowsCall.{rows_call}
use Rattle.link_edges.specs.Edges.{edges_call}

-- ---- the answer

abbrev pub of_rows : Call → Outcome
of_rows call = outcome call.answer call.solution

abbrev pub of_edges : PeelCall → Outcome
of_edges call = outcome call.answer call.solution

-- the call of the kind on the rows
unfoldable pub served : ℕ → ℕ → List Equation → List ℕ → Outcome
served kind n rows solution = pick (eqb kind peel_kind) (of_edges (edges_call n rows solution)) (of_rows (rows_call kind n rows solution))

-- the call on a file that is served
abbrev pub served_file : ServedFile → List ℕ → Outcome
served_file file solution = served (kind_in file) file.form.n (rows_in_file file) solution

-- the file of m rows that the bytes describe
abbrev pub file_link : ℕ → ℕ → ℕ → List ℕ → Link
file_link kind n m bytes = record { kind = kind; n = n; rows = file_rows kind m bytes }

-- a size above the largest is 1, before any call
unfoldable pub answered : Link → Outcome
answered f =
    pick (sizes_served f.n (length f.rows) (listed_in f.rows)) (served f.kind f.n f.rows (zeros f.n)) (outcome TooLarge [])

-- ---- the text

abbrev pub version : ℕ
version = 1

unfoldable pub text_of : Link → List ℕ
text_of f = header_line version f.kind f.n (length f.rows) ++ outcome_text (answered f)

abbrev pub file_text : Option Link → List ℕ
file_text none = refusal_text BadFile
file_text (some f) = text_of f

-- what is printed for the bytes
unfoldable pub link_text : List ℕ → List ℕ
link_text bytes = file_text (read_file bytes)

-- ---- the call

-- no outcome and no text is longer
abbrev pub most_outcome : ℕ
most_outcome = most_answer + most_variables * most_ended

abbrev pub most_text : ℕ
most_text = most_header + most_outcome

-- how long the text is that was written, and the bytes that were lent for it
pub record LinkCall : Type 0 where
  pub written : ℕ
  pub out : List ℕ

-- how many bytes the code tells that it wrote
abbrev pub written_of : told.Option ℕ → ℕ
written_of told.None = 0
written_of (told.Some k) = k

-- nothing is written where the longest text would not fit
unfoldable pub link_call : List ℕ → List ℕ → LinkCall
link_call bytes out =
    pick (leb most_text (length out)) (record { written = length (link_text bytes); out = put 0 (link_text bytes) out }) (record { written = 0; out = out })
