-- The call on the rows of a file, by sparse or lazy elimination: the work areas that are lent are zero.
use Rattle.std.specs.Prelude.{List, ℕ, length, eqb}
use Rattle.gf2.specs.Equation.{Equation}
use Rattle.answers.specs.Calls.{Call, pick}
use Rattle.sparse_rules.specs.SparseCall.{sparse_call}
use Rattle.lazy_calls.specs.LazyCall.{lazy_call}
use Rattle.link_form.specs.File.{lazy_kind}
use Rattle.link_load.specs.Loading.{starts_of, vars_of, constants_of}
use Rattle.areas.specs.Stretch.{zeros}
use Rattle.system.specs.declared.System.{System}
use Rattle.link_form.specs.declared.lent.ServedFile.{ServedFile}
use Rattle.link_form.specs.Serving.{kind_in, rows_in_file}
use Rattle.link_form.specs.Lent.{lent_numbers, lent_words}

-- the solver of a kind
unfoldable pub solver_of : ℕ → ℕ → ℕ → List ℕ → List ℕ → List ℕ → List ℕ → List ℕ → List ℕ → Call
solver_of kind = pick (eqb kind lazy_kind) lazy_call sparse_call

-- lent its work areas
abbrev pub laid_call : ℕ → ℕ → ℕ → List ℕ → List ℕ → List ℕ → List ℕ → Call
laid_call kind n m starts vars constants solution = solver_of kind n m starts vars constants solution (zeros lent_numbers) (zeros lent_words)

abbrev pub rows_call : ℕ → ℕ → List Equation → List ℕ → Call
rows_call kind n rows solution = laid_call kind n (length rows) (starts_of rows) (vars_of rows) (constants_of rows) solution

-- ---- the same of what the code lends

abbrev pub solver_on : ℕ → System → List ℕ → List ℕ → List ℕ → Call
solver_on kind s solution numbers words = solver_of kind s.n s.m s.starts.now s.vars.now s.constants.now solution numbers words

abbrev pub laid_call_on : ℕ → System → List ℕ → Call
laid_call_on kind s solution = laid_call kind s.n s.m s.starts.now s.vars.now s.constants.now solution

-- on the rows of a file that is served
abbrev pub file_call : ServedFile → List ℕ → Call
file_call file solution = rows_call (kind_in file) file.form.n (rows_in_file file) solution
