-- A solution of a file's rows meets them.
use mathlib.Core.Path.{◌≡◌, subst}
use mathlib.Core.Bool.{Bool, true, false}
use mathlib.Core.List.{List}
use Prim.Native.Nat.{ℕ}
use lib.ListN.{length}
use lib.Dec.{eqb}
use Rattle.gf2.specs.Equation.{Equation, MeetsAll}
use Rattle.answers.specs.Calls.{Call, pick}
use Rattle.answers.specs.Answers.{Solved}
use Rattle.system.proofs.SolverCalls.{Lent}
use Rattle.sparse_rules.specs.SparseCall.{sparse_call}
use Rattle.sparse_rules.proofs.CallTheorems.{sparse_call_solves}
use Rattle.lazy_calls.specs.LazyCall.{lazy_call}
use Rattle.lazy_calls.proofs.CallTheorems.{lazy_call_solves}
use Rattle.link_form.specs.File.{lazy_kind}
use Rattle.link_load.specs.Loading.{starts_of, vars_of, constants_of}
use Rattle.areas.specs.Stretch.{zeros}
use Rattle.link_form.specs.Lent.{lent_numbers, lent_words}
use Rattle.link_load.proofs.LaidRows.{laid_rows}
use Rattle.link_rows.specs.RowsCall.{solver_of, rows_call}

abbrev lent : List Equation → List ℕ → Lent
lent rows solution = record {
  m = length rows;
  starts = starts_of rows;
  vars = vars_of rows;
  constants = constants_of rows;
  solution = solution;
  numbers = zeros lent_numbers;
  words = zeros lent_words;
}

abbrev call : Bool → ℕ → List Equation → List ℕ → Call
call lazily n rows solution =
    pick lazily lazy_call sparse_call n (length rows) (starts_of rows) (vars_of rows) (constants_of rows) solution (zeros lent_numbers) (zeros lent_words)

by : (lazily : Bool) (n : ℕ) (rows : List Equation) (solution : List ℕ) → (call lazily n rows solution).answer ≡ Solved
    → (length (call lazily n rows solution).solution ≡ n) × MeetsAll (call lazily n rows solution).solution rows
by true n rows solution e =
    let s = lazy_call_solves n (lent rows solution) e in
    (s.0, subst (MeetsAll (call true n rows solution).solution) (laid_rows rows) s.1)
by false n rows solution e =
    let s = sparse_call_solves n (lent rows solution) e in
    (s.0, subst (MeetsAll (call false n rows solution).solution) (laid_rows rows) s.1)

-- after 0 the solution has n words and meets every row
pub rows_solves : (kind n : ℕ) (rows : List Equation) (solution : List ℕ) → (rows_call kind n rows solution).answer ≡ Solved
    → (length (rows_call kind n rows solution).solution ≡ n) × MeetsAll (rows_call kind n rows solution).solution rows
unfolding solver_of
rows_solves kind n rows solution = by (eqb kind lazy_kind) n rows solution
