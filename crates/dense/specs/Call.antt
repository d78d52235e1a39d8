-- The call of dense elimination: the answer, and what is left in every lent cell.
use Rattle.std.specs.Prelude.{List, ℕ}
use Rattle.gf2.specs.Equation.{Equation}
use Rattle.answers.specs.Sizes.{dense_numbers, dense_words}
use Rattle.answers.specs.Calls.{Call, solver_call}
use Rattle.dense_rows.specs.Bits.{equations_of}
use Rattle.dense_rows.specs.Rows.{rows_of}
use Rattle.dense_rows.specs.Rules.{dense_rules}
use Rattle.dense_walk.specs.Eliminate.{dense_elimination}

-- the system that is lent, as equations
abbrev pub dense_equations : ℕ → ℕ → ℕ → List ℕ → List ℕ → List Equation
dense_equations n m w rows constants = equations_of n (rows_of m w rows constants)

unfoldable pub dense_call : ℕ → ℕ → ℕ → List ℕ → List ℕ → List ℕ → List ℕ → List ℕ → Call
dense_call n m w rows constants solution numbers words =
    solver_call (dense_rules n m w rows constants) n (dense_numbers m) (dense_words m w) (dense_elimination n (rows_of m w rows constants)) solution numbers words
