-- The call of sparse elimination: its answer, and what it leaves in every cell that it was lent.
use Rattle.std.specs.Prelude.{List, ℕ}
use Rattle.answers.specs.Calls.{Call, solver_call}
use Rattle.answers.specs.Sizes.{sparse_numbers, sparse_words}
use Rattle.system.specs.System.{system_rules, equations}
use Rattle.sparse_rules.specs.Eliminate.{gaussian_elimination}

-- the rules 1 to 3 of the lent system, the solution's length, the room, then the elimination
unfoldable pub sparse_call : ℕ → ℕ → List ℕ → List ℕ → List ℕ → List ℕ → List ℕ → List ℕ → Call
sparse_call n m starts vars constants solution numbers words =
    solver_call (system_rules n m starts vars constants) n (sparse_numbers n m) (sparse_words m) (gaussian_elimination n (equations m starts vars constants)) solution numbers words
