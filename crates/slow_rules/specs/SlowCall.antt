-- The call of the slow engine: the rules, the places and the room of the dense call.
use Rattle.std.specs.Prelude.{List, ℕ}
use Rattle.answers.specs.Sizes.{dense_numbers, dense_words}
use Rattle.answers.specs.Calls.{Call, solver_call}
use Rattle.dense_rows.specs.Rows.{rows_of}
use Rattle.dense_rows.specs.Rules.{dense_rules}
use Rattle.slow_rules.specs.Slow.{slow_elimination}

unfoldable pub slow_call : ℕ → ℕ → ℕ → List ℕ → List ℕ → List ℕ → List ℕ → List ℕ → Call
slow_call n m w rows constants solution numbers words =
    solver_call (dense_rules n m w rows constants) n (dense_numbers m) (dense_words m w)
    (slow_elimination n (rows_of m w rows constants)) solution numbers words
