-- What the dense engines have in common: the columns, and what is left in the lent areas.
use Rattle.std.specs.Prelude.{◌≡◌, List, ℕ, ◌+◌, ◌*◌, ◌≤◌, length, take, drop}
use Rattle.gf2.specs.Result.{Result}
use Rattle.answers.specs.Sizes.{dense_numbers, dense_words}
use Rattle.answers.specs.Calls.{Call, ran, solver_call}
use Rattle.dense_rows.specs.Bits.{Row}
use Rattle.dense_rows.specs.Rows.{held}
use Rattle.dense_rows.specs.Rules.{rows_lent, rules_in}
use Rattle.dense_rows.specs.declared.system.DenseSystem.{DenseSystem}

-- the numbers hold the pivots, and the words their rows and then the rows that are left, as R says of the rows before; the rest is untouched
pub record Reduced (R : List Row → List ℕ → List Row → List Row → Type 0) (m w : ℕ) (numbers words : List ℕ) (rank : ℕ) (numbers' words' : List ℕ) : Type 0 where
  pub ranked : rank ≤ m
  pub reduces : R (held m w words) (take rank numbers') (take rank (held m w words')) (drop rank (held m w words'))
  pub numbers_long : length numbers' ≡ length numbers
  pub numbers_past : drop rank numbers' ≡ drop rank numbers
  pub words_long : length words' ≡ length words
  pub words_past : drop (m * w + m) words' ≡ drop (m * w + m) words

-- the run of an engine, on a system that keeps its rules
abbrev pub run_call : (ℕ → List Row → Result (List ℕ)) → DenseSystem → List ℕ → List ℕ → List ℕ → Call
run_call elimination s solution numbers words =
    ran (dense_numbers s.m) (dense_words s.m s.w) (elimination s.n (rows_lent s)) solution numbers words

-- the call of an engine
abbrev pub engine_call : (ℕ → List Row → Result (List ℕ)) → DenseSystem → List ℕ → List ℕ → List ℕ → Call
engine_call elimination s solution numbers words =
    solver_call (rules_in s) s.n (dense_numbers s.m) (dense_words s.m s.w) (elimination s.n (rows_lent s)) solution numbers words
