-- The call of lazy elimination: its answer, and what it leaves in every cell that it was lent.
use Rattle.std.specs.Prelude.{List, ℕ, length}
use Rattle.gf2.specs.Result.{Result}
use Rattle.answers.specs.Calls.{Call, ran, solver_call}
use Rattle.answers.specs.Sizes.{lazy_numbers, lazy_words}
use Rattle.system.specs.System.{system_rules, equations}
use Rattle.system.specs.declared.System.{System}
use Rattle.lazy.specs.Lazy.{lazy_elimination}

-- what the lazy rules answer for the lent system
abbrev pub lazy_answer : ℕ → ℕ → List ℕ → List ℕ → List ℕ → Result (List ℕ)
lazy_answer n m starts vars constants = lazy_elimination n (equations m starts vars constants)

-- a run that is not refused
abbrev pub lazy_ran : ℕ → ℕ → List ℕ → List ℕ → List ℕ → List ℕ → List ℕ → List ℕ → Call
lazy_ran n m starts vars constants solution numbers words =
    ran (lazy_numbers n m (length vars)) (lazy_words m) (lazy_answer n m starts vars constants) solution numbers words

-- the rules 1 to 3 of the lent system, the solution's length, the room, then the run
unfoldable pub lazy_call : ℕ → ℕ → List ℕ → List ℕ → List ℕ → List ℕ → List ℕ → List ℕ → Call
lazy_call n m starts vars constants solution numbers words =
    solver_call (system_rules n m starts vars constants) n (lazy_numbers n m (length vars)) (lazy_words m) (lazy_answer n m starts vars constants) solution numbers words

-- of a lent struct

abbrev pub lazy_answer_in : System → Result (List ℕ)
lazy_answer_in s = lazy_answer s.n s.m s.starts.now s.vars.now s.constants.now

abbrev pub lazy_ran_in : System → List ℕ → List ℕ → List ℕ → Call
lazy_ran_in s solution numbers words = lazy_ran s.n s.m s.starts.now s.vars.now s.constants.now solution numbers words

abbrev pub lazy_call_in : System → List ℕ → List ℕ → List ℕ → Call
lazy_call_in s solution numbers words = lazy_call s.n s.m s.starts.now s.vars.now s.constants.now solution numbers words
