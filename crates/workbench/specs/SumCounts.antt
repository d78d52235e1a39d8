-- What calls on the workbench tell of their sums: cases, and how many variables must have cancelled.
use Rattle.std.specs.Prelude.{List, [], ◌∷◌, ℕ, ◌+◌, length}
use Rattle.answers.specs.Reported.{reported}
use Rattle.answers.specs.Sizes.{sparse_numbers, sparse_words, lazy_numbers, lazy_words}
use Rattle.system.specs.System.{equations}
use Rattle.equation.specs.Sums.{sum_call}
use Rattle.sparse_rules.specs.Cancelled.{sparse_cancels}
use Rattle.sparse_rules.specs.SparseCall.{sparse_call}
use Rattle.lazy.specs.Cancelled.{lazy_cancels}
use Rattle.lazy_calls.specs.LazyCall.{lazy_call}
use Rattle.workbench.specs.Bench.{nines}

-- n, starts, variables, constants
pub record Lists : Type 0 where
  pub n : ℕ
  pub starts : List ℕ
  pub vars : List ℕ
  pub constants : List ℕ

abbrev pub sparse_tells : Lists → ℕ
sparse_tells s =
    let m = length s.constants in
    reported (sparse_call s.n m s.starts s.vars s.constants (nines s.n) (nines (sparse_numbers s.n m)) (nines (sparse_words m))).answer
    (sparse_cancels (equations m s.starts s.vars s.constants))

abbrev pub lazy_tells : Lists → ℕ
lazy_tells s =
    let m = length s.constants in
    let room = lazy_numbers s.n m (length s.vars) in
    reported (lazy_call s.n m s.starts s.vars s.constants (nines s.n) (nines room) (nines (lazy_words m))).answer
    (lazy_cancels s.n (equations m s.starts s.vars s.constants))

abbrev pub sum_tells : List ℕ → List ℕ → ℕ
sum_tells left right = (sum_call left right 0 0 (nines (length left + length right))).result.cancelled

-- P3: {0,1}=5, {1,2}=3, {0,2}=6. P4: the last constant 7. P5: {0,1}=1, {0,2}=2
abbrev pub P3 : Lists
P3 = record { n = 3; starts = 0 ∷ 2 ∷ 4 ∷ 6 ∷ []; vars = 0 ∷ 1 ∷ 1 ∷ 2 ∷ 0 ∷ 2 ∷ []; constants = 5 ∷ 3 ∷ 6 ∷ [] }

abbrev pub P4 : Lists
P4 = record { n = 3; starts = 0 ∷ 2 ∷ 4 ∷ 6 ∷ []; vars = 0 ∷ 1 ∷ 1 ∷ 2 ∷ 0 ∷ 2 ∷ []; constants = 5 ∷ 3 ∷ 7 ∷ [] }

abbrev pub P5 : Lists
P5 = record { n = 3; starts = 0 ∷ 2 ∷ 4 ∷ []; vars = 0 ∷ 1 ∷ 0 ∷ 2 ∷ []; constants = 1 ∷ 2 ∷ [] }

-- P3 over two variables: the second equation has one that is not there
abbrev pub refused3 : Lists
refused3 = record { n = 2; starts = 0 ∷ 2 ∷ 4 ∷ 6 ∷ []; vars = 0 ∷ 1 ∷ 1 ∷ 2 ∷ 0 ∷ 2 ∷ []; constants = 5 ∷ 3 ∷ 6 ∷ [] }
