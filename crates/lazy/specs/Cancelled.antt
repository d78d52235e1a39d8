-- How many variables cancel in the sums of lazy elimination, a unit at a time.
use Rattle.std.specs.Prelude.{List, [], ◌∷◌, true, false, ℕ, zero, suc, ◌+◌, length, get_or, set, ltb}
use Rattle.gf2.specs.Equation.{Equation, sum}
use Rattle.gf2.specs.NumberLists.{first_of}
use Rattle.gf2.specs.ByNumber.{row_of}
use Rattle.gf2.specs.Common.{common}
use Rattle.lazy.specs.Lazy.{State, others, is_idle, start, Build, more, ended, unit, enough}
use Rattle.sparse_rules.specs.Cancelled.{outer_row_cancels}

-- equation e is added into each of the equations fs
unfoldable pub added_cancels : List ℕ → ℕ → List Equation → ℕ
added_cancels [] e rows = 0
added_cancels (f ∷ fs) e rows =
    common (row_of rows f).vars (row_of rows e).vars + added_cancels fs e (set rows f (sum (row_of rows f) (row_of rows e)))

-- a pop makes sums where it solves a variable: the equation popped has priority 1
unfoldable pub pop_cancels : List Equation → State → ℕ
pop_cancels sys s =
    elim s.equations [
      | [] ↦ 0
      | e ∷ es ↦
          elim (get_or s.priority e 0) [
            | zero ↦ 0
            | suc p ↦ elim p [ zero ↦ added_cancels (others sys (first_of (is_idle s) (row_of s.rows e).vars) e) e s.rows | suc _ ↦ 0 ]
          ]
    ]

unfoldable pub unit_cancels : List Equation → State → ℕ
unit_cancels sys s =
    elim s.remaining [
      | zero ↦ elim (ltb (suc s.dense_done) (length s.dense)) [ true ↦ outer_row_cancels s.dense_done s.dense | false ↦ 0 ]
      | suc _ ↦ pop_cancels sys s
    ]

-- .. in k units more
unfoldable pub after_cancels : ℕ → ℕ → List Equation → Build → ℕ
after_cancels zero n sys b = 0
after_cancels (suc k) n sys (more s) = unit_cancels sys s + after_cancels k n sys (unit n sys s)
after_cancels (suc k) n sys (ended r) = 0

unfoldable pub lazy_cancels : ℕ → List Equation → ℕ
lazy_cancels n sys = after_cancels (enough n sys) n sys (more (start n sys))
