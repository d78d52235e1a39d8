-- Lazy elimination, one unit at a time: a pop, an outer row of the dense part, or the last unit.
use Rattle.std.specs.Prelude.{List, [], ◌∷◌, ◌++◌, map, Bool, true, false, not, cond, ℕ, zero, suc, pred, ◌+◌, length, get_or, set, replicate, eqb, ltb, leb}
use Rattle.std.specs.Int.Bits.{bit_xor}
use Rattle.gf2.specs.Equation.{Equation, eval_vars, sum}
use Rattle.gf2.specs.NumberLists.{up_from, down_from, keep, first_of}
use Rattle.gf2.specs.ByNumber.{row_of, lists_at}
use Rattle.gf2.specs.Result.{Result, unsolvable, ok}
use Rattle.sparse_rules.specs.Eliminate.{outer_row, contradicted, back_sub}

-- `sys` is the system as lent, throughout: which equation lists which variable is asked of the start.

-- ---- which equations list a variable

-- the equations that list v, in equation order
unfoldable pub listing : List Equation → ℕ → List ℕ
listing sys v = keep (lists_at sys v) (up_from 0 (length sys))

-- the others of them than e
unfoldable pub others : List Equation → ℕ → ℕ → List ℕ
others sys v e = keep (λ f. not (eqb f e)) (listing sys v)

-- ---- the state

-- equation e was solved for its variable v
pub record Solved : Type 0 where
  pub equation : ℕ
  pub pivot : ℕ

pub record State : Type 0 where
  -- the equations as they stand
  pub rows : List Equation
  -- of each equation, how many of its variables are neither active nor solved
  pub priority : List ℕ
  -- of each variable, how many equations list it at the start; 0 once it is solved
  pub weight : List ℕ
  -- of each variable, whether it is idle, that is, not active
  pub idle : List Bool
  -- the variables not yet taken, the next one first
  pub variables : List ℕ
  -- the equation list, its top first
  pub equations : List ℕ
  -- what is solved, in the order solved
  pub solved : List Solved
  -- the dense part
  pub dense : List Equation
  -- how many equations have not been popped
  pub remaining : ℕ
  -- how many outer rows of the dense part are done
  pub dense_done : ℕ

-- the variables below n whose weight is w
abbrev pub of_weight : List ℕ → ℕ → ℕ → List ℕ
of_weight weight n w = keep (λ v. eqb (get_or weight v 0) w) (down_from n)

-- those of weight w or less from the heavy end: by weight, then by number
unfoldable pub heaviest : List ℕ → ℕ → ℕ → List ℕ
heaviest weight n zero = of_weight weight n zero
heaviest weight n (suc w) = of_weight weight n (suc w) ++ heaviest weight n w

-- a variable's weight is the number of equations listing it, an equation's priority its length; the first list holds
-- the equations of priority 0 or 1, lowest number on top
unfoldable pub start : ℕ → List Equation → State
start n sys =
    let weight = map (λ v. length (listing sys v)) (up_from 0 n) in
    let priority = map (λ e. length (row_of sys e).vars) (up_from 0 (length sys)) in
    record {
      rows = sys;
      priority = priority;
      weight = weight;
      idle = replicate n true;
      variables = heaviest weight n (length sys);
      equations = keep (λ e. leb (get_or priority e 0) 1) (up_from 0 (length sys));
      solved = [];
      dense = [];
      remaining = length sys;
      dense_done = 0;
    }

-- ---- a pop from the equation list

-- each of the equations loses 1 in priority ..
unfoldable pub lowered : List ℕ → List ℕ → List ℕ
lowered [] priority = priority
lowered (e ∷ es) priority = lowered es (set priority e (pred (get_or priority e 0)))

-- .. and is pushed on reaching 1
unfoldable pub pushed : List ℕ → List ℕ → List ℕ → List ℕ
pushed [] priority equations = equations
pushed (e ∷ es) priority equations =
    pushed es (set priority e (pred (get_or priority e 0))) (cond (eqb (get_or priority e 0) 2) (e ∷ equations) equations)

-- equation e is added into each of the equations fs
unfoldable pub added_into : List ℕ → ℕ → List Equation → List Equation
added_into [] e rows = rows
added_into (f ∷ fs) e rows = added_into fs e (set rows f (sum (row_of rows f) (row_of rows e)))

abbrev pub is_idle : State → ℕ → Bool
is_idle s v = get_or s.idle v false

-- the equation popped is passed over, and es are left
unfoldable pub pass_over : List ℕ → State → State
pass_over es s = record {
  rows = s.rows;
  priority = s.priority;
  weight = s.weight;
  idle = s.idle;
  variables = s.variables;
  equations = es;
  solved = s.solved;
  dense = s.dense;
  remaining = pred s.remaining;
  dense_done = s.dense_done;
}

-- equation e is copied to the dense part
unfoldable pub copy : ℕ → List ℕ → State → State
copy e es s = record {
  rows = s.rows;
  priority = s.priority;
  weight = s.weight;
  idle = s.idle;
  variables = s.variables;
  equations = es;
  solved = s.solved;
  dense = s.dense ++ (row_of s.rows e ∷ []);
  remaining = pred s.remaining;
  dense_done = s.dense_done;
}

-- equation e solves v, whose weight becomes 0, and is added into the other equations that listed v at the start
unfoldable pub solve_for : List Equation → ℕ → ℕ → List ℕ → State → State
solve_for sys v e es s = record {
  rows = added_into (others sys v e) e s.rows;
  priority = lowered (others sys v e) s.priority;
  weight = set s.weight v 0;
  idle = s.idle;
  variables = s.variables;
  equations = pushed (others sys v e) s.priority es;
  solved = s.solved ++ (record { equation = e; pivot = v } ∷ []);
  dense = s.dense;
  remaining = pred s.remaining;
  dense_done = s.dense_done;
}

-- priority 0: an identity is passed over, a contradiction refused, another equation copied
unfoldable pub pop_dense : ℕ → List ℕ → State → Result State
pop_dense e es s =
    elim (row_of s.rows e).vars [
      | [] ↦ elim (row_of s.rows e).c [ zero ↦ ok (pass_over es s) | suc _ ↦ unsolvable ]
      | _ ∷ _ ↦ ok (copy e es s)
    ]

-- priority 1: the one idle variable is solved; a higher priority does not come about
unfoldable pub pop_equation : List Equation → ℕ → List ℕ → State → Result State
pop_equation sys e es s =
    elim (get_or s.priority e 0) [
      | zero ↦ pop_dense e es s
      | suc p ↦ elim p [ zero ↦ ok (solve_for sys (first_of (is_idle s) (row_of s.rows e).vars) e es s) | suc _ ↦ ok (pass_over es s) ]
    ]

-- ---- a pop from the variable list

-- a variable of weight 0 is skipped, and vs are left
unfoldable pub skip : List ℕ → State → State
skip vs s = record {
  rows = s.rows;
  priority = s.priority;
  weight = s.weight;
  idle = s.idle;
  variables = vs;
  equations = s.equations;
  solved = s.solved;
  dense = s.dense;
  remaining = s.remaining;
  dense_done = s.dense_done;
}

-- v becomes active and lowers the priority of its equations
unfoldable pub activate : List Equation → ℕ → List ℕ → State → State
activate sys v vs s = record {
  rows = s.rows;
  priority = lowered (listing sys v) s.priority;
  weight = s.weight;
  idle = set s.idle v false;
  variables = vs;
  equations = pushed (listing sys v) s.priority s.equations;
  solved = s.solved;
  dense = s.dense;
  remaining = s.remaining;
  dense_done = s.dense_done;
}

unfoldable pub pop_variable : List Equation → ℕ → List ℕ → State → State
pop_variable sys v vs s = elim (get_or s.weight v 0) [ zero ↦ skip vs s | suc _ ↦ activate sys v vs s ]

-- from the equation list while it has one, else from the variable list; both are never empty while equations remain
unfoldable pub pop : List Equation → State → Result State
pop sys s =
    elim s.equations [
      | [] ↦ elim s.variables [ [] ↦ ok s | v ∷ vs ↦ ok (pop_variable sys v vs s) ]
      | e ∷ es ↦ pop_equation sys e es s
    ]

-- ---- the dense part and the filling

-- one outer row of the dense part by the sparse rules
unfoldable pub dense_row : State → Result State
dense_row s =
    elim (outer_row s.dense_done s.dense) [
      | unsolvable ↦ unsolvable
      | ok rows ↦ ok (record {
        rows = s.rows;
        priority = s.priority;
        weight = s.weight;
        idle = s.idle;
        variables = s.variables;
        equations = s.equations;
        solved = s.solved;
        dense = rows;
        remaining = s.remaining;
        dense_done = suc s.dense_done;
      })
    ]

-- each solved equation gives its variable the value that meets it, in the order solved
unfoldable pub fill : List Equation → List Solved → List ℕ → List ℕ
fill rows [] x = x
fill rows (d ∷ ds) x =
    let r = row_of rows d.equation in
    fill rows ds (set x d.pivot (bit_xor r.c (eval_vars r.vars x)))

-- the remaining checks and all filling
unfoldable pub last_unit : ℕ → State → Result (List ℕ)
last_unit n s =
    elim (contradicted s.dense) [ true ↦ unsolvable | false ↦ ok (fill s.rows s.solved (back_sub s.dense (replicate n 0))) ]

-- ---- units

pub data Build : Type 0 where
  more : State → Build
  ended : Result (List ℕ) → Build

abbrev pub go_on : Result State → Build
go_on unsolvable = ended unsolvable
go_on (ok s) = more s

-- a pop while equations remain; then an outer row of the dense part, its last not counted; then the last unit
unfoldable pub unit : ℕ → List Equation → State → Build
unit n sys s =
    elim s.remaining [
      | zero ↦ elim (ltb (suc s.dense_done) (length s.dense)) [ true ↦ go_on (dense_row s) | false ↦ ended (last_unit n s) ]
      | suc _ ↦ go_on (pop sys s)
    ]

-- the build after k units more
unfoldable pub after : ℕ → ℕ → List Equation → Build → Build
after zero n sys b = b
after (suc k) n sys (more s) = after k n sys (unit n sys s)
after (suc k) n sys (ended r) = ended r

-- the units that a turn of k units uses: all, or fewer where the build ends in it or has ended
unfoldable pub used : ℕ → ℕ → List Equation → Build → ℕ
used zero n sys b = 0
used (suc k) n sys (more s) = suc (used k n sys (unit n sys s))
used (suc k) n sys (ended r) = 0

-- ---- the whole

-- 2m + n + 1 units are enough
abbrev pub enough : ℕ → List Equation → ℕ
enough n sys = length sys + length sys + n + 1

unfoldable pub whole_run : ℕ → List Equation → Build
whole_run n sys = after (enough n sys) n sys (more (start n sys))

-- a build that has not ended has no answer; the whole run always ends
abbrev pub answer_of : Build → Result (List ℕ)
answer_of (more s) = unsolvable
answer_of (ended r) = r

unfoldable pub lazy_elimination : ℕ → List Equation → Result (List ℕ)
lazy_elimination n sys = answer_of (whole_run n sys)
