-- The answer of `check`: whether a solution meets every equation of a lent system.
use Rattle.std.specs.Prelude.{List, [], ◌∷◌, Bool, true, false, ◌&&◌, ℕ, length, eqb, Result, Ok, Err}
use Rattle.gf2.specs.Equation.{Equation, eval_vars}
use Rattle.answers.specs.Calls.{pick}
use Rattle.answers.specs.Answers.{Answer, WrongSolution, Rules, Kept, Broken, refusal_of}
use Rattle.system.specs.System.{equations, system_rules}
use Rattle.system.specs.declared.System.{System}
use Rattle.answers.specs.declared.refusal.Refusal.{Refusal}

-- what a check comes to
pub data Checked : Type 0 where
  Refused : Answer → Checked
  Yes : Checked
  No : Checked

-- .. and what a result of the code does
abbrev pub checked_of : Result Bool Refusal → Checked
checked_of (Ok true) = Yes
checked_of (Ok false) = No
checked_of (Err refusal) = Refused (refusal_of refusal)

-- the vector meets each equation
unfoldable pub all_met : List ℕ → List Equation → Bool
all_met x [] = true
all_met x (e ∷ es) = eqb (eval_vars e.vars x) e.c && all_met x es

-- a system that keeps its rules: 4, otherwise yes or no
abbrev pub checked : Rules → ℕ → List Equation → List ℕ → Checked
checked (Broken answer) n es solution = Refused answer
checked Kept n es solution = pick (eqb (length solution) n) (pick (all_met solution es) Yes No) (Refused WrongSolution)

-- the answer of `check`
unfoldable pub check_call : ℕ → ℕ → List ℕ → List ℕ → List ℕ → List ℕ → Checked
check_call n m starts vars constants solution =
    checked (system_rules n m starts vars constants) n (equations m starts vars constants) solution

abbrev pub check_in : System → List ℕ → Checked
check_in s solution = check_call s.n s.m s.starts.now s.vars.now s.constants.now solution
