-- What the definitions over the parts of a lent system say of the struct that lends them.
use Rattle.std.specs.Prelude.{List, ℕ, ◌+◌, ◌≤◌, ◌<◌, length, get_or}
use Rattle.gf2.specs.Equation.{Equation}
use Rattle.answers.specs.Answers.{Rules}
use Rattle.system.specs.System.{equations, system_rules}
use Rattle.system.specs.Fits.{Fits}
use Rattle.system.specs.declared.System.{System}

-- the rules 1 to 3
abbrev pub rules_in : System → Rules
rules_in s = system_rules s.n s.m s.starts.now s.vars.now s.constants.now

-- the m equations
abbrev pub equations_in : System → List Equation
equations_in s = equations s.m s.starts.now s.vars.now s.constants.now

abbrev pub FitsIn : System → Type 0
FitsIn s = Fits s.n s.m s.starts.now s.vars.now s.constants.now

-- the starts of equation i and of the next, and the variables between them
pub record Readable (starts vars : List ℕ) (i : ℕ) : Type 0 where
  pub starting : i + 1 < length starts
  pub climbing : get_or starts i 0 ≤ get_or starts (i + 1) 0
  pub within : get_or starts (i + 1) 0 ≤ length vars

abbrev pub ReadableIn : System → ℕ → Type 0
ReadableIn s i = Readable s.starts.now s.vars.now i
