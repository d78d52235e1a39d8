-- What the rules 1 to 3 of a lent sparse system say, and what follows for its reading: one record for all engines.
use Rattle.std.specs.Prelude.{◌≡◌, List, [], ◌∷◌, ℕ, ◌+◌, ◌≤◌, ◌<◌, length, get_or}
use Rattle.gf2.specs.Equation.{Equation, Each, Rising, Sorted, Below}
use Rattle.answers.specs.Sizes.{max_variables, max_equations, max_listed}
use Rattle.system.specs.System.{equation_at, equations}

-- how many variables are listed in all
unfoldable pub listed_in : List Equation → ℕ
listed_in [] = 0
listed_in (e ∷ es) = length e.vars + listed_in es

pub record Fits (n m : ℕ) (starts vars constants : List ℕ) : Type 0 where
  pub few_variables : n ≤ max_variables
  pub few_equations : m ≤ max_equations
  pub few_listed : length vars ≤ max_listed
  pub starts_long : length starts ≡ m + 1
  pub constants_long : length constants ≡ m
  pub first : get_or starts 0 0 ≡ 0
  pub last : get_or starts m 0 ≡ length vars
  pub climbing : (i j : ℕ) → i ≤ j → j ≤ m → get_or starts i 0 ≤ get_or starts j 0
  pub within : (i : ℕ) → i ≤ m → get_or starts i 0 ≤ length vars
  pub rising : (i : ℕ) → i < m → Rising 0 n (equation_at starts vars constants i).vars
  pub each_rising : Each (λ e. Rising 0 n e.vars) (equations m starts vars constants)
  pub sorted : Sorted (equations m starts vars constants)
  pub below : Below n (equations m starts vars constants)
  pub many : length (equations m starts vars constants) ≡ m
  pub listed : listed_in (equations m starts vars constants) ≡ length vars
