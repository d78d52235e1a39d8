-- The numbers show a state of the lazy rules.
use Rattle.std.specs.Prelude.{◌≡◌, List, ℕ, length}
use Rattle.gf2.specs.Equation.{Equation}
use Rattle.lazy.specs.Lazy.{State}
use Rattle.lazy_setup.specs.declared.Layout.{Layout}
use Rattle.lazy_setup.specs.Area.{lists_from, numbers_of}
use Rattle.lazy_setup.specs.Layout.{layout_of, Sized}

-- how many listed variables the system has, by the lists of equations
abbrev pub listed : ℕ → List Equation → ℕ
listed n sys = length (lists_from sys 0 n)

pub record Laid (n m : ℕ) (layout : Layout) (sys : List Equation) (s : State) (numbers : List ℕ) : Type 0 where
  pub many : m ≡ length sys
  pub placed : layout ≡ layout_of n m (listed n sys)
  pub sized : Sized n sys s
  pub shown : numbers ≡ numbers_of n sys s
