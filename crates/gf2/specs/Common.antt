-- How many variables cancel when two equations are added.
use Rattle.std.specs.Prelude.{List, ℕ}
use Rattle.gf2.specs.Equation.{lists}
use Rattle.gf2.specs.NumberLists.{count}

-- how many variables of the first list stand in the second
unfoldable pub common : List ℕ → List ℕ → ℕ
common vs us = count (λ v. lists v us) vs
