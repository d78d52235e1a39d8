-- The rows of a file as a lent sparse system: starts, variables, constants.
use Rattle.std.specs.Prelude.{List, [], ◌∷◌, ◌++◌, ℕ, ◌+◌, length}
use Rattle.gf2.specs.Equation.{Equation}

-- the starts of rows before which `from` variables stand
unfoldable pub starts_from : ℕ → List Equation → List ℕ
starts_from from [] = from ∷ []
starts_from from (r ∷ rows) = from ∷ starts_from (from + length r.vars) rows

abbrev pub starts_of : List Equation → List ℕ
starts_of rows = starts_from 0 rows

unfoldable pub vars_of : List Equation → List ℕ
vars_of [] = []
vars_of (r ∷ rows) = r.vars ++ vars_of rows

unfoldable pub constants_of : List Equation → List ℕ
constants_of [] = []
constants_of (r ∷ rows) = r.c ∷ constants_of rows
