-- The equations of a system by their numbers.
use Rattle.std.specs.Prelude.{List, [], Bool, ℕ, get_or}
use Rattle.gf2.specs.Equation.{Equation, lists, Meets}

-- 0 = 0, which stands for an equation past the last
abbrev pub blank : Equation
blank = record { vars = []; c = 0 }

-- equation e of the list
abbrev pub row_of : List Equation → ℕ → Equation
row_of rows e = get_or rows e blank

-- does equation e list v?
abbrev pub lists_at : List Equation → ℕ → ℕ → Bool
lists_at rows v e = lists v (row_of rows e).vars

-- x meets each equation, by its number
abbrev pub MeetsRows : List ℕ → List Equation → Type 0
MeetsRows x rows = (e : ℕ) → Meets x (row_of rows e)
