-- The canonical solution of a system, and the order of two vectors in which it is the first.
use Rattle.std.specs.Prelude.{◌≡◌, ◌⊎◌, List, [], ◌∷◌, ℕ, ◌<◌, get_or, length}
use Rattle.gf2.specs.Equation.{Equation, MeetsAll}
use Rattle.gf2.specs.Span.{InSpan}

-- v is the first variable of the list, which is the lowest where the list is increasing
abbrev pub Lead : ℕ → List ℕ → Type 0
Lead v [] = ⊥
Lead v (u ∷ us) = v ≡ u

-- Some sum of the equations has v as its lowest variable.
pub record HasLead (v : ℕ) (es : List Equation) : Type 0 where
  pub row : Equation
  pub spanned : InSpan es row
  pub lead : Lead v row.vars

-- The solution that has 0 wherever the system leaves the choice, if a variable is chosen after all higher ones: it is 0
-- at each variable that is not the lowest of some sum of the equations.
pub record Canonical (n : ℕ) (es : List Equation) (x : List ℕ) : Type 0 where
  pub size : length x ≡ n
  pub meets : MeetsAll x es
  pub zero_or_lead : (v : ℕ) → v < n → (get_or x v 0 ≡ 0) ⊎ HasLead v es

-- x comes before y, the values compared from the highest variable down: they first differ at `at`, where x has the
-- smaller number
pub record Before (x y : List ℕ) : Type 0 where
  pub at : ℕ
  pub smaller : get_or x at 0 < get_or y at 0
  pub equal_above : (u : ℕ) → at < u → get_or x u 0 ≡ get_or y u 0
