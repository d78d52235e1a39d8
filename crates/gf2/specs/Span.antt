-- What follows from a system of equations: the sums of chosen equations, and contradictions.
use Rattle.std.specs.Prelude.{◌≡◌, ◌≢◌, List, [], ◌∷◌, Bool, true, false, ℕ}
use Rattle.std.specs.Int.Bits.{bit_xor}
use Rattle.gf2.specs.Equation.{Equation, Increasing, lists, xor_bool}

-- A mask chooses equations of a system: the i-th is chosen if the i-th entry is `true`. What the mask does not reach is
-- not chosen.

-- is v listed by an odd number of the chosen equations?
unfoldable pub oddly : ℕ → List Bool → List Equation → Bool
oddly v mask [] = false
oddly v [] (e ∷ es) = false
oddly v (true ∷ mask) (e ∷ es) = xor_bool (lists v e.vars) (oddly v mask es)
oddly v (false ∷ mask) (e ∷ es) = oddly v mask es

-- the XOR of the chosen equations' constants
unfoldable pub const_of : List Bool → List Equation → ℕ
const_of mask [] = 0
const_of [] (e ∷ es) = 0
const_of (true ∷ mask) (e ∷ es) = bit_xor e.c (const_of mask es)
const_of (false ∷ mask) (e ∷ es) = const_of mask es

-- The chosen equations contradict one another: each variable stands in an even number of them, so their left sides
-- cancel, and their constants do not.
pub record Cancels (mask : List Bool) (es : List Equation) : Type 0 where
  pub even : (v : ℕ) → oddly v mask es ≡ false
  pub nonzero : const_of mask es ≢ 0

-- The row r is the sum of some of the equations.
pub record InSpan (es : List Equation) (r : Equation) : Type 0 where
  pub mask : List Bool
  pub increasing : Increasing r.vars
  pub same_vars : (v : ℕ) → lists v r.vars ≡ oddly v mask es
  pub same_const : r.c ≡ const_of mask es
