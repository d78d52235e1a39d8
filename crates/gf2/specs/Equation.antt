-- Equations over the field of two elements: what a vector of words has to meet, and the sum of two equations.
use Rattle.std.specs.Prelude.{◌≡◌, List, [], ◌∷◌, Bool, true, false, not, ◌||◌, get_or, eqb}
use Prim.Native.Nat.{ℕ, suc, ◌≤◌, ◌<◌, compare, Ordering}
use Rattle.std.specs.Int.Bits.{bit_xor}

-- P holds of each element of the list
abbrev pub Each : {A : Type 0} → (A → Type 0) → List A → Type 0
Each P [] = Unit {0}
Each P (a ∷ as') = P a × Each P as'

-- An equation: its variables, strictly increasing (`Increasing`, below), and the XOR that their values must have.
pub record Equation : Type 0 where
  pub vars : List ℕ
  pub c : ℕ

abbrev pub eqn : List ℕ → ℕ → Equation
eqn vs d = record { vars = vs; c = d }

-- ---- the order of the variables

-- each variable of the list is above v
abbrev pub Above : ℕ → List ℕ → Type 0
Above v us = Each (λ u. v < u) us

-- each variable is below all that follow it
abbrev pub Increasing : List ℕ → Type 0
Increasing [] = Unit {0}
Increasing (v ∷ vs) = Above v vs × Increasing vs

-- strictly increasing, from b on and below n
abbrev pub Rising : ℕ → ℕ → List ℕ → Type 0
Rising b n [] = Unit {0}
Rising b n (v ∷ vs) = (b ≤ v) × (v < n) × Rising (suc v) n vs

-- the variables of each equation are strictly increasing
abbrev pub Sorted : List Equation → Type 0
Sorted es = Each (λ e. Increasing e.vars) es

-- the variables of each equation are below n
abbrev pub Below : ℕ → List Equation → Type 0
Below n es = Each (λ e. Each (λ u. u < n) e.vars) es

-- ---- values

-- the XOR of the values of the listed variables; a variable past the end of the vector counts as 0
unfoldable pub eval_vars : List ℕ → List ℕ → ℕ
eval_vars [] x = 0
eval_vars (v ∷ vs) x = bit_xor (get_or x v 0) (eval_vars vs x)

-- the vector x solves the equation e
abbrev pub Meets : List ℕ → Equation → Type 0
Meets x e = eval_vars e.vars x ≡ e.c

-- the vector x solves each equation of the system
abbrev pub MeetsAll : List ℕ → List Equation → Type 0
MeetsAll x es = Each (Meets x) es

-- ---- membership

-- is v among the listed variables?
unfoldable pub lists : ℕ → List ℕ → Bool
lists v [] = false
lists v (u ∷ us) = eqb v u || lists v us

-- exactly one of the two
abbrev pub xor_bool : Bool → Bool → Bool
xor_bool true b = not b
xor_bool false b = b

-- ---- the sum

-- the variables that stand in exactly one of two increasing lists: the left is smaller, the two are equal, the right is smaller
unfoldable pub sym_diff : List ℕ → List ℕ → List ℕ
sym_diff [] ys = ys
sym_diff (x ∷ xs) [] = x ∷ xs
sym_diff (x ∷ xs) (y ∷ ys) =
    elim (compare x y) [ Ordering.lt ↦ x ∷ sym_diff xs (y ∷ ys) | Ordering.eq ↦ sym_diff xs ys | Ordering.gt ↦ y ∷ sym_diff (x ∷ xs) ys ]

-- the sum of two equations
abbrev pub sum : Equation → Equation → Equation
sum r s = record { vars = sym_diff r.vars s.vars; c = bit_xor r.c s.c }
