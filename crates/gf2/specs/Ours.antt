-- Our part of a system: the cells that P marks, and the equations that list them.
use Rattle.std.specs.Prelude.{◌≡◌, ◌⊎◌, List, [], ◌∷◌, Bool, true, false, cond, ◌||◌, ◌&&◌, ℕ}
use Rattle.gf2.specs.Equation.{Equation, Each}

-- is one of the variables ours?
unfoldable pub any_ours : (ℕ → Bool) → List ℕ → Bool
any_ours P [] = false
any_ours P (v ∷ vs) = P v || any_ours P vs

-- are all of the variables ours?
unfoldable pub all_ours : (ℕ → Bool) → List ℕ → Bool
all_ours P [] = true
all_ours P (v ∷ vs) = P v && all_ours P vs

-- no equation has a variable of ours beside one that is not
abbrev pub Apart : (ℕ → Bool) → List Equation → Type 0
Apart P es = Each (λ e. (all_ours P e.vars ≡ true) ⊎ (any_ours P e.vars ≡ false)) es

-- the equations with a variable of ours, in their order; an equation with no variable is not among them
unfoldable pub our_part : (ℕ → Bool) → List Equation → List Equation
our_part P [] = []
our_part P (e ∷ es) = cond (any_ours P e.vars) (e ∷ our_part P es) (our_part P es)
