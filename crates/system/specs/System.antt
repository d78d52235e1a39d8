-- The lent sparse system: its reading as equations, and the rules 1 to 3 that it has to keep.
use Rattle.std.specs.Prelude.{List, [], ◌∷◌, Bool, true, false, ◌&&◌, ℕ, zero, suc, ◌+◌, ◌-◌, length, get_or, eqb, leb, ltb}
use Rattle.gf2.specs.Equation.{Equation, eqn}
use Rattle.areas.specs.Stretch.{stretch}
use Rattle.answers.specs.Sizes.{max_variables, max_equations, max_listed}
use Rattle.answers.specs.Calls.{pick}
use Rattle.answers.specs.Answers.{TooLarge, BadShape, BadEntry}
use Rattle.answers.specs.Answers.{Rules}
use Rattle.answers.specs.Answers.{Kept, Broken}

-- ---- the reading

-- equation i lists the variables from start i up to start i + 1
unfoldable pub equation_at : List ℕ → List ℕ → List ℕ → ℕ → Equation
equation_at starts vars constants i =
    eqn (stretch (get_or starts i 0) (get_or starts (i + 1) 0 - get_or starts i 0) vars) (get_or constants i 0)

-- the k equations from i on
unfoldable pub equations_from : ℕ → ℕ → List ℕ → List ℕ → List ℕ → List Equation
equations_from zero i starts vars constants = []
equations_from (suc k) i starts vars constants = equation_at starts vars constants i ∷ equations_from k (i + 1) starts vars constants

-- the m equations
abbrev pub equations : ℕ → List ℕ → List ℕ → List ℕ → List Equation
equations m starts vars constants = equations_from m 0 starts vars constants

-- ---- the rules

-- never falling from a on, and the last is t
unfoldable pub climbs : ℕ → ℕ → List ℕ → Bool
climbs a t [] = eqb a t
climbs a t (s ∷ ss) = leb a s && climbs s t ss

-- m + 1 starts: the first is 0, never falling, the last is t
unfoldable pub starts_kept : ℕ → ℕ → List ℕ → Bool
starts_kept m t starts = eqb (length starts) (m + 1) && (eqb (get_or starts 0 0) 0 && climbs 0 t starts)

-- strictly increasing, from b on and below n
unfoldable pub rises_below : ℕ → ℕ → List ℕ → Bool
rises_below b n [] = true
rises_below b n (v ∷ vs) = leb b v && (ltb v n && rises_below (v + 1) n vs)

-- strictly increasing and below n
abbrev pub in_order : ℕ → List ℕ → Bool
in_order n vs = rises_below 0 n vs

-- the number of the lowest equation that is not in order; the length where there is none
unfoldable pub lowest_bad : ℕ → List Equation → ℕ
lowest_bad n [] = 0
lowest_bad n (e ∷ es) = elim (in_order n e.vars) [ true ↦ suc (lowest_bad n es) | false ↦ 0 ]

-- no size is above the largest
unfoldable pub sizes_fit : ℕ → ℕ → ℕ → Bool
sizes_fit n m t = leb n max_variables && (leb m max_equations && leb t max_listed)

-- the starts keep their rule, and there are m constants
unfoldable pub shape_kept : ℕ → List ℕ → List ℕ → List ℕ → Bool
shape_kept m starts vars constants = starts_kept m (length vars) starts && eqb (length constants) m

-- 1: a size is above the largest; 2: the shape; 3: the lowest equation that is not in order
unfoldable pub system_rules : ℕ → ℕ → List ℕ → List ℕ → List ℕ → Rules
system_rules n m starts vars constants =
    pick (sizes_fit n m (length vars))
    (pick (shape_kept m starts vars constants)
    (pick (ltb (lowest_bad n (equations m starts vars constants)) m) (Broken (BadEntry (lowest_bad n (equations m starts vars constants)))) Kept)
    (Broken BadShape))
    (Broken TooLarge)
