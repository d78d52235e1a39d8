-- Lists of numbers: counted up and down, selected by a test, counted.
use Rattle.std.specs.Prelude.{◌≡◌, List, [], ◌∷◌, Bool, true, false, cond, ℕ, zero, suc, ◌+◌}
use Rattle.gf2.specs.Equation.{lists}

-- k, k + 1, .., n of them
unfoldable pub up_from : ℕ → ℕ → List ℕ
up_from k zero = []
up_from k (suc n) = k ∷ up_from (suc k) n

-- n - 1, .., 1, 0
unfoldable pub down_from : ℕ → List ℕ
down_from zero = []
down_from (suc n) = n ∷ down_from n

-- those of the list that pass the test, in their order
unfoldable pub keep : (ℕ → Bool) → List ℕ → List ℕ
keep p [] = []
keep p (v ∷ vs) = cond (p v) (v ∷ keep p vs) (keep p vs)

-- the first of the list that passes the test; 0 where none does
unfoldable pub first_of : (ℕ → Bool) → List ℕ → ℕ
first_of p [] = 0
first_of p (v ∷ vs) = cond (p v) v (first_of p vs)

-- 1 for what holds, 0 for what does not
unfoldable pub one : Bool → ℕ
one true = 1
one false = 0

-- is the number above 0?
unfoldable pub pos : ℕ → Bool
pos zero = false
pos (suc _) = true

-- how many of the list pass the test
unfoldable pub count : (ℕ → Bool) → List ℕ → ℕ
count p [] = 0
count p (v ∷ vs) = one (p v) + count p vs

-- no number stands twice
abbrev pub Distinct : List ℕ → Type 0
Distinct [] = Unit {0}
Distinct (v ∷ vs) = (lists v vs ≡ false) × Distinct vs
