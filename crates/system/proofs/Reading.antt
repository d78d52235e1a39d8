-- The reading of a lent system as a list of equations, by number.
use mathlib.Core.Path.{◌≡◌, refl, sym, ap, ◌∙◌}
use mathlib.Core.List.{List, [], ◌∷◌}
use Prim.Native.Nat.{ℕ, zero, suc, ◌+◌, ◌-◌, ◌<◌, ◌≤◌}
use native.Mathlib.Nat.{not-suc-le-zero, le_of_suc-le-suc, add-zero, sub-eq-zero_of_le, sub-zero, zero-add}
use native.Mathlib.Omega.{arith}
use lib.ListN.{length, get_or, take, drop}
use Rattle.gf2.specs.Equation.{Equation}
use Rattle.system.specs.System.{equation_at, equations_from, equations}

-- the variables of an equation are the same whatever the constants are
pub variables_any : (starts vars c d : List ℕ) (i : ℕ) → (equation_at starts vars c i).vars ≡ (equation_at starts vars d i).vars
unfolding equation_at
variables_any starts vars c d i = refl

module _ (starts vars constants : List ℕ) where
  -- the first of those that are left, and the others
  pub from_turn : (m i : ℕ) → i < m → equations_from (m - i) i starts vars constants ≡ equation_at starts vars constants i ∷ equations_from (m - (i + 1)) (i + 1) starts vars constants
  unfolding equations_from
  from_turn m i h =
      let e : m - i ≡ suc (m - (i + 1)) = omega arith in
      rw e

  pub from_end : (m i : ℕ) → m ≤ i → equations_from (m - i) i starts vars constants ≡ []
  unfolding equations_from
  from_end m i h = rw (sub-eq-zero_of_le h)

  pub from_length : (k i : ℕ) → length (equations_from k i starts vars constants) ≡ k
  unfolding equations_from
  from_length zero i = refl
  from_length (suc k) i = ap suc (from_length k (i + 1))

  pub from_at : (k i j : ℕ) (d : Equation) → j < k → get_or (equations_from k i starts vars constants) j d ≡ equation_at starts vars constants (i + j)
  unfolding equations_from
  from_at zero i j d h = absurd (not-suc-le-zero h)
  from_at (suc k) i zero d h = ap (equation_at starts vars constants) (sym (add-zero i))
  from_at (suc k) i (suc j) d h =
      let e : i + 1 + j ≡ i + suc j = omega arith in
      from_at k (i + 1) j d (le_of_suc-le-suc h) ∙ ap (equation_at starts vars constants) e

  pub from_drop : (k i j : ℕ) → j ≤ k → drop j (equations_from k i starts vars constants) ≡ equations_from (k - j) (i + j) starts vars constants
  unfolding equations_from
  from_drop k i zero h = rw (sub-zero k, add-zero i)
  from_drop zero i (suc j) h = absurd (not-suc-le-zero h)
  from_drop (suc k) i (suc j) h =
      let e : i + 1 + j ≡ i + suc j = omega arith in
      let d : suc k - suc j ≡ k - j = omega arith in
      rw (d, ← e) (from_drop k (i + 1) j (le_of_suc-le-suc h))

  pub from_take : (k i j : ℕ) → j ≤ k → take j (equations_from k i starts vars constants) ≡ equations_from j i starts vars constants
  unfolding equations_from
  from_take k i zero h = refl
  from_take zero i (suc j) h = absurd (not-suc-le-zero h)
  from_take (suc k) i (suc j) h = ap (λ es. equation_at starts vars constants i ∷ es) (from_take k (i + 1) j (le_of_suc-le-suc h))

  -- there are m equations
  pub equations_length : (m : ℕ) → length (equations m starts vars constants) ≡ m
  equations_length m = from_length m 0

  -- the i-th is equation i
  pub equations_at : (m i : ℕ) (d : Equation) → i < m → get_or (equations m starts vars constants) i d ≡ equation_at starts vars constants i
  equations_at m i d h = from_at m 0 i d h ∙ ap (equation_at starts vars constants) (zero-add i)
