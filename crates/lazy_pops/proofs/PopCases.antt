-- The cases of a pop.
use mathlib.Core.Path.{◌≡◌, refl, sym, ap, subst}
use mathlib.Core.List.{List, [], ◌∷◌}
use Prim.Native.Nat.{ℕ, zero, suc}
use native.Mathlib.Omega.{arith}
use lib.ListN.{get_or}
use Rattle.gf2.specs.Equation.{Equation}
use Rattle.gf2.specs.ByNumber.{row_of}
use Rattle.gf2.specs.NumberLists.{first_of}
use Rattle.gf2.specs.Result.{Result, ok}
use Rattle.lazy.specs.Cancelled.{added_cancels, pop_cancels}
use Rattle.lazy.specs.Lazy.{State, others, is_idle, pass_over, solve_for, pop_dense, pop_equation, pop_variable, pop}

pub equation_dense : (sys : List Equation) (e : ℕ) (es : List ℕ) (s : State) → get_or s.priority e 0 ≡ 0 → pop_equation sys e es s ≡ pop_dense e es s
unfolding pop_equation
equation_dense sys e es s h = go (get_or s.priority e 0) h
  where
    go : (p : ℕ) → p ≡ 0 → ◌≡◌ {A = Result State} (elim p [
      | zero ↦ pop_dense e es s
      | suc p ↦ elim p [ zero ↦ ok (solve_for sys (first_of (is_idle s) (row_of s.rows e).vars) e es s) | suc _ ↦ ok (pass_over es s) ]
    ]) (pop_dense e es s)
    go zero k = refl
    go (suc p) k = absurd (omega arith)

pub equation_solve : (sys : List Equation) (e : ℕ) (es : List ℕ) (s : State) → get_or s.priority e 0 ≡ 1
    → pop_equation sys e es s ≡ ok (solve_for sys (first_of (is_idle s) (row_of s.rows e).vars) e es s)
unfolding pop_equation
equation_solve sys e es s h = go (get_or s.priority e 0) h
  where
    go : (p : ℕ) → p ≡ 1 → ◌≡◌ {A = Result State} (elim p [
      | zero ↦ pop_dense e es s
      | suc p ↦ elim p [ zero ↦ ok (solve_for sys (first_of (is_idle s) (row_of s.rows e).vars) e es s) | suc _ ↦ ok (pass_over es s) ]
    ]) (ok (solve_for sys (first_of (is_idle s) (row_of s.rows e).vars) e es s))
    go zero k = absurd (omega arith)
    go (suc zero) k = refl
    go (suc (suc p)) k = absurd (omega arith)

pub pop_first : (sys : List Equation) (e : ℕ) (es : List ℕ) (s : State) → s.equations ≡ e ∷ es → pop sys s ≡ pop_equation sys e es s
unfolding pop
pop_first sys e es s h =
    subst (λ (l : List ℕ).
    ◌≡◌ {A = Result State} (elim l [ [] ↦ elim s.variables [ [] ↦ ok s | v ∷ vs ↦ ok (pop_variable sys v vs s) ] | e ∷ es ↦ pop_equation sys e es s ]) (pop_equation sys e es s))
    (sym h) refl

pub pop_then : (sys : List Equation) (v : ℕ) (vs : List ℕ) (s : State) → s.equations ≡ [] → s.variables ≡ v ∷ vs → pop sys s ≡ ok (pop_variable sys v vs s)
unfolding pop
pop_then sys v vs s h g =
    subst (λ (l : List ℕ).
    ◌≡◌ {A = Result State} (elim l [ [] ↦ elim s.variables [ [] ↦ ok s | v ∷ vs ↦ ok (pop_variable sys v vs s) ] | e ∷ es ↦ pop_equation sys e es s ]) (ok (pop_variable sys v vs s)))
    (sym h)
    (subst (λ (k : List ℕ). ◌≡◌ {A = Result State} (elim k [ [] ↦ ok s | v ∷ vs ↦ ok (pop_variable sys v vs s) ]) (ok (pop_variable sys v vs s))) (sym g) refl)

-- ---- what cancels

pub count_none : (sys : List Equation) (s : State) → s.equations ≡ [] → pop_cancels sys s ≡ 0
unfolding pop_cancels
count_none sys s h =
    subst (λ (l : List ℕ). ◌≡◌ {A = ℕ} (elim l [
      | [] ↦ 0
      | e ∷ es ↦
          elim (get_or s.priority e 0) [
            | zero ↦ 0
            | suc p ↦ elim p [ zero ↦ added_cancels (others sys (first_of (is_idle s) (row_of s.rows e).vars) e) e s.rows | suc _ ↦ 0 ]
          ]
    ]) 0) (sym h) refl

count_first : (sys : List Equation) (e : ℕ) (es : List ℕ) (s : State) (p : ℕ) → s.equations ≡ e ∷ es → get_or s.priority e 0 ≡ p
    → pop_cancels sys s ≡ elim p [
      | zero ↦ 0
      | suc p ↦ elim p [ zero ↦ added_cancels (others sys (first_of (is_idle s) (row_of s.rows e).vars) e) e s.rows | suc _ ↦ 0 ]
    ]
unfolding pop_cancels
count_first sys e es s p h g =
    subst (λ (l : List ℕ). ◌≡◌ {A = ℕ} (elim l [
      | [] ↦ 0
      | e ∷ es ↦
          elim (get_or s.priority e 0) [
            | zero ↦ 0
            | suc p ↦ elim p [ zero ↦ added_cancels (others sys (first_of (is_idle s) (row_of s.rows e).vars) e) e s.rows | suc _ ↦ 0 ]
          ]
    ]) (elim p [
      | zero ↦ 0
      | suc p ↦ elim p [ zero ↦ added_cancels (others sys (first_of (is_idle s) (row_of s.rows e).vars) e) e s.rows | suc _ ↦ 0 ]
    ])) (sym h)
    (ap (λ (p : ℕ). elim p [
      | zero ↦ 0
      | suc p ↦ elim p [ zero ↦ added_cancels (others sys (first_of (is_idle s) (row_of s.rows e).vars) e) e s.rows | suc _ ↦ 0 ]
    ]) g)

pub count_dense : (sys : List Equation) (e : ℕ) (es : List ℕ) (s : State) → s.equations ≡ e ∷ es → get_or s.priority e 0 ≡ 0 → pop_cancels sys s ≡ 0
count_dense sys e es s h g = count_first sys e es s 0 h g

pub count_solve : (sys : List Equation) (e : ℕ) (es : List ℕ) (s : State) → s.equations ≡ e ∷ es → get_or s.priority e 0 ≡ 1
    → pop_cancels sys s ≡ added_cancels (others sys (first_of (is_idle s) (row_of s.rows e).vars) e) e s.rows
count_solve sys e es s h g = count_first sys e es s 1 h g
