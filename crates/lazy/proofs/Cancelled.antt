-- A unit cancels no more than m times n variables, and there are no more than 2m + n + 1 units: so the total is small.
use mathlib.Core.Path.{◌≡◌, refl, ap, ◌∙◌}
use mathlib.Core.Bool.{Bool, true, false, not}
use mathlib.Core.List.{List, [], ◌∷◌}
use Prim.Native.Nat.{ℕ, zero, suc, ◌+◌, ◌*◌, ◌≤◌}
use native.Mathlib.Nat.{le_refl, mul-le-mul}
use native.Mathlib.Omega.{arith}
use lib.ListN.{length, get_or, set}
use lib.Dec.{eqb, ltb}
use Rattle.gf2.specs.Equation.{Equation, Each, Rising, sum}
use Rattle.gf2.specs.NumberLists.{up_from, first_of}
use Rattle.gf2.specs.ByNumber.{row_of, lists_at}
use Rattle.gf2.proofs.Common.{common_le}
use Rattle.gf2.proofs.SymDiff.{rising_sym_diff}
use Rattle.gf2.proofs.Each.{each_set}
use Rattle.gf2.proofs.Selecting.{length-keep, length_up}
use Rattle.sparse_rules.specs.Cancelled.{outer_row_cancels}
use Rattle.sparse_rules.proofs.Cancelled.{outer_row-le}
use Rattle.answers.specs.Sizes.{max_variables, max_equations}
use Rattle.lazy.specs.Lazy.{State, Build, more, ended, listing, others, is_idle, start, unit, after, enough}
use Rattle.lazy.specs.Cancelled.{added_cancels, pop_cancels, unit_cancels, after_cancels, lazy_cancels}
use Rattle.lazy.specs.Invariant.{Lent}
use Rattle.lazy.proofs.Room.{reached_roomy}
use Rattle.lazy.proofs.Turns.{after_add}

module _ (n : ℕ) where
  abbrev Bounded : Equation → Type 0
  Bounded r = Rising 0 n r.vars

  -- a pop that solves a variable: no more than n for each of the equations that it is added into
  row_at : (rows : List Equation) → Each Bounded rows → (e : ℕ) → Bounded (row_of rows e)
  row_at [] h e = tt
  row_at (r ∷ rows) h zero = h.0
  row_at (r ∷ rows) h (suc e) = row_at rows h.1 e

  pub added_le : (fs : List ℕ) (e : ℕ) (rows : List Equation) → Each Bounded rows → added_cancels fs e rows ≤ length fs * n
  unfolding added_cancels
  added_le [] e rows h = omega arith
  added_le (f ∷ fs) e rows h =
      let a = common_le n (row_of rows f).vars (row_of rows e).vars (row_at rows h f) in
      let b = added_le fs e (set rows f (sum (row_of rows f) (row_of rows e)))
      (each_set Bounded rows f (sum (row_of rows f) (row_of rows e)) (rising_sym_diff 0 n (row_of rows f).vars (row_of rows e).vars (row_at rows h f) (row_at rows h e)) h) in
      omega arith

  -- no more equations listed a variable than there are
  pub few_others : (sys : List Equation) (v e : ℕ) → length (others sys v e) ≤ length sys
  unfolding others listing
  few_others sys v e =
      let a = length-keep (λ f. not (eqb f e)) (listing sys v) in
      let b = length-keep (lists_at sys v) (up_from 0 (length sys)) in
      omega (arith, length_up 0 (length sys))

  pub others_le : (sys : List Equation) (v e : ℕ) (rows : List Equation) → Each Bounded rows → added_cancels (others sys v e) e rows ≤ length sys * n
  others_le sys v e rows h =
      let a = added_le (others sys v e) e rows h in
      let b : length (others sys v e) * n ≤ length sys * n = mul-le-mul (few_others sys v e) (le_refl n) in
      omega arith

  pop_le : (sys : List Equation) (s : State) → Each Bounded s.rows → pop_cancels sys s ≤ length sys * n
  unfolding pop_cancels
  pop_le sys s h = by_list s.equations
    where
      by_p : (e p : ℕ) → elim p [ zero ↦ added_cancels (others sys (first_of (is_idle s) (row_of s.rows e).vars) e) e s.rows | suc _ ↦ 0 ] ≤ length sys * n
      by_p e zero = others_le sys (first_of (is_idle s) (row_of s.rows e).vars) e s.rows h
      by_p e (suc p) = omega arith

      by_priority : (e p : ℕ) → elim p [
        | zero ↦ 0
        | suc p ↦ elim p [ zero ↦ added_cancels (others sys (first_of (is_idle s) (row_of s.rows e).vars) e) e s.rows | suc _ ↦ 0 ]
      ] ≤ length sys * n
      by_priority e zero = omega arith
      by_priority e (suc p) = by_p e p

      by_list : (es : List ℕ) → elim es [
        | [] ↦ 0
        | e ∷ es ↦
            elim (get_or s.priority e 0) [
              | zero ↦ 0
              | suc p ↦ elim p [ zero ↦ added_cancels (others sys (first_of (is_idle s) (row_of s.rows e).vars) e) e s.rows | suc _ ↦ 0 ]
            ]
      ] ≤ length sys * n
      by_list [] = omega arith
      by_list (e ∷ es) = by_priority e (get_or s.priority e 0)

  -- a unit: no more than m times n
  pub unit_le : (sys : List Equation) (s : State) → Each Bounded s.rows → Each Bounded s.dense → length s.dense ≤ length sys → unit_cancels sys s ≤ length sys * n
  unfolding unit_cancels
  unit_le sys s h g l = by_left s.remaining
    where
      dense_le : outer_row_cancels s.dense_done s.dense ≤ length sys * n
      dense_le =
          let a = outer_row-le n s.dense_done s.dense g in
          let b : length s.dense * n ≤ length sys * n = mul-le-mul l (le_refl n) in
          omega arith

      by_test : (t : Bool) → elim t [ true ↦ outer_row_cancels s.dense_done s.dense | false ↦ 0 ] ≤ length sys * n
      by_test true = dense_le
      by_test false = omega arith

      by_left : (k : ℕ) → elim k [
        | zero ↦ elim (ltb (suc s.dense_done) (length s.dense)) [ true ↦ outer_row_cancels s.dense_done s.dense | false ↦ 0 ]
        | suc _ ↦ pop_cancels sys s
      ] ≤ length sys * n
      by_left zero = by_test (ltb (suc s.dense_done) (length s.dense))
      by_left (suc k) = pop_le sys s h

-- ---- all units

module _ (n : ℕ) (sys : List Equation) (lent : Lent n sys) where
  next_unit : (j : ℕ) (s : State) → after j n sys (more (start n sys)) ≡ more s → after (j + 1) n sys (more (start n sys)) ≡ unit n sys s
  unfolding after
  next_unit j s e = after_add n sys j 1 (more (start n sys)) ∙ ap (λ b. after 1 n sys b) e

  units_le : (k j : ℕ) (b : Build) → after j n sys (more (start n sys)) ≡ b → after_cancels k n sys b ≤ k * (length sys * n)
  unfolding after_cancels
  units_le zero j b e = omega arith
  units_le (suc k) j (more s) e =
      let r = reached_roomy n sys lent j s e in
      let a = unit_le n sys s r.rows_rising r.dense_rising r.dense_size in
      let b = units_le k (j + 1) (unit n sys s) (next_unit j s e) in
      omega arith
  units_le (suc k) j (ended r) e = omega arith

  -- m equations in n variables: no more than 2m + n + 1 times m times n
  pub lazy_le : lazy_cancels n sys ≤ enough n sys * (length sys * n)
  unfolding lazy_cancels after
  lazy_le = units_le (enough n sys) 0 (more (start n sys)) refl

  -- .. so of a system that keeps the sizes: less than 2^44
  pub lazy_fits : n ≤ max_variables → length sys ≤ max_equations → lazy_cancels n sys ≤ (max_equations + max_equations + max_variables + 1) * (max_equations * max_variables)
  lazy_fits few l =
      let a = lazy_le in
      let b : length sys * n ≤ max_equations * max_variables = mul-le-mul l few in
      let u : enough n sys ≤ max_equations + max_equations + max_variables + 1 = omega arith in
      let c : enough n sys * (length sys * n) ≤ (max_equations + max_equations + max_variables + 1) * (max_equations * max_variables) = mul-le-mul u b in
      omega arith
