-- The lowest equation that is not in order: the walk that finds it, and that it is the lowest.
use mathlib.Core.Path.{◌≡◌, refl, sym, ap, ap₂, ◌∙◌}
use mathlib.Core.Bool.{Bool, true, false, false≢true}
use mathlib.Core.List.{List, [], ◌∷◌}
use Prim.Native.Nat.{ℕ, zero, suc, ◌+◌, ◌-◌, ◌<◌, ◌≤◌, zero-le}
use native.Mathlib.Nat.{not-suc-le-zero, le_of_suc-le-suc, add-zero, zero-add, sub-zero}
use native.Mathlib.Omega.{arith}
use lib.ListN.{length, get_or}
use Rattle.gf2.specs.Equation.{Equation, Each}
use Rattle.system.specs.Lent.{Readable}
use Rattle.system.specs.System.{equation_at, equations_from, equations, starts_kept, in_order, lowest_bad}
use Rattle.system.proofs.Climbing.{Starts, starts_sound}
use Rattle.system.proofs.Reading.{variables_any, from_turn, from_end}

if_good : (b : Bool) (p q : ℕ) → b ≡ true → ◌≡◌ {A = ℕ} (elim b [ true ↦ p | false ↦ q ]) p
if_good true p q e = refl
if_good false p q e = absurd (false≢true e)

if_bad : (b : Bool) (p q : ℕ) → b ≡ false → ◌≡◌ {A = ℕ} (elim b [ true ↦ p | false ↦ q ]) q
if_bad true p q e = absurd (false≢true (sym e))
if_bad false p q e = refl

pub lowest_skip : (n : ℕ) (e : Equation) (es : List Equation) → in_order n e.vars ≡ true → lowest_bad n (e ∷ es) ≡ suc (lowest_bad n es)
unfolding lowest_bad
lowest_skip n e es h = if_good (in_order n e.vars) (suc (lowest_bad n es)) 0 h

pub lowest_here : (n : ℕ) (e : Equation) (es : List Equation) → in_order n e.vars ≡ false → lowest_bad n (e ∷ es) ≡ 0
unfolding lowest_bad
lowest_here n e es h = if_bad (in_order n e.vars) (suc (lowest_bad n es)) 0 h

-- ---- it is the lowest

pub lowest_none : (n : ℕ) (es : List Equation) → Each (λ e. in_order n e.vars ≡ true) es → lowest_bad n es ≡ length es
lowest_none n [] h = unfold lowest_bad in refl
lowest_none n (e ∷ es) h = lowest_skip n e es h.0 ∙ ap suc (lowest_none n es h.1)

pub lowest_good : (n : ℕ) (es : List Equation) (d : Equation) (j : ℕ) → j < lowest_bad n es → j < length es → in_order n (get_or es j d).vars ≡ true
lowest_good n [] d j h l = absurd (not-suc-le-zero l)
lowest_good n (e ∷ es) d j h l = go (in_order n e.vars) refl (λ i. lowest_good n es d i) j h l
  where
    go : (b : Bool) → in_order n e.vars ≡ b → ((i : ℕ) → i < lowest_bad n es → i < length es → in_order n (get_or es i d).vars ≡ true) → (j : ℕ) → j < lowest_bad n (e ∷ es) → j < length (e ∷ es) → in_order n (get_or (e ∷ es) j d).vars ≡ true
    go true q ih zero h l = q
    go true q ih (suc j) h l = ih j (le_of_suc-le-suc (rw (lowest_skip n e es q) at h)) (le_of_suc-le-suc l)
    go false q ih j h l = absurd (not-suc-le-zero (rw (lowest_here n e es q) at h))

pub lowest_bad_lem : (n : ℕ) (es : List Equation) (d : Equation) → lowest_bad n es < length es → in_order n (get_or es (lowest_bad n es) d).vars ≡ false
lowest_bad_lem n [] d h = absurd (not-suc-le-zero h)
lowest_bad_lem n (e ∷ es) d h = go (in_order n e.vars) refl (lowest_bad_lem n es d)
  where
    go : (b : Bool) → in_order n e.vars ≡ b → (lowest_bad n es < length es → in_order n (get_or es (lowest_bad n es) d).vars ≡ false) → in_order n (get_or (e ∷ es) (lowest_bad n (e ∷ es)) d).vars ≡ false
    go true q ih = rw (lowest_skip n e es q) (ih (le_of_suc-le-suc (rw (lowest_skip n e es q) at h)))
    go false q ih = rw (lowest_here n e es q) q

-- ---- the constants do not matter

pub lowest_any : (n k i : ℕ) (starts vars c d : List ℕ) → lowest_bad n (equations_from k i starts vars c) ≡ lowest_bad n (equations_from k i starts vars d)
unfolding equations_from lowest_bad
lowest_any n zero i starts vars c d = refl
lowest_any n (suc k) i starts vars c d =
    ap₂ (λ (vs : List ℕ) (low : ℕ). elim (in_order n vs) [ true ↦ suc low | false ↦ 0 ]) (variables_any starts vars c d i) (lowest_any n k (i + 1) starts vars c d)

-- ---- the walk: the equations before i are in order, whatever the constants are

pub record Passed (n m : ℕ) (starts vars : List ℕ) (i : ℕ) : Type 0 where
  pub within : i ≤ m
  pub starting : Starts m (length vars) starts
  pub rest : (constants : List ℕ) → lowest_bad n (equations m starts vars constants) ≡ i + lowest_bad n (equations_from (m - i) i starts vars constants)

-- what is passed with one list of constants is passed with any
pub passed_any : {n m : ℕ} {starts vars : List ℕ} {i : ℕ} (constants : List ℕ) → i ≤ m → Starts m (length vars) starts
    → lowest_bad n (equations m starts vars constants) ≡ i + lowest_bad n (equations_from (m - i) i starts vars constants) → Passed n m starts vars i
passed_any {n} {m} {starts} {vars} {i} constants w s r = record {
  within = w;
  starting = s;
  rest = λ d. lowest_any n m 0 starts vars d constants ∙ r ∙ ap (λ (k : ℕ). i + k) (lowest_any n (m - i) i starts vars constants d);
}

pub passed_begin : (n m : ℕ) (starts vars : List ℕ) → starts_kept m (length vars) starts ≡ true → Passed n m starts vars 0
passed_begin n m starts vars h = record { within = zero-le; starting = starts_sound m (length vars) starts h; rest = λ constants. rw (sub-zero m, zero-add) }

module _ {n m : ℕ} {starts vars : List ℕ} {i : ℕ} (p : Passed n m starts vars i) where
  pub passed_read : i < m → Readable starts vars i
  passed_read h =
      let s = p.starting in
      let k : get_or starts (i + 1) 0 ≤ get_or starts m 0 = s.climbing (i + 1) m (omega arith) (omega arith) in
      record {
        starting = omega (arith, s.long);
        climbing = s.climbing i (i + 1) (omega arith) (omega arith);
        within = omega (arith, s.last);
      }

  passed_next : i < m → (constants : List ℕ)
      → lowest_bad n (equations m starts vars constants) ≡ i + lowest_bad n (equation_at starts vars constants i ∷ equations_from (m - (i + 1)) (i + 1) starts vars constants)
  passed_next h constants = p.rest constants ∙ rw (from_turn starts vars constants m i h)

  -- equation i is read with the constants that were lent, and in order with any
  order_any : {b : Bool} (lent : List ℕ) → in_order n (equation_at starts vars lent i).vars ≡ b → (constants : List ℕ) → in_order n (equation_at starts vars constants i).vars ≡ b
  order_any lent g constants = ap (in_order n) (variables_any starts vars constants lent i) ∙ g

  pub passed_turn : i < m → (lent : List ℕ) → in_order n (equation_at starts vars lent i).vars ≡ true → Passed n m starts vars (i + 1)
  passed_turn h lent g =
      record {
        within = omega arith;
        starting = p.starting;
        rest = λ constants.
            let es = equations_from (m - (i + 1)) (i + 1) starts vars constants in
            passed_next h constants ∙ rw (lowest_skip n (equation_at starts vars constants i) es (order_any lent g constants)) (omega arith);
      }

  pub passed_stop : i < m → (lent : List ℕ) → in_order n (equation_at starts vars lent i).vars ≡ false → (constants : List ℕ) → i ≡ lowest_bad n (equations m starts vars constants)
  passed_stop h lent g constants =
      let es = equations_from (m - (i + 1)) (i + 1) starts vars constants in
      sym (passed_next h constants ∙ rw (lowest_here n (equation_at starts vars constants i) es (order_any lent g constants)) (add-zero i))

  pub passed_end : m ≤ i → (constants : List ℕ) → lowest_bad n (equations m starts vars constants) ≡ m
  unfolding lowest_bad
  passed_end h constants =
      let e : i ≡ m = omega (arith, p.within) in
      p.rest constants ∙ rw (from_end starts vars constants m i h) (omega arith)
