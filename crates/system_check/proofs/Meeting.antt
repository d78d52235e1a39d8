-- The walk that meets each equation with the solution, and that the test says `MeetsAll`.
use mathlib.Core.Path.{◌≡◌, refl, sym, ◌∙◌}
use mathlib.Core.Bool.{true, false}
use mathlib.Core.List.{List, [], ◌∷◌}
use Prim.Native.Nat.{ℕ, ◌+◌, ◌-◌, ◌<◌, ◌≤◌, zero-le}
use native.Mathlib.Nat.{sub-zero}
use native.Mathlib.Omega.{arith}
use borrow.Author.Tests.{eq-eqb, ne_eqb, eqb-true}
use lib.ListN.{length, get_or}
use lib.Dec.{eqb}
use Rattle.gf2.specs.Equation.{Equation, Each, eval_vars, MeetsAll}
use Rattle.gf2.proofs.Order.{rising_below}
use Rattle.system.specs.System.{equation_at, equations_from, equations}
use Rattle.system_check.specs.CheckCall.{all_met}
use Rattle.system.specs.Fits.{Fits}
use Rattle.system.specs.Lent.{Readable}
use Rattle.gf2.proofs.Both.{both}
use Rattle.system.proofs.Reading.{from_turn, from_end}

-- ---- the test says that the vector meets each equation

pub met_meets : (x : List ℕ) (es : List Equation) → all_met x es ≡ true → MeetsAll x es
unfolding all_met
met_meets x [] h = tt
met_meets x (e ∷ es) h =
    let q = both (eqb (eval_vars e.vars x) e.c) (all_met x es) h in
    (eqb-true (eval_vars e.vars x) e.c q.0, met_meets x es q.1)

pub meets_met : (x : List ℕ) (es : List Equation) → MeetsAll x es → all_met x es ≡ true
unfolding all_met
meets_met x [] h = refl
meets_met x (e ∷ es) h = rw (eq-eqb (eval_vars e.vars x) e.c h.0) (meets_met x es h.1)

-- a solution of n words
pub fits_solution : {n m : ℕ} {starts vars constants : List ℕ} (solution : List ℕ) → length solution ≡ n → Fits n m starts vars constants → Fits (length solution) m starts vars constants
fits_solution solution e f = rw e f

-- ---- the walk: the equations before i are met

pub record Meeting (m : ℕ) (starts vars constants solution : List ℕ) (i : ℕ) : Type 0 where
  pub within : i ≤ m
  pub fits : Fits (length solution) m starts vars constants
  pub rest : all_met solution (equations m starts vars constants) ≡ all_met solution (equations_from (m - i) i starts vars constants)

pub meeting_begin : (m : ℕ) (starts vars constants solution : List ℕ) → Fits (length solution) m starts vars constants → Meeting m starts vars constants solution 0
meeting_begin m starts vars constants solution f = record { within = zero-le; fits = f; rest = rw (sub-zero m) }

module _ {m : ℕ} {starts vars constants solution : List ℕ} {i : ℕ} (p : Meeting m starts vars constants solution i) where
  pub meeting_read : i < m → Readable starts vars i
  meeting_read h =
      let f = p.fits in
      record {
        starting = omega (arith, f.starts_long);
        climbing = f.climbing i (i + 1) (omega arith) (omega arith);
        within = f.within (i + 1) (omega arith);
      }

  pub meeting_low : i < m → Each (λ v. v < length solution) (equation_at starts vars constants i).vars
  meeting_low h = rising_below 0 (length solution) (equation_at starts vars constants i).vars (p.fits.rising i h)

  pub meeting_turn : i < m → eval_vars (equation_at starts vars constants i).vars solution ≡ get_or constants i 0 → Meeting m starts vars constants solution (i + 1)
  unfolding equation_at all_met
  meeting_turn h g =
      record {
        within = omega arith;
        fits = p.fits;
        rest = p.rest ∙ rw (from_turn starts vars constants m i h, eq-eqb (eval_vars (equation_at starts vars constants i).vars solution) (get_or constants i 0) g);
      }

  pub meeting_stop : i < m → (eval_vars (equation_at starts vars constants i).vars solution ≡ get_or constants i 0 → ⊥) → false ≡ all_met solution (equations m starts vars constants)
  unfolding equation_at all_met
  meeting_stop h g =
      sym (p.rest ∙ rw (from_turn starts vars constants m i h, ne_eqb (eval_vars (equation_at starts vars constants i).vars solution) (get_or constants i 0) g))

  pub meeting_end : m ≤ i → true ≡ all_met solution (equations m starts vars constants)
  unfolding all_met
  meeting_end h = sym (p.rest ∙ rw (from_end starts vars constants m i h))
