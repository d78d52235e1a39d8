-- What `check` says: yes exactly where the solution meets every equation, no exactly where it does not, and refusals in order.
use mathlib.Core.Path.{◌≡◌, refl, sym, ◌∙◌}
use mathlib.Core.Logic.{◌↔◌}
use mathlib.Core.Bool.{Bool, true, false, false≢true}
use mathlib.Core.List.{List}
use Prim.Native.Nat.{ℕ}
use native.Mathlib.Omega.{arith}
use borrow.Author.Tests.{eq-eqb, ne_eqb, eqb-true}
use lib.ListN.{length}
use lib.Dec.{eqb}
use Rattle.gf2.specs.Equation.{Equation, MeetsAll}
use Rattle.answers.specs.Calls.{pick}
use Rattle.answers.specs.Answers.{Answer}
use Rattle.answers.specs.Answers.{WrongSolution}
use Rattle.answers.specs.Answers.{Rules}
use Rattle.answers.specs.Answers.{Kept, Broken}
use Rattle.system.specs.System.{equations, system_rules}
use Rattle.std.proofs.Common.{Ok}
use Rattle.system_check.specs.CheckCall.{Refused, Yes, No, checked_of, all_met, checked, check_call}
use Rattle.system_check.proofs.Meeting.{met_meets, meets_met}

-- 1 to 3 before all else
pub check_refused : (n m : ℕ) (starts vars constants solution : List ℕ) (answer : Answer) → system_rules n m starts vars constants ≡ Broken answer → check_call n m starts vars constants solution ≡ Refused answer
unfolding check_call
check_refused n m starts vars constants solution answer k = simp k

-- what the code hands back where nothing refuses
pub checked_by : (b : Bool) → checked_of (Ok b) ≡ pick b Yes No
checked_by true = refl
checked_by false = refl

yes_met : (b : Bool) → pick b Yes No ≡ Yes → b ≡ true
yes_met true e = refl
yes_met false e = let z : ◌≡◌ {A = ℕ} 0 1 = cc in absurd (omega arith)

no_unmet : (b : Bool) → pick b Yes No ≡ No → b ≡ false
no_unmet true e = let z : ◌≡◌ {A = ℕ} 0 1 = cc in absurd (omega arith)
no_unmet false e = refl

-- a yes was not refused
checked_yes : (r : Rules) (n : ℕ) (es : List Equation) (x : List ℕ) → checked r n es x ≡ Yes → (r ≡ Kept) × (length x ≡ n) × (all_met x es ≡ true)
checked_yes (Broken a) n es x e = let z : ◌≡◌ {A = ℕ} 0 1 = cc in absurd (omega arith)
checked_yes Kept n es x e = go (eqb (length x) n) (all_met x es) refl refl e
  where
    go : (a b : Bool) → eqb (length x) n ≡ a → all_met x es ≡ b → pick a (pick b Yes No) (Refused WrongSolution) ≡ Yes → (Kept ≡ Kept) × (length x ≡ n) × (all_met x es ≡ true)
    go true b p q e = (refl, eqb-true (length x) n p, q ∙ yes_met b e)
    go false b p q e = let z : ◌≡◌ {A = ℕ} 0 1 = cc in absurd (omega arith)

module _ (n m : ℕ) (starts vars constants solution : List ℕ) where
  -- then 4
  pub check_wrong : system_rules n m starts vars constants ≡ Kept → (length solution ≡ n → ⊥) → check_call n m starts vars constants solution ≡ Refused WrongSolution
  unfolding check_call
  check_wrong k h = simp (k, ne_eqb (length solution) n h)

  pub check_kept : system_rules n m starts vars constants ≡ Kept → length solution ≡ n → check_call n m starts vars constants solution ≡ pick (all_met solution (equations m starts vars constants)) Yes No
  unfolding check_call
  check_kept k h = simp (k, eq-eqb (length solution) n h)

  pub check_yes : system_rules n m starts vars constants ≡ Kept → length solution ≡ n → (check_call n m starts vars constants solution ≡ Yes) ↔ MeetsAll solution (equations m starts vars constants)
  check_yes k h =
      let es = equations m starts vars constants in
      ((λ e. met_meets solution es (yes_met (all_met solution es) (sym (check_kept k h) ∙ e))), (λ g. check_kept k h ∙ simp (meets_met solution es g)))

  pub check_no : system_rules n m starts vars constants ≡ Kept → length solution ≡ n → (check_call n m starts vars constants solution ≡ No) ↔ (MeetsAll solution (equations m starts vars constants) → ⊥)
  check_no k h =
      let es = equations m starts vars constants in
      ((λ e g. false≢true (sym (no_unmet (all_met solution es) (sym (check_kept k h) ∙ e)) ∙ meets_met solution es g)), (λ f. go (all_met solution es) refl f))
    where
      go : (b : Bool) → all_met solution (equations m starts vars constants) ≡ b → (MeetsAll solution (equations m starts vars constants) → ⊥) → check_call n m starts vars constants solution ≡ No
      go true q f = absurd (f (met_meets solution (equations m starts vars constants) q))
      go false q f = check_kept k h ∙ simp q

  -- whatever was lent, a yes means a system that fits and a solution of it
  pub check_sound : check_call n m starts vars constants solution ≡ Yes → (system_rules n m starts vars constants ≡ Kept) × (length solution ≡ n) × MeetsAll solution (equations m starts vars constants)
  unfolding check_call
  check_sound e =
      let q = checked_yes (system_rules n m starts vars constants) n (equations m starts vars constants) solution e in
      (q.0, q.1, met_meets solution (equations m starts vars constants) q.2)
