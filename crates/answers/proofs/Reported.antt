-- What a call reports of the sums that it made, by its answer.
use mathlib.Core.Path.{◌≡◌, refl, sym, ap, ◌∙◌}
use mathlib.Core.List.{List}
use Prim.Native.Nat.{ℕ, ◌≤◌}
use native.Mathlib.Omega.{arith}
use borrow.Author.Tests.{ne_eqb}
use Rattle.gf2.specs.Result.{Result, unsolvable, ok}
use Rattle.answers.specs.Numbers.{number_of, place_of}
use Rattle.answers.specs.Calls.{Call, ran, solver_call}
use Rattle.answers.specs.Reported.{reported}
use Rattle.answers.specs.Told.{Tells}
use Rattle.answers.specs.Answers.{Answer}
use Rattle.answers.specs.Answers.{Solved, WrongSolution, ShortArea, Unsolvable}
use Rattle.answers.specs.Answers.{Rules}
use Rattle.answers.specs.Answers.{Kept}
use Rattle.answers.proofs.Told.{Says, tells}
use Rattle.answers.proofs.Calls.{Early, Way, broken, wrong, short, runs, way}

pub reported_refused : (answer : Answer) (total : ℕ) → 1 ≤ number_of answer → number_of answer ≤ 5 → reported answer total ≡ 0
unfolding reported
reported_refused answer total h k = rw (ne_eqb (number_of answer) 0 (omega arith), ne_eqb (number_of answer) 6 (omega arith)) refl

-- a call that comes to its run reports it all
pub reported_ran : (kn kw : ℕ) (run : Result (List ℕ)) (solution numbers words : List ℕ) (total : ℕ) → reported (ran kn kw run solution numbers words).answer total ≡ total
unfolding reported
reported_ran kn kw unsolvable solution numbers words total = refl
reported_ran kn kw (ok x) solution numbers words total = refl

-- ---- what a call tells, and with it what it counted

module _ (total : ℕ) {answer : Answer} {c : Call} {t : ℕ} {solution numbers words : List ℕ} where
  -- no sum was made
  pub none_counted : {a : Answer} → Says c a solution numbers words → 1 ≤ number_of a → number_of a ≤ 5 → answer ≡ a → t ≡ 0
      → Tells c (number_of answer) (place_of answer) solution numbers words × (t ≡ reported c.answer total)
  none_counted {a} s h k e z = (tells (e ∙ s.0, s.1), z ∙ sym (reported_refused a total h k) ∙ ap (λ (x : Answer). reported x total) s.0)

  -- the run made them all
  pub all_counted : (kn kw : ℕ) (run : Result (List ℕ)) (x a w : List ℕ) → Says c answer solution numbers words
      → answer ≡ (ran kn kw run x a w).answer → t ≡ total → Tells c (number_of answer) (place_of answer) solution numbers words × (t ≡ reported c.answer total)
  all_counted kn kw run x a w s e z = (tells s, z ∙ sym (reported_ran kn kw run x a w total) ∙ ap (λ (y : Answer). reported y total) (sym e ∙ s.0))

-- ---- of the call

-- 0 after 1 to 5; after 0 and after 6 the total
pub data Reports (total : ℕ) : Answer → ℕ → Type 0 where
  at_refusal : (answer : Answer) → 1 ≤ number_of answer → number_of answer ≤ 5 → Reports total answer 0
  at_solved : Reports total Solved total
  at_unsolvable : Reports total Unsolvable total

module _ (n kn kw : ℕ) (run : Result (List ℕ)) (solution numbers words : List ℕ) (total : ℕ) where
  of_way : {rules : Rules} {call : Call} → Way n kn kw run solution numbers words rules call → Early rules → Reports total call.answer (reported call.answer total)
  unfolding reported
  of_way (broken {answer}) early =
      rw (ne_eqb (number_of answer) 0 (omega (arith, early.0)), ne_eqb (number_of answer) 6 (omega (arith, early.1))) (at_refusal answer early.0 (omega (arith, early.1)))
  of_way (wrong h) early = at_refusal WrongSolution (omega arith) (omega arith)
  of_way (short h k) early = at_refusal ShortArea (omega arith) (omega arith)
  of_way (runs a) early = go run
    where
      go : (r : Result (List ℕ)) → Reports total (ran kn kw r solution numbers words).answer (reported (ran kn kw r solution numbers words).answer total)
      go unsolvable = at_unsolvable
      go (ok x) = at_solved

  pub call_reports : (rules : Rules) → Early rules
      → Reports total (solver_call rules n kn kw run solution numbers words).answer (reported (solver_call rules n kn kw run solution numbers words).answer total)
  call_reports rules = of_way (way n kn kw run solution numbers words rules)

  below_way : {rules : Rules} {call : Call} {most : ℕ} → Way n kn kw run solution numbers words rules call → Early rules → (rules ≡ Kept → total ≤ most)
      → reported call.answer total ≤ most
  unfolding reported
  below_way (broken {answer}) early h =
      rw (ne_eqb (number_of answer) 0 (omega (arith, early.0)), ne_eqb (number_of answer) 6 (omega (arith, early.1))) (omega arith)
  below_way (wrong g) early h = omega arith
  below_way (short g k) early h = omega arith
  below_way {most = most} (runs a) early h = rw (reported_ran kn kw run solution numbers words total) (h refl)

  -- what bounds the total of all that keeps its rules bounds what is told
  pub call_reports_le : {most : ℕ} (rules : Rules) → Early rules → (rules ≡ Kept → total ≤ most) → reported (solver_call rules n kn kw run solution numbers words).answer total ≤ most
  call_reports_le rules = below_way (way n kn kw run solution numbers words rules)
