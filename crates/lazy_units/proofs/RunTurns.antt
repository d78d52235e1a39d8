-- The run, unit after unit.
use mathlib.Core.Path.{◌≡◌, refl, sym, ap, ◌∙◌, subst}
use mathlib.Core.List.{List}
use Prim.Native.Nat.{ℕ, zero, suc, ◌+◌, ◌-◌, ◌*◌, ◌≤◌, ◌<◌}
use native.Mathlib.Nat.{le_refl, mul-le-mul}
use native.Mathlib.Omega.{arith}
use lib.ListN.{length}
use Rattle.gf2.specs.Equation.{Equation}
use Rattle.gf2.specs.Result.{Result, unsolvable, ok}
use Rattle.lazy.specs.Lazy.{State, Build, more, ended, unit, after, answer_of}
use Rattle.lazy.proofs.Turns.{after_end}
use Rattle.answers.specs.Sizes.{max_variables, max_equations}
use Rattle.answers.specs.Answers as answer
use Rattle.lazy.specs.Cancelled.{unit_cancels, after_cancels}
use Rattle.gf2.proofs.Tally.{Tally, tally_begin, tally_turn, tally_last}
use Rattle.lazy_setup.specs.declared.Layout.{Layout}
use Rattle.lazy_setup.specs.declared.Stand.{Stand}
use Rattle.lazy_setup.specs.Layout.{stand_of}
use Rattle.lazy_pops.specs.Step.{Step}
use Rattle.lazy_pops.specs.Step as step
use Rattle.lazy_units.specs.Tidy.{Tidy}
use Rattle.lazy_units.specs.Units.{Stands, left, Gone, Over}
use Rattle.lazy_units.specs.Ending.{UnitAt}
use Rattle.lazy_units.specs.Running.{left_of, Answers}
use Rattle.lazy_units.proofs.UnitCases.{unit_room}

-- from s', k' units lead where k units lead from s
pub record Ahead (n : ℕ) (sys : List Equation) (s s' : State) (cancelled k : ℕ) : Type 0 where
  pub k' : ℕ
  pub enough : left s' < k'
  pub follows : after k n sys (more s) ≡ after k' n sys (more s')
  pub counts : Tally cancelled (after_cancels k' n sys (more s')) (after_cancels k n sys (more s))

pub record Running (n m : ℕ) (layout : Layout) (sys : List Equation) (s : State) (stand : Stand) (numbers words solution₀ solution : List ℕ) (cancelled : ℕ) : Type 0 where
  pub s' : State
  pub at : UnitAt n m layout sys s' stand numbers words solution
  pub same : solution ≡ solution₀
  pub ahead : (k : ℕ) → left s < k → Ahead n sys s s' cancelled k
  -- each unit so far has cancelled no more than the rows can hold
  pub room : cancelled + left s' * (m * n) ≤ left s * (m * n)

pub run_begin : {n m : ℕ} {layout : Layout} {sys : List Equation} {s : State} {stand : Stand} {numbers words solution : List ℕ}
    → UnitAt n m layout sys s stand numbers words solution → Running n m layout sys s stand numbers words solution solution 0
run_begin {s = s} a = record { s' = s; at = a; same = refl; ahead = λ k h. record { k' = k; enough = h; follows = refl; counts = tally_begin }; room = omega arith }

one_unit : (n : ℕ) (sys : List Equation) (s : State) (k : ℕ) → 0 < k → after k n sys (more s) ≡ after (k - 1) n sys (unit n sys s)
unfolding after
one_unit n sys s zero h = absurd (omega arith)
one_unit n sys s (suc k) h = let e : suc k - 1 ≡ k = omega arith in rw e

one_count : (n : ℕ) (sys : List Equation) (s : State) (k : ℕ) → 0 < k → after_cancels k n sys (more s) ≡ unit_cancels sys s + after_cancels (k - 1) n sys (unit n sys s)
unfolding after_cancels
one_count n sys s zero h = absurd (omega arith)
one_count n sys s (suc k) h = let e : suc k - 1 ≡ k = omega arith in rw e

none_ahead : (n : ℕ) (sys : List Equation) (k : ℕ) (x : Result (List ℕ)) → after_cancels k n sys (ended x) ≡ 0
unfolding after_cancels
none_ahead n sys zero x = refl
none_ahead n sys (suc k) x = refl

pub left_is : {n m : ℕ} {layout : Layout} {sys : List Equation} {s : State} {stand : Stand} {numbers words : List ℕ}
    → Stands n m layout sys s stand numbers words → left_of stand ≡ left s
unfolding stand_of
left_is st = ap (λ (x : Stand). left_of x) st.shows.counted

-- an equation that remains is counted twice, since it may come into the dense part
some_left : {n m : ℕ} {layout : Layout} {sys : List Equation} {s : State} {stand : Stand} {numbers words solution : List ℕ}
    → UnitAt n m layout sys s stand numbers words solution → m ≤ max_equations → suc (left s) ≤ 3 * max_equations + max_variables + 1
some_left {n} {m} {sys = sys} {s} a few =
    let z = a.stands.shows.laid.sized in let v = z.variables in let d = z.dense in let l = a.stands.shows.laid.many in let b = a.stands.fit.small in
    let r : s.remaining ≤ length sys = by s.remaining refl in omega arith
  where
    by : (k : ℕ) → s.remaining ≡ k → s.remaining ≤ length sys
    by zero e = omega arith
    by (suc k) e = let i = a.stands.fit.inv (omega arith) in omega (arith, i.in_units.room)

module _ {n m : ℕ} {layout : Layout} {sys : List Equation} {s : State} {stand : Stand} {numbers words solution₀ solution : List ℕ} {cancelled : ℕ}
    (i : Running n m layout sys s stand numbers words solution₀ solution cancelled) where
  -- what a further unit leaves
  record Went (stand'' : Stand) (numbers'' words'' solution'' : List ℕ) : Type 0 where
    pub s'' : State
    pub is : unit n sys i.s' ≡ more s''
    pub stands : Stands n m layout sys s'' stand'' numbers'' words''
    pub nearer : left s'' < left i.s'
    pub kept : solution'' ≡ solution

  went : (b : Build) → unit n sys i.s' ≡ b → (stand'' : Stand) (numbers'' words'' solution'' : List ℕ)
      → Gone n m layout sys i.s' b (step.More stand'') solution solution'' numbers'' words'' → Went stand'' numbers'' words'' solution''
  went (more s'') e stand'' numbers'' words'' solution'' g = record { s'' = s''; is = e; stands = g.0; nearer = g.1; kept = g.2 }
  went (ended unsolvable) e stand'' numbers'' words'' solution'' g = absurd g
  went (ended (ok x)) e stand'' numbers'' words'' solution'' g = absurd g

  pub run_turn : {r : Step} {t : ℕ} (stand'' : Stand) (numbers'' words'' solution'' : List ℕ) → Gone n m layout sys i.s' (unit n sys i.s') r solution solution'' numbers'' words'' → r ≡ step.More stand''
      → t ≡ unit_cancels sys i.s' → Running n m layout sys s stand'' numbers'' words'' solution₀ solution'' (cancelled + t)
  run_turn {r} {t} stand'' numbers'' words'' solution'' g e c =
      let w = went (unit n sys i.s') refl stand'' numbers'' words'' solution''
      (subst (λ (x : Step). Gone n m layout sys i.s' (unit n sys i.s') x solution solution'' numbers'' words'') e g) in
      record {
        s' = w.s'';
        at = record { stands = w.stands; long = ap (λ (l : List ℕ). length l) w.kept ∙ i.at.long };
        same = w.kept ∙ i.same;
        ahead = λ k h.
            let a = i.ahead k h in let p = a.enough in let q = w.nearer in
            record {
              k' = a.k' - 1;
              enough = omega arith;
              follows = a.follows ∙ one_unit n sys i.s' a.k' (omega arith) ∙ ap (λ (b : Build). after (a.k' - 1) n sys b) w.is;
              counts = tally_turn a.counts c (one_count n sys i.s' a.k' (omega arith) ∙ ap (λ (b : Build). unit_cancels sys i.s' + after_cancels (a.k' - 1) n sys b) w.is);
            };
        room =
            let u = unit_room i.at in
            let x : suc (left w.s'') * (m * n) ≤ left i.s' * (m * n) = mul-le-mul w.nearer (le_refl (m * n)) in
            let y = i.room in omega arith;
      }

  pub run_nearer : {r : Step} (stand'' : Stand) (numbers'' words'' solution'' : List ℕ) → Gone n m layout sys i.s' (unit n sys i.s') r solution solution'' numbers'' words'' → r ≡ step.More stand''
      → left_of stand'' < left_of stand
  run_nearer {r} stand'' numbers'' words'' solution'' g e =
      let w = went (unit n sys i.s') refl stand'' numbers'' words'' solution''
      (subst (λ (x : Step). Gone n m layout sys i.s' (unit n sys i.s') x solution solution'' numbers'' words'') e g) in
      let q = w.nearer in
      rw (left_is w.stands, left_is i.at.stands) q

  over : (b : Build) → unit n sys i.s' ≡ b → (r : Step) (solution'' numbers'' words'' : List ℕ)
      → Gone n m layout sys i.s' b r solution solution'' numbers'' words'' → ((x : Stand) → r ≡ step.More x → ⊥)
      → (k : ℕ) → left s < k → Over (answer_of (after k n sys (more s))) r solution₀ solution''
  over b e r solution'' numbers'' words'' g other k h =
      let a = i.ahead k h in
      let p = a.enough in
      let f : after k n sys (more s) ≡ after (a.k' - 1) n sys b = a.follows ∙ one_unit n sys i.s' a.k' (omega arith) ∙ ap (λ (b : Build). after (a.k' - 1) n sys b) e in
      by b g (f ∙ refl)
    where
      ends : (x : Result (List ℕ)) → after k n sys (more s) ≡ after ((i.ahead k h).k' - 1) n sys (ended x) → answer_of (after k n sys (more s)) ≡ x
      ends x f = ap answer_of (f ∙ after_end n sys ((i.ahead k h).k' - 1) x)

      refused : (r : Step) → ((x : Stand) → r ≡ step.More x → ⊥) → Gone n m layout sys i.s' (ended unsolvable) r solution solution'' numbers'' words'' → Over unsolvable r solution₀ solution''
      refused (step.More x) other g = g
      refused step.Solved other g = g
      refused step.Unsolvable other g = g.1 ∙ i.same

      solved : (y : List ℕ) (r : Step) → ((x : Stand) → r ≡ step.More x → ⊥) → Gone n m layout sys i.s' (ended (ok y)) r solution solution'' numbers'' words'' → Over (ok y) r solution₀ solution''
      solved y (step.More x) other g = g
      solved y step.Solved other g = g.1
      solved y step.Unsolvable other g = g

      going : (s'' : State) (r : Step) → ((x : Stand) → r ≡ step.More x → ⊥) → Gone n m layout sys i.s' (more s'') r solution solution'' numbers'' words'' → ⊥
      going s'' (step.More x) other g = other x refl
      going s'' step.Solved other g = g
      going s'' step.Unsolvable other g = g

      by : (b : Build) → Gone n m layout sys i.s' b r solution solution'' numbers'' words'' → after k n sys (more s) ≡ after ((i.ahead k h).k' - 1) n sys b
          → Over (answer_of (after k n sys (more s))) r solution₀ solution''
      by (more s'') g f = absurd (going s'' r other g)
      by (ended unsolvable) g f = subst (λ (x : Result (List ℕ)). Over x r solution₀ solution'') (sym (ends unsolvable f)) (refused r other g)
      by (ended (ok y)) g f = subst (λ (x : Result (List ℕ)). Over x r solution₀ solution'') (sym (ends (ok y) f)) (solved y r other g)

  -- the rows that a last unit leaves
  tidy : (b : Build) (r : Step) (solution'' numbers'' words'' : List ℕ) → Gone n m layout sys i.s' b r solution solution'' numbers'' words'' → ((x : Stand) → r ≡ step.More x → ⊥)
      → Tidy n m layout numbers''
  tidy b (step.More x) solution'' numbers'' words'' g other = absurd (other x refl)
  tidy (more s'') step.Solved solution'' numbers'' words'' g other = absurd g
  tidy (more s'') step.Unsolvable solution'' numbers'' words'' g other = absurd g
  tidy (ended unsolvable) step.Solved solution'' numbers'' words'' g other = absurd g
  tidy (ended unsolvable) step.Unsolvable solution'' numbers'' words'' g other = g.0
  tidy (ended (ok x)) step.Solved solution'' numbers'' words'' g other = g.0
  tidy (ended (ok x)) step.Unsolvable solution'' numbers'' words'' g other = absurd g

  ended_so : (e : Step) {r : Step} (solution'' numbers'' words'' : List ℕ) → Gone n m layout sys i.s' (unit n sys i.s') r solution solution'' numbers'' words'' → r ≡ e
      → ((x : Stand) → e ≡ step.More x → ⊥) → Tidy n m layout numbers'' × ((k : ℕ) → left s < k → Over (answer_of (after k n sys (more s))) e solution₀ solution'')
  ended_so e solution'' numbers'' words'' g q other =
      let h = subst (λ (x : Step). Gone n m layout sys i.s' (unit n sys i.s') x solution solution'' numbers'' words'') q g in
      (tidy (unit n sys i.s') e solution'' numbers'' words'' h other, over (unit n sys i.s') refl e solution'' numbers'' words'' h other)

  told_solved : (x : Result (List ℕ)) (solution'' : List ℕ) → Over x step.Solved solution₀ solution'' → Answers x answer.Solved solution₀ solution''
  told_solved unsolvable solution'' o = absurd o
  told_solved (ok x) solution'' o = (refl, o)

  told_refused : (x : Result (List ℕ)) (solution'' : List ℕ) → Over x step.Unsolvable solution₀ solution'' → Answers x answer.Unsolvable solution₀ solution''
  told_refused unsolvable solution'' o = (refl, o)
  told_refused (ok x) solution'' o = absurd o

  pub run_solved : {r : Step} (solution'' numbers'' words'' : List ℕ) → Gone n m layout sys i.s' (unit n sys i.s') r solution solution'' numbers'' words'' → r ≡ step.Solved
      → Tidy n m layout numbers'' × ((k : ℕ) → left s < k → Answers (answer_of (after k n sys (more s))) answer.Solved solution₀ solution'')
  run_solved solution'' numbers'' words'' g e =
      let o = ended_so step.Solved solution'' numbers'' words'' g e (λ x q. let z : ◌≡◌ {A = ℕ} 0 1 = cc in omega arith) in
      (o.0, λ k h. told_solved (answer_of (after k n sys (more s))) solution'' (o.1 k h))

  pub run_refused : {r : Step} (solution'' numbers'' words'' : List ℕ) → Gone n m layout sys i.s' (unit n sys i.s') r solution solution'' numbers'' words'' → r ≡ step.Unsolvable
      → Tidy n m layout numbers'' × ((k : ℕ) → left s < k → Answers (answer_of (after k n sys (more s))) answer.Unsolvable solution₀ solution'')
  run_refused solution'' numbers'' words'' g e =
      let o = ended_so step.Unsolvable solution'' numbers'' words'' g e (λ x q. let z : ◌≡◌ {A = ℕ} 0 1 = cc in omega arith) in
      (o.0, λ k h. told_refused (answer_of (after k n sys (more s))) solution'' (o.1 k h))

  -- the last unit: what was counted is all
  run_counted : {r : Step} {t : ℕ} (e : Step) (solution'' numbers'' words'' : List ℕ) → Gone n m layout sys i.s' (unit n sys i.s') r solution solution'' numbers'' words'' → r ≡ e
      → ((x : Stand) → e ≡ step.More x → ⊥) → t ≡ unit_cancels sys i.s' → (k : ℕ) → left s < k → cancelled + t ≡ after_cancels k n sys (more s)
  run_counted {r} {t} e solution'' numbers'' words'' g q other c k h =
      by (unit n sys i.s') refl (subst (λ (x : Step). Gone n m layout sys i.s' (unit n sys i.s') x solution solution'' numbers'' words'') q g)
    where
      going : (s'' : State) (r : Step) → ((x : Stand) → r ≡ step.More x → ⊥) → Gone n m layout sys i.s' (more s'') r solution solution'' numbers'' words'' → ⊥
      going s'' (step.More x) other g = other x refl
      going s'' step.Solved other g = g
      going s'' step.Unsolvable other g = g

      by : (b : Build) → unit n sys i.s' ≡ b → Gone n m layout sys i.s' b e solution solution'' numbers'' words'' → cancelled + t ≡ after_cancels k n sys (more s)
      by (more s'') f g = absurd (going s'' e other g)
      by (ended x) f g =
          let a = i.ahead k h in let p = a.enough in
          let o : after_cancels a.k' n sys (more i.s') ≡ unit_cancels sys i.s' + after_cancels (a.k' - 1) n sys (ended x) =
          one_count n sys i.s' a.k' (omega arith) ∙ ap (λ (b : Build). unit_cancels sys i.s' + after_cancels (a.k' - 1) n sys b) f in
          let z = none_ahead n sys (a.k' - 1) x in
          tally_last a.counts c (omega arith) refl

  pub count_solved : {r : Step} {t : ℕ} (solution'' numbers'' words'' : List ℕ) → Gone n m layout sys i.s' (unit n sys i.s') r solution solution'' numbers'' words'' → r ≡ step.Solved
      → t ≡ unit_cancels sys i.s' → (k : ℕ) → left s < k → cancelled + t ≡ after_cancels k n sys (more s)
  count_solved solution'' numbers'' words'' g e = run_counted step.Solved solution'' numbers'' words'' g e (λ x q. let z : ◌≡◌ {A = ℕ} 0 1 = cc in omega arith)

  pub count_refused : {r : Step} {t : ℕ} (solution'' numbers'' words'' : List ℕ) → Gone n m layout sys i.s' (unit n sys i.s') r solution solution'' numbers'' words'' → r ≡ step.Unsolvable
      → t ≡ unit_cancels sys i.s' → (k : ℕ) → left s < k → cancelled + t ≡ after_cancels k n sys (more s)
  count_refused solution'' numbers'' words'' g e = run_counted step.Unsolvable solution'' numbers'' words'' g e (λ x q. let z : ◌≡◌ {A = ℕ} 0 1 = cc in omega arith)

  -- .. and it fits 64 bits
  pub run_room : {stand₀ : Stand} {numbers₀ words₀ : List ℕ} {t : ℕ} → UnitAt n m layout sys s stand₀ numbers₀ words₀ solution₀ → m ≤ max_equations → t ≡ unit_cancels sys i.s'
      → cancelled + t ≤ (3 * max_equations + max_variables + 1) * (max_equations * max_variables)
  run_room a few c =
      let u = unit_room i.at in let y = i.room in
      let l : suc (left s) ≤ 3 * max_equations + max_variables + 1 = some_left a few in
      let w : m * n ≤ max_equations * max_variables = mul-le-mul few a.stands.fit.small in
      let x : suc (left s) * (m * n) ≤ (3 * max_equations + max_variables + 1) * (max_equations * max_variables) = mul-le-mul l w in
      omega arith
