-- What a solver's call leaves, read back from its answer: for any rules, rooms and run.
use mathlib.Core.Path.{◌≡◌, refl, sym, ap, ◌∙◌}
use mathlib.Core.Logic.{◌≢◌, ◌⊎◌, inl, inr}
use mathlib.Core.Bool.{Bool, true, false, ◌&&◌, false≢true}
use mathlib.Core.List.{List}
use Prim.Native.Nat.{ℕ, ◌≤◌}
use native.Mathlib.Omega.{arith}
use borrow.Author.Tests.{eq-eqb, eqb-true, le-leb, leb-true}
use lib.ListN.{length}
use lib.Dec.{eqb, leb}
use Rattle.gf2.proofs.Both.{both}
use Rattle.gf2.specs.Result.{Result, unsolvable, ok}
use Rattle.areas.specs.Stretch.{cleared}
use Rattle.answers.specs.Numbers.{number_of}
use Rattle.answers.specs.Calls.{Call, pick, refused, ran, solver_call}
use Rattle.answers.specs.Answers.{Answer}
use Rattle.answers.specs.Answers.{Solved, WrongSolution, ShortArea, Unsolvable}
use Rattle.answers.specs.Answers.{Rules}
use Rattle.answers.specs.Answers.{Kept, Broken}

-- what is refused before the solution and the areas has a number from 1 to 3
abbrev pub Early : Rules → Type 0
Early Kept = Unit {0}
Early (Broken answer) = (1 ≤ number_of answer) × (number_of answer ≤ 3)

pub early_from : (rules : Rules) → ((answer : Answer) → rules ≡ Broken answer → (1 ≤ number_of answer) × (number_of answer ≤ 3)) → Early rules
early_from Kept f = tt
early_from (Broken answer) f = f answer refl

-- the call comes to its run: the rules are kept, the solution has n words, and each area has its room
pub record Admitted (n kn kw : ℕ) (solution numbers words : List ℕ) (rules : Rules) : Type 0 where
  pub kept : rules ≡ Kept
  pub sized : length solution ≡ n
  pub numbers_room : kn ≤ length numbers
  pub words_room : kw ≤ length words

-- a run ends with 0 or 6
pub ran_two : (kn kw : ℕ) (run : Result (List ℕ)) (solution numbers words : List ℕ)
    → ((ran kn kw run solution numbers words).answer ≡ Solved) ⊎ ((ran kn kw run solution numbers words).answer ≡ Unsolvable)
ran_two kn kw unsolvable solution numbers words = inr refl
ran_two kn kw (ok x) solution numbers words = inl refl

module _ (n kn kw : ℕ) (run : Result (List ℕ)) (solution numbers words : List ℕ) where
  pub call_ran : (rules : Rules) → Admitted n kn kw solution numbers words rules → solver_call rules n kn kw run solution numbers words ≡ ran kn kw run solution numbers words
  call_ran rules a =
      simp (a.kept, eq-eqb (length solution) n a.sized, le-leb kn (length numbers) a.numbers_room, le-leb kw (length words) a.words_room)

  -- a call that comes to its run answers 0 or 6
  pub call_two : (rules : Rules) → Admitted n kn kw solution numbers words rules
      → ((solver_call rules n kn kw run solution numbers words).answer ≡ Solved) ⊎ ((solver_call rules n kn kw run solution numbers words).answer ≡ Unsolvable)
  call_two rules a = rw (call_ran rules a) (ran_two kn kw run solution numbers words)

  -- each way that a call can go, with what it says
  pub data Way : Rules → Call → Type 0 where
    broken : {answer : Answer} → Way (Broken answer) (refused answer solution numbers words)
    wrong : (length solution ≡ n → ⊥) → Way Kept (refused WrongSolution solution numbers words)
    short : length solution ≡ n → (leb kn (length numbers) && leb kw (length words)) ≡ false → Way Kept (refused ShortArea solution numbers words)
    runs : Admitted n kn kw solution numbers words Kept → Way Kept (ran kn kw run solution numbers words)

  pub way : (rules : Rules) → Way rules (solver_call rules n kn kw run solution numbers words)
  way (Broken answer) = broken
  way Kept = go (eqb (length solution) n) (leb kn (length numbers) && leb kw (length words)) refl refl
    where
      go : (a b : Bool) → eqb (length solution) n ≡ a → (leb kn (length numbers) && leb kw (length words)) ≡ b → Way Kept (pick a (pick b (ran kn kw run solution numbers words) (refused ShortArea solution numbers words)) (refused WrongSolution solution numbers words))
      go true true p q =
          let r = both (leb kn (length numbers)) (leb kw (length words)) q in
          runs (record { kept = refl; sized = eqb-true (length solution) n p; numbers_room = leb-true kn (length numbers) r.0; words_room = leb-true kw (length words) r.1 })
      go true false p q = short (eqb-true (length solution) n p) q
      go false b p q = wrong (λ e. false≢true (sym p ∙ eq-eqb (length solution) n e))

  -- ---- from the answer back to the run

  solved_way : {rules : Rules} {call : Call} → Way rules call → Early rules → call.answer ≡ Solved → Admitted n kn kw solution numbers words rules × (run ≡ ok call.solution)
  solved_way (broken {answer}) early e =
      let z : number_of answer ≡ 0 = ap number_of e in
      absurd (omega (arith, early.0))
  solved_way (wrong h) early e = let z : ◌≡◌ {A = ℕ} 0 1 = cc in absurd (omega arith)
  solved_way (short h k) early e = let z : ◌≡◌ {A = ℕ} 0 1 = cc in absurd (omega arith)
  solved_way (runs a) early e = (a, go run e)
    where
      go : (r : Result (List ℕ)) → (ran kn kw r solution numbers words).answer ≡ Solved → r ≡ ok (ran kn kw r solution numbers words).solution
      go unsolvable e = let z : ◌≡◌ {A = ℕ} 0 1 = cc in absurd (omega arith)
      go (ok x) e = refl

  -- 0 only where the call came to its run and the run has this solution
  pub solved_call : (rules : Rules) → Early rules → (solver_call rules n kn kw run solution numbers words).answer ≡ Solved → Admitted n kn kw solution numbers words rules × (run ≡ ok (solver_call rules n kn kw run solution numbers words).solution)
  solved_call rules = solved_way (way rules)

  unsolvable_way : {rules : Rules} {call : Call} → Way rules call → Early rules → call.answer ≡ Unsolvable → Admitted n kn kw solution numbers words rules × (run ≡ unsolvable)
  unsolvable_way (broken {answer}) early e =
      let z : number_of answer ≡ 6 = ap number_of e in
      absurd (omega (arith, early.1))
  unsolvable_way (wrong h) early e = let z : ◌≡◌ {A = ℕ} 0 1 = cc in absurd (omega arith)
  unsolvable_way (short h k) early e = let z : ◌≡◌ {A = ℕ} 0 1 = cc in absurd (omega arith)
  unsolvable_way (runs a) early e = (a, go run e)
    where
      go : (r : Result (List ℕ)) → (ran kn kw r solution numbers words).answer ≡ Unsolvable → r ≡ unsolvable
      go unsolvable e = refl
      go (ok x) e = let z : ◌≡◌ {A = ℕ} 0 1 = cc in absurd (omega arith)

  -- 6 only where the call came to its run and the run has none
  pub unsolvable_call : (rules : Rules) → Early rules → (solver_call rules n kn kw run solution numbers words).answer ≡ Unsolvable → Admitted n kn kw solution numbers words rules × (run ≡ unsolvable)
  unsolvable_call rules = unsolvable_way (way rules)

  -- and the other way round
  pub ok_call : (rules : Rules) → Admitted n kn kw solution numbers words rules → (x : List ℕ) → run ≡ ok x → solver_call rules n kn kw run solution numbers words ≡ ran kn kw (ok x) solution numbers words
  ok_call rules a x e = call_ran rules a ∙ ap (λ r. ran kn kw r solution numbers words) e

  pub none_call : (rules : Rules) → Admitted n kn kw solution numbers words rules → run ≡ unsolvable → solver_call rules n kn kw run solution numbers words ≡ ran kn kw unsolvable solution numbers words
  none_call rules a e = call_ran rules a ∙ ap (λ r. ran kn kw r solution numbers words) e

  -- ---- what is left in the cells

  keeps_way : {rules : Rules} {call : Call} → Way rules call → call.answer ≢ Solved → call.solution ≡ solution
  keeps_way broken h = refl
  keeps_way (wrong g) h = refl
  keeps_way (short g k) h = refl
  keeps_way (runs a) h = go run h
    where
      go : (r : Result (List ℕ)) → (ran kn kw r solution numbers words).answer ≢ Solved → (ran kn kw r solution numbers words).solution ≡ solution
      go unsolvable h = refl
      go (ok x) h = absurd (h refl)

  -- every number but 0 keeps the solution as lent
  pub call_keeps : (rules : Rules) → (solver_call rules n kn kw run solution numbers words).answer ≢ Solved → (solver_call rules n kn kw run solution numbers words).solution ≡ solution
  call_keeps rules = keeps_way (way rules)

  untouched_way : {rules : Rules} {call : Call} → Way rules call → 1 ≤ number_of call.answer → number_of call.answer ≤ 5 → (call.numbers ≡ numbers) × (call.words ≡ words)
  untouched_way broken h k = (refl, refl)
  untouched_way (wrong g) h k = (refl, refl)
  untouched_way (short g l) h k = (refl, refl)
  untouched_way (runs a) h k = absurd (go run h k)
    where
      go : (r : Result (List ℕ)) → 1 ≤ number_of (ran kn kw r solution numbers words).answer → number_of (ran kn kw r solution numbers words).answer ≤ 5 → ⊥
      go unsolvable h k = omega arith
      go (ok x) h k = omega arith

  -- after 1 to 5 the work areas are untouched
  pub call_untouched : (rules : Rules) → 1 ≤ number_of (solver_call rules n kn kw run solution numbers words).answer → number_of (solver_call rules n kn kw run solution numbers words).answer ≤ 5 → ((solver_call rules n kn kw run solution numbers words).numbers ≡ numbers) × ((solver_call rules n kn kw run solution numbers words).words ≡ words)
  call_untouched rules = untouched_way (way rules)

  ran_cleared : (rules : Rules) → Admitted n kn kw solution numbers words rules → ((solver_call rules n kn kw run solution numbers words).numbers ≡ cleared kn numbers) × ((solver_call rules n kn kw run solution numbers words).words ≡ cleared kw words)
  ran_cleared rules a = rw (call_ran rules a) (go run)
    where
      go : (r : Result (List ℕ)) → ((ran kn kw r solution numbers words).numbers ≡ cleared kn numbers) × ((ran kn kw r solution numbers words).words ≡ cleared kw words)
      go unsolvable = (refl, refl)
      go (ok x) = (refl, refl)

  -- after 0 and 6 the room part of each work area is zero and the remainder untouched
  pub call_cleared : (rules : Rules) → Early rules → ((solver_call rules n kn kw run solution numbers words).answer ≡ Solved) ⊎ ((solver_call rules n kn kw run solution numbers words).answer ≡ Unsolvable)
      → ((solver_call rules n kn kw run solution numbers words).numbers ≡ cleared kn numbers) × ((solver_call rules n kn kw run solution numbers words).words ≡ cleared kw words)
  call_cleared rules early (inl e) = ran_cleared rules (solved_call rules early e).0
  call_cleared rules early (inr e) = ran_cleared rules (unsolvable_call rules early e).0

  sized_way : {rules : Rules} {call : Call} → Way rules call → ((x : List ℕ) → run ≡ ok x → length x ≡ n) → length call.solution ≡ length solution
  sized_way broken f = refl
  sized_way (wrong g) f = refl
  sized_way (short g k) f = refl
  sized_way (runs a) f = go run f
    where
      go : (r : Result (List ℕ)) → ((x : List ℕ) → r ≡ ok x → length x ≡ n) → length (ran kn kw r solution numbers words).solution ≡ length solution
      go unsolvable f = refl
      go (ok x) f = f x refl ∙ sym a.sized

  -- the solution keeps its length
  pub call_sized : (rules : Rules) → ((x : List ℕ) → run ≡ ok x → length x ≡ n) → length (solver_call rules n kn kw run solution numbers words).solution ≡ length solution
  call_sized rules = sized_way (way rules)
