-- The rules of a system and the lengths beside it, tried before a run: what the call is where they are kept, and where they are broken.
use mathlib.Core.Path.{◌≡◌, refl}
use mathlib.Core.Bool.{Bool, true, false, ◌&&◌}
use mathlib.Core.List.{List}
use Prim.Native.Nat.{ℕ, ◌≤◌}
use native.Mathlib.Omega.{arith}
use borrow.Author.Tests.{eqb-true, leb-true}
use lib.ListN.{length}
use lib.Dec.{eqb, leb}
use Rattle.gf2.proofs.Both.{both}
use Rattle.gf2.specs.Result.{Result}
use Rattle.answers.specs.Answers.{Answer, Rules, Kept, Broken, WrongSolution, ShortArea}
use Rattle.answers.specs.Numbers.{number_of}
use Rattle.answers.specs.Calls.{pick, refused, ran, solver_call, lengths_rules, both_rules}
use Rattle.answers.proofs.Calls.{Early, Admitted}

module _ (n kn kw : ℕ) (run : Result (List ℕ)) (solution numbers words : List ℕ) where
  -- what is lent beside the system, as the call tries it
  abbrev Lengths : Rules
  Lengths = lengths_rules n kn kw solution numbers words

  pub gate_kept : (rules : Rules) → both_rules rules Lengths ≡ Kept → Admitted n kn kw solution numbers words rules
  gate_kept (Broken answer) e = let z : ◌≡◌ {A = ℕ} 0 1 = cc in absurd (omega arith)
  gate_kept Kept e = go (eqb (length solution) n) (leb kn (length numbers) && leb kw (length words)) refl refl e
    where
      go : (a b : Bool) → eqb (length solution) n ≡ a → (leb kn (length numbers) && leb kw (length words)) ≡ b
          → pick a (pick b Kept (Broken ShortArea)) (Broken WrongSolution) ≡ Kept → Admitted n kn kw solution numbers words Kept
      go true true p q e =
          let r = both (leb kn (length numbers)) (leb kw (length words)) q in
          record { kept = refl; sized = eqb-true (length solution) n p; numbers_room = leb-true kn (length numbers) r.0; words_room = leb-true kw (length words) r.1 }
      go true false p q e = let z : ◌≡◌ {A = ℕ} 0 1 = cc in absurd (omega arith)
      go false b p q e = let z : ◌≡◌ {A = ℕ} 0 1 = cc in absurd (omega arith)

  pub gate_broken : (rules : Rules) (answer : Answer) → both_rules rules Lengths ≡ Broken answer
      → solver_call rules n kn kw run solution numbers words ≡ refused answer solution numbers words
  gate_broken (Broken other) answer e = let q : other ≡ answer = cc in rw q refl
  gate_broken Kept answer e = go (eqb (length solution) n) (leb kn (length numbers) && leb kw (length words)) e
    where
      go : (a b : Bool) → pick a (pick b Kept (Broken ShortArea)) (Broken WrongSolution) ≡ Broken answer
          → pick a (pick b (ran kn kw run solution numbers words) (refused ShortArea solution numbers words)) (refused WrongSolution solution numbers words)
          ≡ refused answer solution numbers words
      go true true e = let z : ◌≡◌ {A = ℕ} 0 1 = cc in absurd (omega arith)
      go true false e = let q : ShortArea ≡ answer = cc in rw q refl
      go false b e = let q : WrongSolution ≡ answer = cc in rw q refl

  -- a refusal before the run has a number from 1 to 5
  pub gate_early : (rules : Rules) (answer : Answer) → Early rules → both_rules rules Lengths ≡ Broken answer → (1 ≤ number_of answer) × (number_of answer ≤ 5)
  gate_early (Broken other) answer early e = let q : other ≡ answer = cc in rw (← q) (omega (arith, early.0), omega (arith, early.1))
  gate_early Kept answer early e = go (eqb (length solution) n) (leb kn (length numbers) && leb kw (length words)) e
    where
      go : (a b : Bool) → pick a (pick b Kept (Broken ShortArea)) (Broken WrongSolution) ≡ Broken answer → (1 ≤ number_of answer) × (number_of answer ≤ 5)
      go true true e = let z : ◌≡◌ {A = ℕ} 0 1 = cc in absurd (omega arith)
      go true false e = let q : ShortArea ≡ answer = cc in rw (← q) (omega arith, omega arith)
      go false b e = let q : WrongSolution ≡ answer = cc in rw (← q) (omega arith, omega arith)
