-- The contract of `slow_gaussian_elimination` determines its result and every lent cell: two results that meet it are equal.
use mathlib.Core.Path.{◌≡◌}
use mathlib.Core.List.{List}
use Prim.Native.Nat.{ℕ}
use contract.Lifetimes.{Lfts}
use denote.Triple.Clauses.{AtExit}
use borrow.Fn.Kinds.{Dens, ended_of}
use Rattle.std.specs.Prelude.{Result}
use Rattle.answers.specs.Calls.{Call}
use Rattle.answers.specs.declared.refusal.Refusal.{Refusal}
use Rattle.answers.proofs.Determined.{result_determined}
use Rattle.dense_rows.specs.declared.system.DenseSystem.{DenseSystem}
use Rattle.slow_rules.specs.SlowCall.{slow_call}
use Rattle.slow_dense.proofs.slow_gaussian_elimination.Kinds as kinds
use Rattle.slow_dense.proofs.slow_gaussian_elimination.Reads as slow_gaussian_elimination

module _ (κs : Lfts 5) where
  abbrev Arguments : Type 0
  Arguments = Dens κs kinds.ps

  -- the parameters at exit, and of these the slices that are lent mutably
  abbrev Exit : Type 0
  Exit = AtExit (ended_of 5 kinds.ps kinds.r) κs

  abbrev solution : Exit → List ℕ
  solution e = e.1.0.now

  abbrev numbers : Exit → List ℕ
  numbers e = e.1.1.0.now

  abbrev words : Exit → List ℕ
  words e = e.1.1.1.0.now

  abbrev system : Arguments → DenseSystem
  system a = a.0.now

  abbrev call : Arguments → Call
  call a = let s = system a in slow_call s.n s.m s.w s.rows.now s.constants.now a.1.0.now a.1.1.0.now a.1.1.1.0.now

  -- `Post` is the contract: what it says of the arguments, the result and the parameters at exit
  pub slow_determined : (args : Arguments) (r r' : Result (Unit {0}) Refusal) (exit exit' : Exit) → slow_gaussian_elimination.Post κs args r exit → slow_gaussian_elimination.Post κs args r' exit'
      → (r ≡ r') × (solution exit ≡ solution exit') × (numbers exit ≡ numbers exit') × (words exit ≡ words exit')
  slow_determined args r r' exit exit' p q = result_determined (call args) r r' p q
