-- The contract of `gaussian_elimination` determines its result and every lent cell: two results that meet it are equal.
use mathlib.Core.Path.{◌≡◌}
use mathlib.Core.List.{List}
use Prim.Native.Nat.{ℕ}
use contract.Lifetimes.{Lfts}
use denote.Triple.Clauses.{AtExit}
use borrow.Fn.Kinds.{Dens, ended_of}
use Rattle.answers.specs.Calls.{Call}
use Rattle.answers.specs.declared.refusal.Built.{Built}
use Rattle.answers.specs.declared.refusal.Refusal.{Refusal}
use Rattle.answers.proofs.Determined.{built_determined}
use Rattle.system.specs.Lent.{equations_in}
use Rattle.system.specs.declared.System.{System}
use Rattle.sparse_rules.specs.SparseCall.{sparse_call}
use Rattle.sparse_rules.specs.Cancelled.{sparse_cancels}
use Rattle.sparse.proofs.gaussian_elimination.Kinds as kinds
use Rattle.sparse.proofs.gaussian_elimination.Reads as gaussian_elimination

module _ (κs : Lfts 5) where
  abbrev Arguments : Type 0
  Arguments = Dens κs kinds.ps

  -- the parameters at exit, and of these the slices that are lent mutably
  abbrev Exit : Type 0
  Exit = AtExit (ended_of 5 kinds.ps kinds.r) κs

  abbrev solution : Exit → List ℕ
  solution e = e.1.0.now

  abbrev numbers : Exit → List ℕ
  numbers e = e.1.1.0.now

  abbrev words : Exit → List ℕ
  words e = e.1.1.1.0.now

  abbrev call : Arguments → Call
  call a = let s : System = a.0.now in sparse_call s.n s.m s.starts.now s.vars.now s.constants.now a.1.0.now a.1.1.0.now a.1.1.1.0.now

  -- `Post` is the contract: what it says of the arguments, the result and the parameters at exit
  pub sparse_determined : (args : Arguments) (r r' : Built Refusal) (exit exit' : Exit) → gaussian_elimination.Post κs args r exit → gaussian_elimination.Post κs args r' exit'
      → (r ≡ r') × (solution exit ≡ solution exit') × (numbers exit ≡ numbers exit') × (words exit ≡ words exit')
  sparse_determined args r r' exit exit' p q = built_determined (call args) (sparse_cancels (equations_in args.0.now)) r r' p q
