-- The contract of `lazy_gaussian_elimination` determines its result and every lent cell: two results that meet it are equal.
use Rattle.std.proofs.Common.{◌≡◌, ℕ, List}
use contract.Lifetimes.{Lfts}
use denote.Triple.Clauses.{AtExit}
use borrow.Fn.Kinds.{Dens, ended_of}
use Rattle.answers.specs.declared.refusal.Built.{Built}
use Rattle.answers.specs.declared.refusal.Refusal.{Refusal}
use Rattle.answers.proofs.Determined.{built_determined}
use Rattle.system.specs.declared.System.{System}
use Rattle.system.specs.Lent.{equations_in}
use Rattle.lazy.specs.Cancelled.{lazy_cancels}
use Rattle.lazy_calls.specs.LazyCall.{lazy_call_in}
use Rattle.lazy_calls.proofs.lazy_gaussian_elimination.Kinds as kinds
use Rattle.lazy_calls.proofs.lazy_gaussian_elimination.Reads as lazy_gaussian_elimination

module _ (κs : Lfts 5) where
  abbrev Arguments : Type 0
  Arguments = Dens κs kinds.ps

  -- the parameters at exit, and of these the slices that are lent mutably
  abbrev Exit : Type 0
  Exit = AtExit (ended_of 5 kinds.ps kinds.r) κs

  abbrev solution : Exit → List ℕ
  solution e = e.1.0.now

  abbrev numbers : Exit → List ℕ
  numbers e = e.1.1.0.now

  abbrev words : Exit → List ℕ
  words e = e.1.1.1.0.now

  abbrev system : Arguments → System
  system a = a.0.now

  -- `Post` is the contract: what it says of the arguments, the result and the parameters at exit
  pub lazy_determined : (args : Arguments) (r r' : Built Refusal) (exit exit' : Exit) → lazy_gaussian_elimination.Post κs args r exit → lazy_gaussian_elimination.Post κs args r' exit'
      → (r ≡ r') × (solution exit ≡ solution exit') × (numbers exit ≡ numbers exit') × (words exit ≡ words exit')
  lazy_determined args r r' exit exit' p q =
      built_determined (lazy_call_in (system args) args.1.0.now args.1.1.0.now args.1.1.1.0.now) (lazy_cancels (system args).n (equations_in (system args))) r r' p q
