-- The contract of `sum` determines what it hands back and every lent cell: two results that meet it are equal.
use mathlib.Core.Path.{◌≡◌}
use contract.Lifetimes.{Lfts}
use denote.Triple.Clauses.{AtExit}
use borrow.Fn.Kinds.{Dens, ended_of}
use Rattle.std.specs.Prelude.{Result}
use Rattle.answers.specs.declared.refusal.Refusal.{Refusal}
use Rattle.equation.specs.declared.Summed.{Summed}
use Rattle.equation.proofs.Telling.{sum_one}
use Rattle.equation.proofs.sum.Kinds as kinds
use Rattle.equation.proofs.sum.Reads as sum

-- `Post` is the contract: what it says of the arguments, what is handed back, and the parameters at exit; the last of these is `out`
pub sum_determined : (κs : Lfts 3) (args : Dens κs kinds.ps) (r r' : Result Summed Refusal) (exit exit' : AtExit (ended_of 3 kinds.ps kinds.r) κs)
    → sum.Post κs args r exit → sum.Post κs args r' exit' → (r ≡ r') × (exit.1.1.1.1.0.now ≡ exit'.1.1.1.1.0.now)
sum_determined κs args r r' exit exit' p q = sum_one r r' p q
