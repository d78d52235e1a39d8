-- The contract of `rules` determines its result: two results that meet it are equal. Nothing is lent that could change.
use Rattle.std.proofs.Common.{◌≡◌, sym, ◌∙◌, Result}
use contract.Lifetimes.{Lfts}
use denote.Triple.Clauses.{AtExit}
use borrow.Fn.Kinds.{Dens, ended_of}
use Rattle.answers.specs.declared.refusal.Refusal.{Refusal}
use Rattle.answers.proofs.Determined.{same_rules}
use Rattle.system.proofs.System.rules.Kinds as kinds
use Rattle.system.proofs.System.rules.Reads as rules

-- `Post` is the contract: what it says of the arguments, the result, and the parameters at exit
pub rules_determined : (κs : Lfts 2) (args : Dens κs kinds.ps) (r r' : Result (Unit {0}) Refusal) (exit exit' : AtExit (ended_of 2 kinds.ps kinds.r) κs) → rules.Post κs args r exit → rules.Post κs args r' exit' → r ≡ r'
rules_determined κs args r r' exit exit' p q = same_rules r r' (p ∙ sym q)
