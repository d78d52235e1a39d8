-- The contract of `check` determines its result: two results that meet it are equal. Nothing is lent that could change.
use Rattle.std.proofs.Common.{◌≡◌, refl, sym, ap, ◌∙◌, Bool, true, false, Result, Ok, Err}
use contract.Lifetimes.{Lfts}
use denote.Triple.Clauses.{AtExit}
use borrow.Fn.Kinds.{Dens, ended_of}
use Rattle.answers.specs.declared.refusal.Refusal.{Refusal}
use Rattle.answers.proofs.Determined.{same_refusal}
use Rattle.system_check.specs.CheckCall.{checked_of}
use Rattle.system_check.proofs.check.Kinds as kinds
use Rattle.system_check.proofs.check.Reads as check

-- what a result comes to determines it
pub same_checked : (r s : Result Bool Refusal) → checked_of r ≡ checked_of s → r ≡ s
same_checked (Ok true) (Ok true) e = refl
same_checked (Ok true) (Ok false) e = cc
same_checked (Ok true) (Err b) e = cc
same_checked (Ok false) (Ok true) e = cc
same_checked (Ok false) (Ok false) e = refl
same_checked (Ok false) (Err b) e = cc
same_checked (Err a) (Ok true) e = cc
same_checked (Err a) (Ok false) e = cc
same_checked (Err a) (Err b) e = ap (λ (x : Refusal). Err x) (same_refusal a b cc)

-- `Post` is the contract: what it says of the arguments, the result, and the parameters at exit
pub check_determined : (κs : Lfts 3) (args : Dens κs kinds.ps) (r r' : Result Bool Refusal) (exit exit' : AtExit (ended_of 3 kinds.ps kinds.r) κs) → check.Post κs args r exit → check.Post κs args r' exit' → r ≡ r'
check_determined κs args r r' exit exit' p q = same_checked r r' (p ∙ sym q)
