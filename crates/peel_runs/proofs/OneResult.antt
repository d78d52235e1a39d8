-- Two results that meet a peeler's contract are equal: what is handed back, and every lent cell.
use Rattle.std.proofs.Common.{◌≡◌, refl, sym, ap, ◌∙◌, List, ℕ, Result, Ok, Err}
use Rattle.answers.specs.Answers.{Stuck, refusal_of}
use Rattle.answers.specs.declared.refusal.Refusal.{Refusal}
use Rattle.answers.specs.declared.refusal.Refusal.TheVariants as refusal
use Rattle.answers.specs.declared.refusal.Unpeeled.{Unpeeled}
use Rattle.answers.specs.declared.refusal.Unpeeled.TheVariants as unpeeled
use Rattle.answers.proofs.Determined.{same_refusal, same_result}
use Rattle.peel_rules.specs.Calls.{PeelCall}
use Rattle.peel_gates.specs.Ends.{Peeling, peeling_of}
use Rattle.peel_runs.specs.Runs.{Leaves}

pub leaves_one : {c : PeelCall} {r q : Peeling} {s t n k b d : List ℕ} → Leaves c r s n b → Leaves c q t k d → (r ≡ q) × (s ≡ t) × (n ≡ k) × (b ≡ d)
leaves_one x y = (
  λ i. record { answer = (x.answer ∙ sym y.answer) i; report = (x.report ∙ sym y.report) i },
  x.solution_is ∙ sym y.solution_is,
  x.numbers_are ∙ sym y.numbers_are,
  x.bytes_are ∙ sym y.bytes_are,
)

-- ---- and so of the results that come to them

refused_not_stuck : (r : Refusal) (k : ℕ) → refusal_of r ≡ Stuck k → ⊥
refused_not_stuck refusal.TooLarge k e = cc
refused_not_stuck refusal.BadShape k e = cc
refused_not_stuck (refusal.BadEntry place) k e = cc
refused_not_stuck refusal.WrongSolution k e = cc
refused_not_stuck refusal.ShortArea k e = cc
refused_not_stuck refusal.Unsolvable k e = cc
refused_not_stuck (refusal.CrowdedVertex vertex) k e = cc
refused_not_stuck refusal.BadFile k e = cc
refused_not_stuck refusal.OutsideDomain k e = cc

solved_not_refused : (r : Refusal) → peeling_of {A = Unit {0}} (Ok tt) ≡ peeling_of {A = Unit {0}} (Err (unpeeled.Refused r)) → ⊥
solved_not_refused r e = let same : ◌≡◌ {A = Result (Unit {0}) Refusal} (Ok tt) (Err r) = same_result (Ok tt) (Err r) (ap (λ (p : Peeling). p.answer) e) in cc

pub same_peeling : (r q : Result (Unit {0}) Unpeeled) → peeling_of r ≡ peeling_of q → r ≡ q
same_peeling (Ok x) (Ok y) e = refl
same_peeling (Ok x) (Err (unpeeled.Refused r)) e = absurd (solved_not_refused r e)
same_peeling (Err (unpeeled.Refused r)) (Ok x) e = absurd (solved_not_refused r (sym e))
same_peeling (Ok x) (Err (unpeeled.Stuck a)) e = let f = ap (λ (p : Peeling). p.answer) e in cc
same_peeling (Err (unpeeled.Stuck a)) (Ok x) e = let f = ap (λ (p : Peeling). p.answer) e in cc
same_peeling (Err (unpeeled.Refused r)) (Err (unpeeled.Refused q)) e = ap (λ (f : Refusal). Err (unpeeled.Refused f)) (same_refusal r q (ap (λ (p : Peeling). p.answer) e))
same_peeling (Err (unpeeled.Refused r)) (Err (unpeeled.Stuck b)) e = absurd (refused_not_stuck r b.peeled (ap (λ (p : Peeling). p.answer) e))
same_peeling (Err (unpeeled.Stuck a)) (Err (unpeeled.Refused q)) e = absurd (refused_not_stuck q a.peeled (ap (λ (p : Peeling). p.answer) (sym e)))
same_peeling (Err (unpeeled.Stuck a)) (Err (unpeeled.Stuck b)) e = ap (λ (p : Peeling). Err (unpeeled.Stuck p.report)) e

pub results_one : {c : PeelCall} {r q : Result (Unit {0}) Unpeeled} {s t n k b d : List ℕ} → Leaves c (peeling_of r) s n b → Leaves c (peeling_of q) t k d
    → (r ≡ q) × (s ≡ t) × (n ≡ k) × (b ≡ d)
results_one {r = r} {q = q} x y = let one = leaves_one x y in (same_peeling r q one.0, one.1, one.2, one.3)
