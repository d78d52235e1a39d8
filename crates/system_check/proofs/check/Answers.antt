-- Each return is the law of its case.
use Rattle.std.proofs.Common.{sym, ap, ◌∙◌}
use Rattle.std.proofs.lemmas.Result.{err_from_is_err_and}
use Rattle.answers.specs.Calls.{pick}
use Rattle.system.proofs.Soundness.{kept_sound}
use Rattle.system_check.specs.CheckCall.{Yes, No}
use Rattle.system_check.proofs.Checking.{check_refused, check_wrong, check_kept, checked_by}
use Rattle.system_check.proofs.Meeting.{fits_solution}
use Rattle.system_check.proofs.check.Goals as goal

pub returns-in_err-rules : goal.returns-in_err-rules
returns-in_err-rules c =
    let p = err_from_is_err_and c.from_residual.result c.from_residual.ensures.1 in
    rw (p.1, p.2) (sym (check_refused _ _ _ _ _ _ _ (sym c.in_err-rules.ensures)))

pub returns-then-solution-system : goal.returns-then-solution-system
returns-then-solution-system c = sym (check_wrong _ _ _ _ _ _ (sym c.in_ok-rules.ensures) c.if-solution-system.true)

pub all_met-requires : goal.all_met-requires
all_met-requires c = fits_solution _ c.if-solution-system.false (kept_sound _ _ _ _ _ (sym c.in_ok-rules.ensures))

pub returns : goal.returns
returns c =
    checked_by c.all_met.result ∙ ap (λ b. pick b Yes No) c.all_met.ensures ∙ sym (check_kept _ _ _ _ _ _ (sym c.in_ok-rules.ensures) c.if-solution-system.false)
