-- Refused before the run, or the run's own result.
use Rattle.std.proofs.Common.{refl, sym, ap, length}
use Rattle.answers.specs.Answers.{answer_of}
use Rattle.answers.specs.Sizes.{lazy_numbers, lazy_words}
use Rattle.answers.proofs.Calls.{call_ran}
use Rattle.answers.proofs.Gate.{gate_kept, gate_broken, gate_early}
use Rattle.answers.proofs.Reported.{none_counted, all_counted}
use Rattle.system.specs.Lent.{rules_in}
use Rattle.system.proofs.Soundness.{kept_sound, rules_early}
use Rattle.lazy_calls.specs.LazyCall.{lazy_call, lazy_answer_in}
use Rattle.lazy_calls.proofs.lazy_gaussian_elimination.Goals as goal

pub returns-in-Err : goal.returns-in-Err
unfolding lazy_call
returns-in-Err c =
    let s = c.args.system.now in let kn = lazy_numbers s.n s.m (length s.vars.now) in let kw = lazy_words s.m in
    let e = sym c.in-Err.ensures in
    let q = gate_broken s.n kn kw (lazy_answer_in s) c.args.solution.now c.args.numbers.now c.args.words.now (rules_in s) _ e in
    let b = gate_early s.n kn kw (lazy_answer_in s) c.args.solution.now c.args.numbers.now c.args.words.now (rules_in s) _ (rules_early s.n s.m s.starts.now s.vars.now s.constants.now) e in
    let t = none_counted _ (rw q (refl, (refl, (refl, refl)))) b.0 b.1 (ap answer_of c.refused.ensures.answer_value) c.refused.ensures.cancelled_value in
    record { tells = t.0; cancelled_value = t.1 }

pub run-requires : goal.run-requires
run-requires c =
    let s = c.args.system.now in
    let a = gate_kept s.n (lazy_numbers s.n s.m (length s.vars.now)) (lazy_words s.m) (lazy_answer_in s) c.args.solution.now c.args.numbers.now c.args.words.now (rules_in s) (sym c.in-Ok.ensures) in
    (kept_sound _ _ _ _ _ a.kept, a.sized, a.numbers_room, a.words_room)

pub returns-in-Ok : goal.returns-in-Ok
unfolding lazy_call
returns-in-Ok c =
    let s = c.args.system.now in let kn = lazy_numbers s.n s.m (length s.vars.now) in let kw = lazy_words s.m in
    let a = gate_kept s.n kn kw (lazy_answer_in s) c.args.solution.now c.args.numbers.now c.args.words.now (rules_in s) (sym c.in-Ok.ensures) in
    let q = call_ran s.n kn kw (lazy_answer_in s) c.args.solution.now c.args.numbers.now c.args.words.now (rules_in s) a in
    let e = c.run.ensures in
    let t = all_counted _ kn kw (lazy_answer_in s) c.args.solution.now c.args.numbers.now c.args.words.now
    (rw q (e.answer_value, (e.solution_after, (e.numbers_after, e.words_after)))) e.answer_value e.cancelled_value in
    record { tells = t.0; cancelled_value = t.1 }
