-- Refused before the run, with no sum made, or the run.
use Rattle.std.proofs.Common.{sym, ap, ◌∙◌}
use Rattle.answers.specs.Answers.{answer_of, rules_of}
use Rattle.answers.specs.Sizes.{sparse_numbers, sparse_words}
use Rattle.answers.proofs.Gate.{gate_kept, gate_early}
use Rattle.answers.proofs.Reported.{none_counted, all_counted}
use Rattle.system.specs.Lent.{rules_in, equations_in}
use Rattle.system.proofs.Soundness.{kept_sound, rules_early}
use Rattle.sparse_rules.specs.Eliminate.{gaussian_elimination}
use Rattle.sparse_rules.proofs.Ladder.{call_refused, call_run}
use Rattle.sparse.proofs.gaussian_elimination.Goals as goal

pub run-requires : goal.run-requires
run-requires c =
    let s = c.args.system.now in
    let k = sym c.admitted.ensures ∙ ap rules_of c.in-Ok.is in
    let a =
    gate_kept s.n (sparse_numbers s.n s.m) (sparse_words s.m) (gaussian_elimination s.n (equations_in s)) c.args.solution.now c.args.numbers.now c.args.words.now (rules_in s) k in
    (kept_sound _ _ _ _ _ a.kept, a.sized, a.numbers_room, a.words_room)

pub returns-in-Err : goal.returns-in-Err
returns-in-Err c =
    let s = c.args.system.now in
    let k = sym c.admitted.ensures ∙ ap rules_of c.in-Err.is in
    let early =
    gate_early s.n (sparse_numbers s.n s.m) (sparse_words s.m) (gaussian_elimination s.n (equations_in s)) c.args.solution.now c.args.numbers.now c.args.words.now (rules_in s) _
    (rules_early _ _ _ _ _) k in
    let r = none_counted _ (call_refused _ _ _ _ _ _ _ _ _ k) early.0 early.1 (ap answer_of c.refused.ensures.answer_value) c.refused.ensures.cancelled_value in
    record { tells = r.0; cancelled_value = r.1 }

pub returns-in-Ok : goal.returns-in-Ok
returns-in-Ok c =
    let s = c.args.system.now in
    let k = sym c.admitted.ensures ∙ ap rules_of c.in-Ok.is in
    let e = c.run.ensures in
    let r =
    all_counted _ (sparse_numbers s.n s.m) (sparse_words s.m) (gaussian_elimination s.n (equations_in s)) c.args.solution.now c.args.numbers.now c.args.words.now
    (call_run _ _ _ _ _ _ _ _ k _ _ _ _ (e.answer_value, (e.solution_after, (e.numbers_after, e.words_after)))) e.answer_value e.cancelled_value in
    record { tells = r.0; cancelled_value = r.1 }
