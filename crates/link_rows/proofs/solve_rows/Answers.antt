use Rattle.std.proofs.Common.{sym, ap, ◌∙◌}
use Rattle.answers.specs.Calls.{Call}
use Rattle.link_form.specs.Serving.{kind_in, rows_in_file}
use Rattle.link_form.proofs.Behind.{rows_behind, length_served}
use Rattle.link_rows.proofs.Laying.{laid_is}
use Rattle.link_rows.proofs.solve_rows.Goals as goal

pub returns : goal.returns
returns c =
    let file = c.args.file.now in
    let l = c.load_rows-t.ensures in
    let s = c.solve_laid.ensures in
    let b = rows_behind file c.rows.result c.rows.ensures in
    let e =
    laid_is (kind_in file) file.form.n file.form.m c.load_rows-t.result (rows_in_file file) c.args.solution.now _ _ _ _ _ _ (length_served file) (rw b at (sym l.value)) (rw b at l.starts_after) (rw b at l.vars_after)
    (rw b at l.constants_after) in
    record { value = s.value ∙ ap (λ (r : Call). r.answer) e; solution_after = s.solution_after ∙ ap (λ (r : Call). r.solution) e }
