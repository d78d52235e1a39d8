use Rattle.std.proofs.Common.{sym, ap, ◌∙◌}
use Rattle.std.proofs.lemmas.Result.{err_from_is_err_and}
use Rattle.link_form.proofs.Header.{malformed, form_read}
use Rattle.link_form.specs.Forms.{scan_told}
use Rattle.link_form.proofs.form.read_form.Goals as goal

pub returns-in_err-kind-clause-value : goal.returns-in_err-kind-clause-value
returns-in_err-kind-clause-value c =
    let p = err_from_is_err_and c.from_residual.result c.from_residual.ensures.1 in
    rw p.1 (sym (malformed c.args.bytes.now c.in_err-kind.ensures.tells.0))

pub returns-in_err-t-clause-value : goal.returns-in_err-t-clause-value
returns-in_err-t-clause-value c =
    let p = err_from_is_err_and c.from_residual-in_err-t.result c.from_residual-in_err-t.ensures.1 in
    let h = c.in_err-t.ensures in
    let k = c.in_ok-kind.ensures.tells in
    rw p.1
    (form_read c.args.bytes.now c.in_ok-kind.kind c.read_number-n.result c.read_number-m.result _ _ k.0 k.1 c.read_number-n.ensures.value c.read_number-m.ensures.value c.of_file.ensures
    (sym (ap scan_told h.ok_part) ∙ c.listed.ensures))

pub returns-clause-value : goal.returns-clause-value
returns-clause-value c =
    let h = c.in_ok-t.ensures in
    let k = c.in_ok-kind.ensures.tells in
    form_read c.args.bytes.now c.in_ok-kind.kind c.read_number-n.result c.read_number-m.result _ _ k.0 k.1 c.read_number-n.ensures.value c.read_number-m.ensures.value c.of_file.ensures
    (sym (ap scan_told h.ok_part) ∙ c.listed.ensures)
