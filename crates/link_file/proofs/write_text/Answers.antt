use Rattle.std.proofs.Common.{◌≡◌, Err, sym, ap, ◌∙◌, arith}
use Rattle.std.proofs.lemmas.Result.{IfErr-at_err}
use Rattle.answers.specs.declared.refusal.Refusal.TheVariants.{BadFile}
use Rattle.link_form.specs.Forms.{form_told}
use Rattle.link_form.specs.Kinds.{number_of_kind}
use Rattle.link_form.proofs.Loadable.{loadable}
use Rattle.link_lines.proofs.Lining.{adds_more, header_short}
use Rattle.link_file.specs.Text.{version}
use Rattle.link_file.proofs.Texts.{malformed_text, described_text}
use Rattle.link_file.proofs.write_text.Goals as goal

pub write_answer-requires-clause-room : goal.write_answer-requires-clause-room
write_answer-requires-clause-room c =
    let f = c.in-Ok.form in
    let h = c.header_line.ensures in
    let s = header_short version c.from.result f.n f.m in
    omega (arith, c.requires, h.end, h.long)

pub returns-in-Err : goal.returns-in-Err
returns-in-Err c =
    let h = c.read_form-read.ensures in
    let b = IfErr-at_err (λ refusal. refusal ≡ BadFile) c.in-Err.is h.refusal in
    let e = c.in-Err.is ∙ ap Err b in
    rw (malformed_text c.args.bytes.now (sym h.value ∙ ap form_told c.in-Err.is)) (rw e at c.refusal.ensures)

pub returns-in-Ok : goal.returns-in-Ok
returns-in-Ok c =
    let f = c.in-Ok.form in
    let read = sym c.read_form-read.ensures.value ∙ ap form_told c.in-Ok.is in
    let l = loadable c.args.bytes.now (number_of_kind f.kind) f.n f.m f.t read in
    rw (← (described_text l)) (adds_more (rw c.from.ensures at c.header_line.ensures) c.write_answer.ensures)
