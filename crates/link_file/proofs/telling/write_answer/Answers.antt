use Rattle.std.proofs.Common.{sym, ◌∙◌}
use Rattle.link_form.specs.Kinds.{number_of_kind}
use Rattle.link_form.proofs.Loadable.{loadable}
use Rattle.link_file.proofs.Texts.{served_is, small_text, large_text}
use Rattle.link_file.proofs.telling.write_answer.Goals as goal

pub invariant_of-file : goal.invariant_of-file
invariant_of-file c =
    let f = c.args.form.now in
    let l = loadable c.args.bytes.now (number_of_kind f.kind) f.n f.m f.t c.requires.read in
    record { served = served_is l (sym c.is_served.ensures ∙ c.if-is_served.true) }

pub returns-then-is_served : goal.returns-then-is_served
returns-then-is_served c =
    let f = c.args.form.now in
    let l = loadable c.args.bytes.now (number_of_kind f.kind) f.n f.m f.t c.requires.read in
    rw (← (small_text l (sym c.is_served.ensures ∙ c.if-is_served.true))) c.write_served.ensures

pub returns-else-is_served : goal.returns-else-is_served
returns-else-is_served c =
    let f = c.args.form.now in
    let l = loadable c.args.bytes.now (number_of_kind f.kind) f.n f.m f.t c.requires.read in
    rw (← (large_text l (sym c.is_served.ensures ∙ c.if-is_served.false))) c.refusal.ensures
