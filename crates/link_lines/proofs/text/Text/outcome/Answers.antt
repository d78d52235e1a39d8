use Rattle.std.proofs.Common.{sym, ◌∙◌, arith}
use borrow.Author.Tests.{eqb-true, eqb-false}
use Rattle.answers.specs.Answers.{answer_by}
use Rattle.answers.specs.Numbers.{number_of, place_of}
use Rattle.link_lines.proofs.Lining.{adds_more, answer_short, solved_text, refused_text}
use Rattle.link_lines.proofs.text.Text.outcome.Goals as goal

pub values-requires : goal.values-requires
values-requires g c =
    let a = answer_by g.E.Numbered.answer c.args.answer.now in
    let s = answer_short (number_of a) (place_of a) in
    let r = c.refusal.ensures in
    omega (arith, c.requires, r.end, r.long)

pub returns-then-has_values : goal.returns-then-has_values
returns-then-has_values g c =
    let a = answer_by g.E.Numbered.answer c.args.answer.now in
    let z = eqb-true c.number.result 0 (sym c.has_values.ensures ∙ c.if-has_values.true) in
    rw (← (solved_text a c.args.values.now (sym c.number.ensures ∙ z))) (adds_more c.refusal.ensures c.values.ensures)

pub returns-else-has_values : goal.returns-else-has_values
returns-else-has_values g c =
    let a = answer_by g.E.Numbered.answer c.args.answer.now in
    let f = eqb-false c.number.result 0 (sym c.has_values.ensures ∙ c.if-has_values.false) in
    rw (← (refused_text a c.args.values.now (λ e. f (c.number.ensures ∙ e)))) c.refusal.ensures
