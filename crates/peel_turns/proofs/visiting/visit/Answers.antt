use Rattle.std.proofs.Common.{true, false, ◌∙◌, sym}
use borrow.Author.Tests.{eq-eqb, ne_eqb}
use Rattle.peel_turns.proofs.PictureLaws.{visited}
use Rattle.peel_turns.proofs.visiting.visit.Goals as goal
use Rattle.peel_turns.proofs.visiting.visit.Goals.{then-two, else-two}

pub returns : goal.returns
returns c =
    let d = c.degree_at-two.ensures in
    elim c.if-two.branch [
      | then-two w ↦ visited c.requires true d (sym (eq-eqb _ 2 w.if-two.true)) (w.head-is ∙ w.push-head.ensures.value) (w.numbers-is ∙ w.push-head.ensures.area) c.remove_at.ensures
      | else-two w ↦ visited c.requires false d (sym (ne_eqb _ 2 w.if-two.false)) w.head-is w.numbers-is c.remove_at.ensures
    ]
