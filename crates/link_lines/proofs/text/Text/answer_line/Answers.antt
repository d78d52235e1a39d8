use Rattle.link_lines.specs.Lines.{answer_line}
use Rattle.link_lines.proofs.Lining.{adds_more}
use Rattle.link_lines.proofs.text.Text.answer_line.Goals as goal

pub returns : goal.returns
unfolding answer_line
returns c = adds_more (rw c.from.ensures at c.number.ensures.adds) c.number-2.ensures.adds
