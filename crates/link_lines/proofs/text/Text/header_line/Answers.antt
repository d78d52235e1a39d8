use Rattle.link_lines.specs.Lines.{header_line}
use Rattle.link_lines.proofs.Lining.{adds_more}
use Rattle.link_lines.proofs.text.Text.header_line.Goals as goal

pub returns : goal.returns
unfolding header_line
returns c =
    adds_more c.push.ensures (adds_more c.number.ensures.adds (adds_more c.number-2.ensures.adds (adds_more c.number-3.ensures.adds c.number-4.ensures.adds)))
