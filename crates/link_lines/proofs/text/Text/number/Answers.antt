use Rattle.std.proofs.Common.{[], ◌∷◌, ◌++◌, ◌∙◌, arith}
use Rattle.std.specs.Fmt.{decimal}
use Rattle.link_lines.specs.Lines.{ended}
use Rattle.link_lines.specs.Text.{Adds}
use Rattle.link_lines.proofs.Digits.{same_decimal}
use Rattle.link_lines.proofs.Lining.{adds_more}
use Rattle.link_lines.proofs.text.Text.number.Goals as goal

pub returns-clause-adds : goal.returns-clause-adds
unfolding ended
returns-clause-adds c =
    let e = c.as_bytes.ensures.value ∙ c.format.ensures.text in
    let a : Adds (decimal c.args.x ++ (c.args.end ∷ [])) c.args.self.now c.push-2.new.self = adds_more (rw e at c.push.ensures) c.push-2.ensures in
    rw (same_decimal c.args.x (omega (arith, c.ranges))) a
