use Rattle.link_lines.proofs.Lining.{Listing}
use Rattle.link_lines.proofs.text.Text.values.Given as goal

abbrev pub invariant-loop-value : goal.invariant-loop-value
invariant-loop-value l = Listing l.values l.initial.self l.self l.value-index
