use Rattle.link_form.proofs.Reading.{Reading}
use Rattle.link_form.proofs.bytes.read_number.Given as goal

abbrev pub invariant-loop-k : goal.invariant-loop-k
invariant-loop-k l = Reading l.bytes l.at l.w l.number l.k
