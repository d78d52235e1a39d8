use Rattle.link_form.proofs.Scanning.{Scanning}
use Rattle.link_form.proofs.rows.Rows.listed.Given as goal

abbrev pub invariant-loop-row : goal.invariant-loop-row
invariant-loop-row l = Scanning l.initial.self l.self l.m l.t l._row
