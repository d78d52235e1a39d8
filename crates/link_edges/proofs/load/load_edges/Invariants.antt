use Rattle.link_form.specs.File.{rows_in}
use Rattle.link_form.specs.Rows.{rows_of}
use Rattle.link_edges.proofs.Filling.{Filling}
use Rattle.link_edges.proofs.load.load_edges.Given as goal

abbrev pub invariant-loop-i : goal.invariant-loop-i
invariant-loop-i l = Filling l.left l.m (rows_in (rows_of l.m l.initial.left)) l.i l.table
