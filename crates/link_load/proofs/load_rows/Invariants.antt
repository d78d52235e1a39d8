use Rattle.link_form.specs.File.{rows_in}
use Rattle.link_form.specs.Rows.{rows_of}
use Rattle.link_load.proofs.Loading.{Loading}
use Rattle.link_load.proofs.load_rows.Given as goal

abbrev pub invariant-loop-i : goal.invariant-loop-i
invariant-loop-i l =
    Loading l.initial.left l.left l.m (rows_in (rows_of l.m l.initial.left)) l.fn.starts l.fn.vars l.fn.constants l.starts l.vars l.constants l.listed l.i
