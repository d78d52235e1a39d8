use lib.ListN.{drop}
use Rattle.link_form.specs.File.{width, header_bytes}
use Rattle.link_form.specs.Lent.{file_rows}
use Rattle.link_form.proofs.Standing.{rows_alike, served_alike}
use Rattle.link_rows.proofs.Laying.{rows_call_alike}
use Rattle.link_rows.proofs.solve_rows_of.Goals as goal

pub invariant_of-file : goal.invariant_of-file
invariant_of-file c = record { served = served_alike c.standing_for-kind.ensures c.requires }

pub returns : goal.returns
returns c =
    let a = c.args in
    let k = c.standing_for-kind.ensures in
    let r = rows_alike k width a.m (drop header_bytes a.bytes.now) in
    rw (rows_call_alike k a.n (file_rows a.kind a.m a.bytes.now) a.solution.now) at (rw r at c.solve_rows.ensures)
