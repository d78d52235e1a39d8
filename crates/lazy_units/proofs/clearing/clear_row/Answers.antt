use Rattle.std.proofs.Common.{ap, arith}
use Rattle.sparse_rows.specs.Reduction.{reduction_of}
use Rattle.lazy_units.proofs.ClearRow.{clear_fits, clear_refused, clear_more, clear_count}
use Rattle.lazy_units.proofs.clearing.clear_row.Goals as goal

pub clear_dense-row-requires : goal.clear_dense-row-requires
clear_dense-row-requires c = clear_fits c.requires.at

pub overflow_add-next : goal.overflow_add-next
overflow_add-next c = let b = clear_fits c.requires.at in omega arith

pub returns-in-Err : goal.returns-in-Err
returns-in-Err c =
    let q = c.clear_dense-row.ensures in
    record { going = λ sys s a. clear_refused a q.cleared (ap reduction_of c.in-Err.is); cancelled_value = λ sys s a. clear_count a q.cancelled_value }

pub returns-in-Ok : goal.returns-in-Ok
returns-in-Ok c =
    let q = c.clear_dense-row.ensures in
    record { going = λ sys s a. clear_more a q.cleared (ap reduction_of c.in-Ok.is); cancelled_value = λ sys s a. clear_count a q.cancelled_value }
