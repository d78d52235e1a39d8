-- Echelon form, which makes all the sums, and then what is left of the rows.
use Rattle.std.proofs.Common.{◌≡◌, ap}
use Rattle.sparse_rows.specs.Reduction.{Unsolvable, reduction_of}
use Rattle.sparse_rows.proofs.Solving.{solve_stop, solve_held, solve_done}
use Rattle.sparse_rows.proofs.solve.solve_rows.Goals as goal

pub finish_rows-requires : goal.finish_rows-requires
finish_rows-requires c =
    (solve_held c.requires.1 c.requires.0.count c.echelon_form-form.ensures.reduces (ap reduction_of c.in-Ok.is), c.requires.1, c.requires.3)

pub returns-in-Err : goal.returns-in-Err
returns-in-Err c =
    let e : reduction_of c.echelon_form-form.result.end ≡ Unsolvable = ap reduction_of c.in-Err.is in
    let r = solve_stop c.requires.1 c.requires.0.count c.args.solution.now c.echelon_form-form.ensures.reduces e in
    record { finished_by = rw e r.0; kept = r.1; cancelled_value = c.echelon_form-form.ensures.cancelled_value }

pub returns-in-Ok : goal.returns-in-Ok
returns-in-Ok c =
    let r =
    solve_done c.requires.1 c.requires.0.count _ _ c.echelon_form-form.ensures.reduces (ap reduction_of c.in-Ok.is) c.finish_rows.ensures in
    record { finished_by = r.0; kept = r.1; cancelled_value = c.echelon_form-form.ensures.cancelled_value }
