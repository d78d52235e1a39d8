-- Load, solve, clear: the rooms are zero whatever came of it.
use Rattle.std.proofs.Common.{arith, ap}
use Rattle.rows.proofs.Holding.{held}
use Rattle.sparse_rows.specs.Reduction.{reduction_of}
use Rattle.sparse.proofs.Running.{run_refused, run_solved}
use Rattle.sparse.proofs.solve.run.Goals as goal

pub solve_rows-counted-requires : goal.solve_rows-counted-requires
solve_rows-counted-requires c = (held c.load.ensures, omega arith, c.requires.0.few_variables, c.requires.1, c.requires.0.few_equations)

pub returns-in-Ok : goal.returns-in-Ok
returns-in-Ok c =
    let s = c.solve_rows-counted.ensures in
    let e =
    run_solved _ _ _ _ _ _ _ _ _ _ _ c.load.ensures s.kept c.empty.ensures.numbers_after c.empty.ensures.words_after s.cancelled_value _ _ s.finished_by (ap reduction_of c.in-Ok.is) in
    record { answer_value = e.0; solution_after = e.1.0; numbers_after = e.1.1.0; words_after = e.1.1.1.0; cancelled_value = e.1.1.1.1 }

pub returns-in-Err : goal.returns-in-Err
returns-in-Err c =
    let s = c.solve_rows-counted.ensures in
    let e =
    run_refused _ _ _ _ _ _ _ _ _ _ _ c.load.ensures s.kept c.empty.ensures.numbers_after c.empty.ensures.words_after s.cancelled_value _ _ s.finished_by (ap reduction_of c.in-Err.is) in
    record { answer_value = e.0; solution_after = e.1.0; numbers_after = e.1.1.0; words_after = e.1.1.1.0; cancelled_value = e.1.1.1.1 }
