use Rattle.std.proofs.lemmas.Result.{err_from_is_err_and}
use Rattle.link_file.proofs.Texts.{by_peeling, by_elimination}
use Rattle.link_file.proofs.solving.solve.Goals as goal

pub returns-then-eq : goal.returns-then-eq
returns-then-eq c =
    let s = c.solve_edges.ensures in
    rw (by_peeling c.args.file.now c.args.solution.now c.if-eq.ensures) (record { value = s.value; solution_after = s.solution_after })

pub returns-in_err-solve_rows : goal.returns-in_err-solve_rows
returns-in_err-solve_rows c =
    let s = c.in_err-solve_rows.ensures in
    let p = err_from_is_err_and c.from_residual.result c.from_residual.ensures.1 in
    rw (by_elimination c.args.file.now c.args.solution.now c.if-eq.ensures, p.1, p.2) (record { value = s.value; solution_after = s.solution_after })

pub returns : goal.returns
returns c =
    let s = c.in_ok-solve_rows.ensures in
    rw (by_elimination c.args.file.now c.args.solution.now c.if-eq.ensures) (record { value = s.value; solution_after = s.solution_after })
