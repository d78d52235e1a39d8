use Rattle.answers.proofs.Told.{tells_answer}
use Rattle.link_rows.proofs.Laying.{lazy_solver, sparse_solver}
use Rattle.link_rows.proofs.solve_by_kind.Goals as goal

pub returns-then-eq : goal.returns-then-eq
returns-then-eq c =
    let t = c.lazy_gaussian_elimination-built.ensures.tells in
    rw (lazy_solver c.args.kind c.if-eq.ensures) (record { value = tells_answer t; solution_after = t.solution_is })

pub returns-else-eq : goal.returns-else-eq
returns-else-eq c =
    let t = c.gaussian_elimination-built.ensures.tells in
    rw (sparse_solver c.args.kind c.if-eq.ensures) (record { value = tells_answer t; solution_after = t.solution_is })
