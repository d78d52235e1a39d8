use Rattle.link_edges.proofs.Filling.{table_lent}
use Rattle.link_edges.proofs.solve.solve_edges.Goals as goal

pub returns : goal.returns
returns c =
    let lent = table_lent c.args.file.now c.rows.result c.load_edges-table.result c.rows.ensures c.load_edges-table.ensures in
    rw lent at c.peel_lent.ensures
