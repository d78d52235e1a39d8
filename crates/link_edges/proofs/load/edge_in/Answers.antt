use Rattle.link_edges.proofs.EdgeRows.{edge_made, edge_passed}
use Rattle.link_edges.proofs.load.edge_in.Goals as goal

pub returns-clause-value : goal.returns-clause-value
returns-clause-value c =
    let a = c.variable.ensures in
    let b = c.variable-2.ensures in
    let d = c.variable-3.ensures in
    let v = c.constant-value.ensures in
    edge_made a.passed b.passed d.passed v.passed c.requires.kind a.value b.value d.value v.value

pub returns-clause-passed : goal.returns-clause-passed
returns-clause-passed c = edge_passed c.variable.ensures.passed c.variable-2.ensures.passed c.variable-3.ensures.passed c.constant-value.ensures.passed
