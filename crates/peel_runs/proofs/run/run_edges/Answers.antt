use Rattle.peel_runs.proofs.RunLaws.{past_building, past_more}
use Rattle.peel_runs.proofs.run.run_edges.Goals as goal

pub returns-clause-past : goal.returns-clause-past
returns-clause-past g c = past_more (past_building c.build_graph-low.ensures) c.run_graph.ensures.past
