use Rattle.peel_runs.proofs.RunLaws.{ends_crowded, ran_on}
use Rattle.peel_runs.proofs.run.run_graph.Goals as goal

pub returns-in-Some-clause-answer : goal.returns-in-Some-clause-answer
returns-in-Some-clause-answer g c = rw c.crowded.ensures (ends_crowded (rw c.in-Some.is at c.requires))

pub returns-clause-answer : goal.returns-clause-answer
returns-clause-answer g c = ran_on (rw c.in_default.is at c.requires) c.peel_and_fill.ensures.answer
