use Rattle.peel_runs.proofs.RunLaws.{run_left}
use Rattle.peel_runs.proofs.run.run_peeler.Goals as goal

pub returns : goal.returns
returns g c = run_left c.args.solution.now c.run_edges-end.ensures.answer c.run_edges-end.ensures.past c.clear_room.ensures
