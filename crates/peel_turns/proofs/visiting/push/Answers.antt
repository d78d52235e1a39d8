use Rattle.peel_turns.proofs.StackLaws.{push_from}
use Rattle.peel_turns.proofs.visiting.push.Goals as goal

pub returns-clause-area : goal.returns-clause-area
returns-clause-area c = push_from _ _ _ c.args.n c.args.v.0 c.requires c.push.ensures.stack
