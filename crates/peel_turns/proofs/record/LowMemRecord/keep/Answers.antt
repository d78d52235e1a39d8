use Rattle.std.proofs.Common.{refl, ◌-◌}
use Rattle.peel_turns.proofs.StackLaws.{push_upper_from}
use Rattle.peel_turns.proofs.record.LowMemRecord.keep.Goals as goal

pub returns-clause-numbers_after : goal.returns-clause-numbers_after
returns-clause-numbers_after c =
    push_upper_from _ _ (record { lower = 0; upper = c.args.n - c.args.k }) c.args.n c.args.k c.args.v.0 c.requires.2.0 c.requires.2.1 refl refl c.push_upper.ensures.stack
