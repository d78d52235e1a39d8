use Rattle.std.proofs.Common.{length, ◌-◌, ◌≤◌}
use Rattle.replay.proofs.cases.read_full.Given as goal

abbrev pub invariant-loop-full : goal.invariant-loop-full
invariant-loop-full g l = l.full ≤ length l.bytes

abbrev pub decreases-loop-full : goal.decreases-loop-full
decreases-loop-full g l = length l.initial.bytes - l.full
