use Rattle.std.proofs.Common.{◌≡◌, ◌-◌, replicate}
use Rattle.areas.specs.Stretch.{put}
use Rattle.areas.proofs.fills.fill.Given as goal

abbrev pub invariant-loop-k : goal.invariant-loop-k
invariant-loop-k g l = l.area ≡ put l.from (replicate (l.k - l.from) l.value) l.initial.area
