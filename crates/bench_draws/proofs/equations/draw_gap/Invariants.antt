use Rattle.std.proofs.Common.{◌+◌, ◌-◌, ◌≤◌}
use Rattle.bench_draws.proofs.equations.draw_gap.Given as goal

abbrev pub invariant-loop-gap : goal.invariant-loop-gap
invariant-loop-gap l = l.gap + l.left ≤ l.span

abbrev pub decreases-loop-gap : goal.decreases-loop-gap
decreases-loop-gap l = l.span - l.gap
