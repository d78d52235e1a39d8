use Rattle.std.proofs.Common.{◌≤◌, length}
use Rattle.bench_draws.proofs.equations.draw_equations.Given as goal

abbrev pub invariant-loop-i : goal.invariant-loop-i
invariant-loop-i l = l.t ≤ length l.vars
