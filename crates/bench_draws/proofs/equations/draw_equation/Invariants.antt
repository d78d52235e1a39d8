use Rattle.std.proofs.Common.{◌+◌, ◌≤◌, length}
use Rattle.bench_draws.proofs.equations.draw_equation.Given as goal

abbrev pub invariant-loop-drawn : goal.invariant-loop-drawn
invariant-loop-drawn l = l.v + length l.vars ≤ length l.values + l.drawn
