use Rattle.std.proofs.Common.{◌≤◌}
use Rattle.order_runs.proofs.runs.Runs.system.Given as goal

abbrev pub invariant-loop-order : goal.invariant-loop-order
invariant-loop-order l = l.equations.m ≤ 60
