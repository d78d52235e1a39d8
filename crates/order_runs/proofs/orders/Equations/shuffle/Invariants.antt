use Rattle.std.proofs.Common.{◌≡◌}
use Rattle.order_runs.proofs.orders.Equations.shuffle.Given as goal

abbrev pub invariant-loop-last : goal.invariant-loop-last
invariant-loop-last l = l.self.m ≡ l.initial.self.m
