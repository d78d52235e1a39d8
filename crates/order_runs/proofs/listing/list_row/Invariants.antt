use Rattle.std.proofs.Common.{◌+◌, ◌≤◌, length, ◌≡◌}
use Rattle.order_runs.proofs.listing.list_row.Given as goal

abbrev pub invariant-loop-v : goal.invariant-loop-v
invariant-loop-v l = (length l.vars ≡ length l.initial.vars) × (l.t ≤ l.at + l.v)
