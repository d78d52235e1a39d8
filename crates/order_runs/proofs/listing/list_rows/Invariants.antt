use Rattle.std.proofs.Common.{◌*◌, ◌≤◌, length, ◌≡◌}
use Rattle.order_runs.proofs.listing.list_rows.Given as goal

abbrev pub invariant-loop-i : goal.invariant-loop-i
invariant-loop-i l = (length l.starts ≡ length l.initial.starts) × (length l.vars ≡ length l.initial.vars) × (l.t ≤ 80 * l.i)
