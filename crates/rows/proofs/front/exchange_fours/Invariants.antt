use mathlib.Core.Path.{◌≡◌}
use Prim.Native.Nat.{◌*◌}
use Rattle.areas.specs.Stretch.{exchanged}
use Rattle.rows.proofs.front.exchange_fours.Given as goal

abbrev pub invariant-loop-k : goal.invariant-loop-k
invariant-loop-k g l = l.numbers ≡ exchanged l.p l.q (4 * l.k) l.fn.numbers
