-- Counts of edges as floats: the cast is exact, and 100.0 is a count.
use mathlib.Core.Path.{◌≡◌, refl}
use Prim.Native.Nat.{ℕ, ◌≤◌, ◌^◌}
use native.Mathlib.Omega.{arith}
use lib.Dec.{T, le→leb}
use lib.IntN.{pos}
use lib.Ieee.{binary64, in_float, of_int, of_bits, of_fields, round, units, odd, span, climb, size}
use Rattle.answers.specs.Sizes.{max_equations}
-- .. and so is 0.0
pub use Rattle.answers.proofs.Counts.{nothing}
use Rattle.peel_rules.specs.Report.{count}

pub count_exact : (k : ℕ) → k ≤ max_equations → T (in_float binary64 (pos k))
unfolding in_float
count_exact k h = le→leb k (2 ^ 53) (omega arith)

-- 100.0, by its bits
pub hundred : of_bits binary64 4636737291354636288 ≡ count 100
unfolding of_int of_bits of_fields round units odd span climb size
hundred = refl
