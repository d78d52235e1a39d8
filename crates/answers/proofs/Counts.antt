-- The report that tells nothing: its constant is a count.
use mathlib.Core.Path.{◌≡◌, refl}
use lib.Ieee.{of_int, of_bits, of_fields, round, units, odd, span, climb, size, binary64}
use Rattle.answers.specs.Report.{count}

-- 0.0, by its bits
pub nothing : of_bits binary64 0 ≡ count 0
unfolding of_int of_bits of_fields round units odd span climb size
nothing = refl
