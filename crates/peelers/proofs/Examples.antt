-- What the stuck reports of P7 and P8 tell, as the f64 that it is.
use mathlib.Core.Path.{◌≡◌, refl}
use mathlib.Core.Bool.{false}
use lib.IntN.{pos, negsuc}
use lib.Ieee.{fin, mul, div, of_int, round, units, odd, span, climb, size}
use Rattle.peel_rules.specs.Report.{report_of}

-- 25 · 2 ^ 2
pub P7_float : (report_of 0 2).unpeeled ≡ fin false 25 (pos 2)
unfolding of_int mul div round units odd span climb size
P7_float = refl

-- 4691249611844267 / 2 ^ 46, the nearest to 200 / 3
pub P8_float : (report_of 1 3).unpeeled ≡ fin false 4691249611844267 (negsuc 45)
unfolding of_int mul div round units odd span climb size
P8_float = refl
