-- Numbers as decimal digits, the highest first, and lines of them.
use Rattle.std.specs.Prelude.{List, [], ◌∷◌, true, false, ℕ, zero, suc, ◌+◌, ◌-◌, ◌*◌, ◌/◌, ◌%◌, ltb}

-- no 64-bit number has more decimal digits
abbrev pub most_digits : ℕ
most_digits = 20

-- the digits of x before those that stand already; at most `count` of them
unfoldable pub digits_before : ℕ → ℕ → List ℕ → List ℕ
digits_before zero x after = after
digits_before (suc count) x after = elim (ltb x 10) [ true ↦ (48 + x) ∷ after | false ↦ digits_before count (x / 10) ((48 + x % 10) ∷ after) ]

unfoldable pub decimal : ℕ → List ℕ
decimal x = digits_before most_digits x []

-- the number that digits say
unfoldable pub said : ℕ → List ℕ → ℕ
said so_far [] = so_far
said so_far (d ∷ digits) = said (so_far * 10 + (d - 48)) digits
