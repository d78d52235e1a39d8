-- Decimal digits, laid from the last one down, and that they are those of the library.
use mathlib.Core.Path.{◌≡◌, ◌∙◌}
use mathlib.Core.List.{List, [], ◌∷◌, append-nil}
use Prim.Native.Nat.{ℕ, zero, suc, ◌+◌, ◌*◌, ◌/◌, ◌%◌, ◌^◌, ◌≤◌, ◌<◌}
use native.Mathlib.Numerals.{add-one}
use native.Mathlib.Omega.{arith}
use borrow.Author.Tests.{lt-ltb, le-ltb}
use Rattle.std.specs.Fmt as library
use Rattle.std.proofs.lemmas.Fmt.{PrependsLastDigit, decimal_from_prepends, length-decimal-le}
use Rattle.link_lines.specs.Decimal.{most_digits, digits_before, decimal}

-- 10 to the k
unfoldable pub ten : ℕ → ℕ
ten zero = 1
ten (suc k) = 10 * ten k

pub before_last : (count x : ℕ) (after : List ℕ) → x < 10 → digits_before (count + 1) x after ≡ (48 + x) ∷ after
unfolding digits_before
before_last count x after h = rw (add-one, lt-ltb x 10 h, digits_before)

pub before_more : (count x : ℕ) (after : List ℕ) → 10 ≤ x → digits_before (count + 1) x after ≡ digits_before count (x / 10) ((48 + x % 10) ∷ after)
unfolding digits_before
before_more count x after h = rw (add-one, le-ltb x 10 h, digits_before)

prepends : PrependsLastDigit digits_before
unfolding digits_before
prepends = record {
  one = λ k n acc h. rw (lt-ltb n 10 h, digits_before);
  more = λ k n acc h. rw (le-ltb n 10 h, digits_before);
}

-- the digits that the library writes
pub same_decimal : (x : ℕ) → x < 2 ^ 64 → decimal x ≡ library.decimal x
unfolding decimal
same_decimal x h = decimal_from_prepends digits_before prepends most_digits x [] h (length-decimal-le 20 x (omega arith) (omega arith) h) ∙ append-nil (library.decimal x)
