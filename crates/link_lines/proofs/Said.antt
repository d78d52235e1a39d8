-- A number and its decimal digits determine each other.
use mathlib.Core.Path.{◌≡◌, sym, ap, subst, ◌∙◌}
use mathlib.Core.List.{List, [], ◌∷◌}
use Prim.Native.Nat.{ℕ, zero, suc, ◌+◌, ◌-◌, ◌*◌, ◌/◌, ◌%◌, ◌≤◌, ◌<◌}
use native.Mathlib.Decide.{dec_lt}
use native.Mathlib.Omega.{arith}
use lib.ListN.{length, get_or}
use borrow.Author.Tests.{lt-ltb, le-ltb}
use Rattle.gf2.specs.Equation.{Each}
use Rattle.link_lines.specs.Decimal.{most_digits, digits_before, decimal, said}
use Rattle.link_lines.proofs.Digits.{ten, before_last, before_more}

-- a property of all that is laid down: of the last step, and kept by each earlier one
module _ (P : ℕ → List ℕ → List ℕ → Type 0)
    (last : (x : ℕ) (after : List ℕ) → x < 10 → P x after ((48 + x) ∷ after))
    (more : (x : ℕ) (after digits : List ℕ) → 10 ≤ x → P (x / 10) ((48 + x % 10) ∷ after) digits → P x after digits) where
  by_digits : (count x : ℕ) (after : List ℕ) → x < ten (count + 1) → P x after (digits_before (count + 1) x after)
  unfolding ten
  by_digits zero x after h = let l : x < 10 = omega arith in rw (before_last 0 x after l) (last x after l)
  by_digits (suc count) x after h = go (dec_lt x 10)
      (let q : suc count + 1 ≡ suc (count + 1) = omega arith in let b : x < 10 * ten (count + 1) = subst (λ (n : ℕ). x < ten n) q h in
      by_digits count (x / 10) ((48 + x % 10) ∷ after) (omega arith))
    where
      go : Dec (x < 10) → P (x / 10) ((48 + x % 10) ∷ after) (digits_before (count + 1) (x / 10) ((48 + x % 10) ∷ after)) → P x after (digits_before (suc count + 1) x after)
      go (yes l) ih = rw (before_last (suc count) x after l) (last x after l)
      go (no g) ih =
          let e : suc count ≡ count + 1 = omega arith in
          let l : 10 ≤ x = omega arith in
          rw (before_more (suc count) x after l, e) (more x after (digits_before (count + 1) (x / 10) ((48 + x % 10) ∷ after)) l ih)

-- the digits say the number
pub said_decimal : (x : ℕ) → x < ten most_digits → said 0 (decimal x) ≡ x
unfolding said decimal
said_decimal x h =
    by_digits (λ y after digits. said 0 digits ≡ said y after)
    (λ y after l. let e : 0 * 10 + (48 + y - 48) ≡ y = omega arith in rw e)
    (λ y after digits l q. let e : y / 10 * 10 + (48 + y % 10 - 48) ≡ y = omega arith in q ∙ ap (λ (n : ℕ). said n after) e)
    19 x [] h

-- so no two numbers have the same digits
pub one_number : (x y : ℕ) → x < ten most_digits → y < ten most_digits → decimal x ≡ decimal y → x ≡ y
one_number x y h g e = sym (said_decimal x h) ∙ ap (said 0) e ∙ said_decimal y g

-- only the digits of 0 begin with a zero
pub no_leading_zero : (x : ℕ) → x < ten most_digits → get_or (decimal x) 0 0 ≡ 48 → x ≡ 0
unfolding decimal
no_leading_zero x h =
    by_digits (λ y after digits. get_or digits 0 0 ≡ 48 → y ≡ 0) (λ y after l e. omega arith) (λ y after digits l q e. let z = q e in omega arith) 19 x [] h

-- each is a digit
pub digits_only : (x : ℕ) → x < ten most_digits → Each (λ d. (48 ≤ d) × (d ≤ 57)) (decimal x)
unfolding decimal
digits_only x h =
    by_digits (λ y after digits. Each (λ d. (48 ≤ d) × (d ≤ 57)) after → Each (λ d. (48 ≤ d) × (d ≤ 57)) digits)
    (λ y after l a. ((omega arith, omega arith), a))
    (λ y after digits l q a. q ((omega arith, omega arith), a))
    19 x [] h _

few_before : (count x : ℕ) (after : List ℕ) → length (digits_before count x after) ≤ count + length after
unfolding digits_before
few_before zero x after = omega arith
few_before (suc count) x after = go (dec_lt x 10) (few_before count (x / 10) ((48 + x % 10) ∷ after))
  where
    go : Dec (x < 10) → length (digits_before count (x / 10) ((48 + x % 10) ∷ after)) ≤ count + length ((48 + x % 10) ∷ after)
        → length (digits_before (suc count) x after) ≤ suc count + length after
    go (yes h) f = rw (lt-ltb x 10 h, digits_before) (omega arith)
    go (no h) f = rw (le-ltb x 10 (omega arith), digits_before) (omega arith)

-- and there is room for them
pub few_digits : (x : ℕ) → length (decimal x) ≤ most_digits
unfolding decimal
few_digits x = few_before most_digits x []
