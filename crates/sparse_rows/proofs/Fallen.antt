-- What fell away and what is still to cancel: twice the count of the whole, at every turn.
use mathlib.Core.Path.{◌≡◌}
use Prim.Native.Nat.{ℕ, ◌+◌, ◌*◌, ◌/◌, ◌≤◌}
use native.Mathlib.Omega.{arith}

-- so much fell away, so many are still to cancel, and so many cancel in all
pub record Fallen (fallen left total : ℕ) : Type 0 where
  pub both : fallen + 2 * left ≡ 2 * total

pub fallen_begin : {t : ℕ} → Fallen 0 t t
fallen_begin = record { both = omega arith }

module _ {a x t : ℕ} (s : Fallen a x t) where
  pub fallen_turn : (c : ℕ) {e y : ℕ} → e ≡ a + 2 * c → x ≡ c + y → Fallen e y t
  fallen_turn c q r = record { both = omega (arith, s.both) }

  pub fallen_same : {y : ℕ} → y ≡ x → Fallen a y t
  fallen_same q = record { both = omega (arith, s.both) }

  pub fallen_last : (c : ℕ) {e w : ℕ} → e ≡ a + 2 * c → x ≡ c → t ≡ w → e / 2 ≡ w
  fallen_last c q r p = omega (arith, s.both)

  pub fallen_over : {w : ℕ} → x ≡ 0 → t ≡ w → a / 2 ≡ w
  fallen_over q p = omega (arith, s.both)

  pub fallen_most : {u w : ℕ} → t ≡ u → u ≤ w → a ≤ w + w
  fallen_most p l = omega (arith, s.both)
