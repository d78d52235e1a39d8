-- A running total: what is counted, and what is ahead.
use mathlib.Core.Path.{◌≡◌}
use Prim.Native.Nat.{ℕ, ◌+◌, ◌≤◌}
use native.Mathlib.Omega.{arith}

-- what is counted and what is ahead come to the total
pub record Tally (counted left total : ℕ) : Type 0 where
  pub both : counted + left ≡ total

pub tally_begin : {t : ℕ} → Tally 0 t t
tally_begin = record { both = omega arith }

module _ {a x t : ℕ} (s : Tally a x t) where
  pub tally_turn : {c e y : ℕ} → e ≡ c → x ≡ c + y → Tally (a + e) y t
  tally_turn q r = record { both = omega (arith, s.both) }

  -- what is ahead stays the same
  pub tally_same : {y : ℕ} → y ≡ x → Tally a y t
  tally_same q = record { both = omega (arith, s.both) }

  pub tally_last : {c e w : ℕ} → e ≡ c → x ≡ c → t ≡ w → a + e ≡ w
  tally_last q r p = omega (arith, s.both)

  pub tally_over : {w : ℕ} → x ≡ 0 → t ≡ w → a ≡ w
  tally_over q p = omega (arith, s.both)

  pub tally_fits : {c e u w : ℕ} → e ≡ c → c ≤ x → t ≡ u → u ≤ w → a + e ≤ w
  tally_fits q r p l = omega (arith, s.both)
