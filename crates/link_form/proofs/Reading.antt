-- A number read from its high byte down.
use mathlib.Core.Path.{◌≡◌}
use mathlib.Core.List.{List}
use Prim.Native.Nat.{ℕ, zero, suc, ◌+◌, ◌-◌, ◌*◌, ◌≤◌, ◌<◌}
use native.Mathlib.Omega.{arith}
use lib.ListN.{length, get_or}
use Rattle.areas.specs.Stretch.{stretch}
use Rattle.areas.proofs.Stretch.{stretch-cons, stretch_none}
use Rattle.link_form.specs.Bytes.{little, power, field}

power_pos : (k : ℕ) → 1 ≤ power k
unfolding power
power_pos zero = omega arith
power_pos (suc k) = let h = power_pos k in omega arith

pub power_le : (k j : ℕ) → k ≤ j → power k ≤ power j
unfolding power
power_le zero j h = power_pos j
power_le (suc k) zero h = absurd (omega arith)
power_le (suc k) (suc j) h = let g = power_le k j (omega arith) in omega arith

power_seven : (k : ℕ) → k ≤ 7 → power k ≤ 72057594037927936
unfolding power
power_seven k h = power_le k 7 h

-- `number` is what the bytes from k up to w of the number at `at` hold
pub record Reading (bytes : List ℕ) (at w number k : ℕ) : Type 0 where
  pub room : at + w ≤ length bytes
  pub few : w ≤ 8
  pub inside : k ≤ w
  pub so_far : number ≡ little (stretch (at + k) (w - k) bytes)
  pub small : number < power (w - k)

pub reading_begin : (bytes : List ℕ) (at w : ℕ) → at + w ≤ length bytes → w ≤ 8 → Reading bytes at w 0 w
unfolding little power
reading_begin bytes at w h f =
    let e : w - w ≡ 0 = omega arith in
    record { room = h; few = f; inside = omega arith; so_far = rw (e, stretch_none (at + w) bytes); small = rw e (omega arith) }

-- one byte more fits a word
pub reading_fits : {bytes : List ℕ} {at w number k : ℕ} → Reading bytes at w number k → 0 < k → number * 256 + 255 < 18446744073709551616
reading_fits {w = w} {k = k} r h = let p = power_seven (w - k) (omega (arith, r)) in let s = r.small in omega arith

pub reading_turn : {bytes : List ℕ} {at w number k : ℕ} → Reading bytes at w number k → 0 < k → get_or bytes (at + (k - 1)) 0 < 256
    → Reading bytes at w (number * 256 + get_or bytes (at + (k - 1)) 0) (k - 1)
unfolding little power
reading_turn {bytes} {at} {w} {number} {k} r h b =
    let i = r.inside in
    let m = r.room in
    let s = r.small in
    let e : w - (k - 1) ≡ (w - k) + 1 = omega arith in
    let e' : (w - k) + 1 ≡ suc (w - k) = omega arith in
    let q : at + (k - 1) + 1 ≡ at + k = omega arith in
    record {
      room = r.room;
      few = r.few;
      inside = omega arith;
      so_far = rw (e, stretch-cons (at + (k - 1)) (w - k) bytes (omega arith), q, ← r.so_far) (omega arith);
      small = rw (e, e') (omega arith);
    }

pub reading_end : {bytes : List ℕ} {at w number k : ℕ} → Reading bytes at w number k → k ≤ 0 → (number ≡ field w at bytes) × (number < power w)
reading_end {bytes} {at} {w} {number} {k} r h =
    let e : k ≡ 0 = omega arith in
    let q : at + 0 ≡ at = omega arith in
    let z : w - 0 ≡ w = omega arith in
    (rw (e, q, z) at r.so_far, rw (e, z) at r.small)

-- what fits four bytes fits 32 bits
pub narrow_fits : (w x : ℕ) → w ≤ 4 → x < power w → x < 4294967296
unfolding power
narrow_fits w x h s = let l = power_le w 4 h in omega arith
