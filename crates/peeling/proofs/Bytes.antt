-- A vertex's byte: its degree times 4 plus the XOR of its sides, when an incidence comes and when one goes.
use mathlib.Core.Path.{◌≡◌, sym, ap, ◌∙◌}
use Prim.Native.Nat.{ℕ, suc, ◌+◌, ◌-◌, ◌*◌, ◌%◌, ◌<◌}
use native.Mathlib.Omega.{arith}
use lib.Bits.{bit_xor, xor_comm, xor_zero_r, xor_block}

-- a side comes into the byte
byte_side : (d s t : ℕ) → s < 4 → t < 4 → bit_xor (d * 4 + s) t ≡ d * 4 + bit_xor s t
byte_side d s t hs ht =
    let q : 0 * 4 + t ≡ t = omega arith in
    ap (bit_xor (d * 4 + s)) (sym q) ∙ xor_block 2 d 0 s t hs ht ∙ ap (λ (z : ℕ). z * 4 + bit_xor s t) (xor_zero_r d)

-- one incidence more, in a byte that has room for 63
pub byte_rises : (d s t : ℕ) → s < 4 → t < 4 → bit_xor ((d % 64 * 4 + s + 4) % 256) t ≡ suc d % 64 * 4 + bit_xor t s
byte_rises d s t hs ht =
    let p : (d % 64 * 4 + s + 4) % 256 ≡ suc d % 64 * 4 + s = omega arith in
    ap (λ (z : ℕ). bit_xor z t) p ∙ byte_side (suc d % 64) s t hs ht ∙ ap (λ (z : ℕ). suc d % 64 * 4 + z) (xor_comm s t)

pub byte_falls : (d s t : ℕ) → s < 4 → t < 4 → bit_xor (suc d * 4 + s - 4) t ≡ d * 4 + bit_xor s t
byte_falls d s t hs ht =
    let p : suc d * 4 + s - 4 ≡ d * 4 + s = omega arith in
    ap (λ (z : ℕ). bit_xor z t) p ∙ byte_side d s t hs ht
