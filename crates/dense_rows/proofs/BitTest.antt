-- The test of a column in a row of an area: a word and a mask of one bit.
use mathlib.Core.Path.{◌≡◌, sym, ap, ◌∙◌}
use mathlib.Core.List.{List}
use mathlib.Core.Bool.{not}
use Prim.Native.Nat.{ℕ, ◌+◌, ◌*◌, ◌/◌, ◌%◌, ◌^◌, ◌<◌, ◌≤◌}
use native.Mathlib.Nat.{one-mul, mod-lt, zero-lt-suc, zero-mul}
use native.Mathlib.Omega.{arith}
use lib.ListN.{length, get_or}
use lib.Pow.{shl_exact, high_ones, pow_pos}
use lib.Bits.{bit_and, and_high}
use lib.Dec.{eqb}
use Rattle.gf2.proofs.Tests.{eqb_ne}
use Rattle.dense_rows.specs.Bits.{bit_at, has_bit}
use Rattle.dense_rows.specs.Rows.{held}
use Rattle.dense_rows.specs.Steps.{no_row}
use Rattle.dense_rows.proofs.BitLaws.{digit_cases}
use Rattle.dense_rows.proofs.HeldLaws.{held_word}

-- the mask, as the code makes it
mask_is : (k : ℕ) → k < 64 → (1 * 2 ^ k) % 2 ^ 64 ≡ 2 ^ k
mask_is k h = shl_exact {a = 1} 1 k 64 (omega arith) (omega arith) ∙ one-mul (2 ^ k)

-- the word and the mask: the digit, in its place
and_bit : (x k : ℕ) → bit_and x (2 ^ k) ≡ x / 2 ^ k % 2 * 2 ^ k
and_bit x k = ap (bit_and x) (sym (high_ones 1 k ∙ one-mul (2 ^ k))) ∙ and_high x 1 k

digit_test : (d k : ℕ) → d < 2 → not (eqb (d * 2 ^ k) 0) ≡ eqb d 1
digit_test d k h =
    digit_cases (λ d. not (eqb (d * 2 ^ k) 0) ≡ eqb d 1) d h (ap (λ x. not (eqb x 0)) (zero-mul (2 ^ k)))
    (ap not (eqb_ne (1 * 2 ^ k) 0 (λ z. let p = pow_pos k in omega arith)))

pub bit_tested : (m w col i : ℕ) (area : List ℕ) → m * w + m ≤ length area → col < 64 * w → i < m
    → not (eqb (bit_and (get_or area (i * w + col / 64) 0) ((1 * 2 ^ (col % 64)) % 2 ^ 64)) 0) ≡ has_bit col (get_or (held m w area) i no_row)
unfolding bit_at
bit_tested m w col i area room hc hi =
    let x : ℕ = get_or area (i * w + col / 64) 0 in
    let k : ℕ = col % 64 in
    ap (λ mask. not (eqb (bit_and x mask) 0)) (mask_is k (omega arith)) ∙ ap (λ y. not (eqb y 0)) (and_bit x k)
    ∙ digit_test (x / 2 ^ k % 2) k (mod-lt (x / 2 ^ k) (zero-lt-suc 1))
    ∙ ap (λ y. eqb (y / 2 ^ k % 2) 1) (sym (held_word m w area room i (col / 64) hi (omega arith)))
