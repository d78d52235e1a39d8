-- Bits of words: the digits of a number, the XOR of words is the XOR of their bits, and a word with no bit is 0.
use mathlib.Core.Path.{◌≡◌, refl, sym, ap, ◌∙◌, subst}
use mathlib.Core.Logic.{◌≢◌}
use mathlib.Core.List.{List, [], ◌∷◌}
use mathlib.Core.Bool.{true}
use Prim.Native.Nat.{ℕ, zero, suc, ◌+◌, ◌-◌, ◌/◌, ◌%◌, ◌^◌, ◌<◌, ◌≤◌}
use native.Mathlib.Nat.{mod-lt, zero-lt-suc, div-one, zero-div}
use native.Mathlib.Numerals.{add-one, one-add}
use native.Mathlib.Omega.{arith}
use lib.ListN.{get_or}
use lib.Arith.{lt-one}
use lib.Pow.{shr-shr, shr_lt}
use lib.Bits.{bit_xor, xor_shr, xor_mod, xor_zero_r}
use lib.Dec.{eqb}
use Rattle.gf2.specs.Equation.{xor_bool}
use Rattle.dense_rows.specs.Bits.{bit_at, xor_words}

-- ---- digits

-- a digit is 0 or 1
pub digit_cases : (P : ℕ → Type 0) (d : ℕ) → d < 2 → P 0 → P 1 → P d
digit_cases P zero h p q = p
digit_cases P (suc zero) h p q = q
digit_cases P (suc (suc d)) h p q = absurd (omega arith)

pub digit_xor : (x y k : ℕ) → bit_xor x y / 2 ^ k % 2 ≡ bit_xor (x / 2 ^ k % 2) (y / 2 ^ k % 2)
digit_xor x y k = ap (λ (z : ℕ). z % 2) (xor_shr x y k) ∙ xor_mod (x / 2 ^ k) (y / 2 ^ k) 1

eqb_xor : (d e : ℕ) → d < 2 → e < 2 → eqb (bit_xor d e) 1 ≡ xor_bool (eqb d 1) (eqb e 1)
eqb_xor d e hd he =
    digit_cases (λ x. eqb (bit_xor x e) 1 ≡ xor_bool (eqb x 1) (eqb e 1)) d hd refl
    (digit_cases (λ y. eqb (bit_xor 1 y) 1 ≡ xor_bool true (eqb y 1)) e he refl refl)

-- the digit at k of a number that has no digits from b on
pub digit_past : (x b k : ℕ) → x / 2 ^ b ≡ 0 → b ≤ k → x / 2 ^ k ≡ 0
digit_past x b k e h =
    let s : b + (k - b) ≡ k = omega arith in
    ap (λ (i : ℕ). x / 2 ^ i) (sym s) ∙ sym (shr-shr x b (k - b)) ∙ ap (λ (y : ℕ). y / 2 ^ (k - b)) e ∙ zero-div (2 ^ (k - b))

-- a number below 2 ^ k whose digits are all 0
pub no_digits : (k x : ℕ) → x < 2 ^ k → ((i : ℕ) → i < k → x / 2 ^ i % 2 ≡ 0) → x ≡ 0
no_digits zero x h f = lt-one h
no_digits (suc k) x h f =
    let half : x / 2 < 2 ^ k = shr_lt k 1 (rw (add-one k) h) in
    let low : x % 2 ≡ 0 = ap (λ (y : ℕ). y % 2) (sym (div-one x)) ∙ f zero (omega arith) in
    let rest : x / 2 ≡ 0 = no_digits k (x / 2) half (λ i l. ap (λ (y : ℕ). y % 2) (shr-shr x 1 i) ∙ rw (one-add i) (f (suc i) (omega arith))) in
    omega arith

-- a number below 2 ^ k that is not 0 has a digit 1
pub some_digit : (k x : ℕ) → x < 2 ^ k → x ≢ 0 → (i : ℕ) × (i < k) × (x / 2 ^ i % 2 ≡ 1)
some_digit zero x h ne = absurd (ne (lt-one h))
some_digit (suc k) x h ne = go (x % 2) refl (some_digit k (x / 2) (shr_lt k 1 (rw (add-one k) h)))
  where
    go : (d : ℕ) → x % 2 ≡ d → (x / 2 ≢ 0 → (i : ℕ) × (i < k) × (x / 2 / 2 ^ i % 2 ≡ 1)) → (i : ℕ) × (i < suc k) × (x / 2 ^ i % 2 ≡ 1)
    go zero e ih =
        let r = ih (λ z. ne (omega arith)) in
        let l = r.1 in
        (suc r.0, omega arith, subst (λ (j : ℕ). x / 2 ^ j % 2 ≡ 1) (one-add r.0) (sym (ap (λ (y : ℕ). y % 2) (shr-shr x 1 r.0)) ∙ r.2))
    go (suc zero) e ih = (0, omega arith, ap (λ (y : ℕ). y % 2) (div-one x) ∙ e)
    go (suc (suc d)) e ih = absurd (omega arith)

-- ---- bits of a row

pub get_or-xor_words : (a b : List ℕ) (j : ℕ) → get_or (xor_words a b) j 0 ≡ bit_xor (get_or a j 0) (get_or b j 0)
unfolding xor_words
get_or-xor_words [] b j = refl
get_or-xor_words (x ∷ a) [] j = sym (xor_zero_r (get_or (x ∷ a) j 0))
get_or-xor_words (x ∷ a) (y ∷ b) zero = refl
get_or-xor_words (x ∷ a) (y ∷ b) (suc j) = get_or-xor_words a b j

pub bit_at_xor : (v : ℕ) (a b : List ℕ) → bit_at v (xor_words a b) ≡ xor_bool (bit_at v a) (bit_at v b)
unfolding bit_at
bit_at_xor v a b =
    ap (λ (x : ℕ). eqb (x / 2 ^ (v % 64) % 2) 1) (get_or-xor_words a b (v / 64))
    ∙ ap (λ (d : ℕ). eqb d 1) (digit_xor (get_or a (v / 64) 0) (get_or b (v / 64) 0) (v % 64))
    ∙ eqb_xor (get_or a (v / 64) 0 / 2 ^ (v % 64) % 2) (get_or b (v / 64) 0 / 2 ^ (v % 64) % 2) (mod-lt _ (zero-lt-suc 1)) (mod-lt _ (zero-lt-suc 1))

-- the bit of a row depends on the column's word alone
pub bit_at_word : (v : ℕ) (a b : List ℕ) → get_or a (v / 64) 0 ≡ get_or b (v / 64) 0 → bit_at v a ≡ bit_at v b
unfolding bit_at
bit_at_word v a b e = ap (λ (x : ℕ). eqb (x / 2 ^ (v % 64) % 2) 1) e
