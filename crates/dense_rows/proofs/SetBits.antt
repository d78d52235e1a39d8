-- The set bits of a word, lowest first: how a loop takes them one by one, and that a row's words list its columns.
use mathlib.Core.Path.{◌≡◌, refl, sym, ap, ap₂, ◌∙◌}
use mathlib.Core.List.{List, [], ◌∷◌, ◌++◌}
use mathlib.Core.Bool.{Bool, true, false, true≢false, false≢true}
use Prim.Native.Nat.{ℕ, zero, suc, ◌+◌, ◌-◌, ◌*◌, ◌/◌, ◌%◌, ◌^◌, ◌<◌, ◌≤◌}
use native.Mathlib.Nat.{mod-lt, zero-lt-suc, div-one, add-zero}
use native.Mathlib.Numerals.{add-one}
use native.Mathlib.Omega.{arith}
use lib.ListN.{length, get_or}
use lib.Pow.{shr-shr, shr_lt}
use lib.Count.{count_trailing_zeros}
use lib.Bits.{bit_xor, bit_and, and_step, and_self, and_le_r, xor_zero_r}
use lib.Dec.{eqb}
use Rattle.gf2.specs.Equation.{Each, eval_vars}
use Rattle.gf2.proofs.XorLaws.{xor_assoc}
use Rattle.gf2.proofs.Values.{eval_vars-append}
use Rattle.gf2.proofs.EachMap.{each_front, each_back}
use Rattle.dense_rows.specs.Bits.{bit_at, columns_from, set_bits}
use Rattle.dense_rows.proofs.ColumnLaws.{columns_from_add}
use Rattle.dense_rows.proofs.BitLaws.{digit_cases}

-- ---- the cases

set_bits_odd : (k b x : ℕ) → x % 2 ≡ 1 → set_bits (suc k) b x ≡ b ∷ set_bits k (suc b) (x / 2)
unfolding set_bits
set_bits_odd k b x e = rw (e, set_bits)

set_bits_even : (k b x : ℕ) → x % 2 ≡ 0 → set_bits (suc k) b x ≡ set_bits k (suc b) (x / 2)
unfolding set_bits
set_bits_even k b x e = rw (e, set_bits)

pub set_bits_zero : (k b : ℕ) → set_bits k b 0 ≡ []
unfolding set_bits
set_bits_zero zero b = refl
set_bits_zero (suc k) b = set_bits_zero k (suc b)

-- ---- the lowest set bit

-- what is left of an odd number, and of an even one
odd_rest : (x : ℕ) → x % 2 ≡ 1 → bit_and x (x - 1) ≡ x / 2 * 2
odd_rest x e =
    let h : (x - 1) / 2 ≡ x / 2 = omega arith in
    let r : (x - 1) % 2 ≡ 0 = omega arith in
    and_step x (x - 1) ∙ rw (h, e, r, and_self (x / 2)) (add-zero (x / 2 * 2))

even_rest : (x : ℕ) → x % 2 ≡ 0 → 0 < x → bit_and x (x - 1) ≡ bit_and (x / 2) (x / 2 - 1) * 2
even_rest x e p =
    let h : (x - 1) / 2 ≡ x / 2 - 1 = omega arith in
    let r : (x - 1) % 2 ≡ 1 = omega arith in
    and_step x (x - 1) ∙ rw (h, e, r) (add-zero (bit_and (x / 2) (x / 2 - 1) * 2))

zeros_odd : (k x : ℕ) → x % 2 ≡ 1 → count_trailing_zeros (suc k) x ≡ 0
unfolding count_trailing_zeros
zeros_odd k x e = rw e

zeros_even : (k x : ℕ) → x % 2 ≡ 0 → count_trailing_zeros (suc k) x ≡ suc (count_trailing_zeros k (x / 2))
unfolding count_trailing_zeros
zeros_even k x e = rw e

-- the lowest set bit comes first; x and x - 1 together are x without it
pub lowest_bit : (k b x : ℕ) → 0 < x → x < 2 ^ k → set_bits k b x ≡ (b + count_trailing_zeros k x) ∷ set_bits k b (bit_and x (x - 1))
lowest_bit zero b x p h = absurd (omega arith)
lowest_bit (suc k) b x p h =
    digit_cases (λ d. x % 2 ≡ d → set_bits (suc k) b x ≡ (b + count_trailing_zeros (suc k) x) ∷ set_bits (suc k) b (bit_and x (x - 1))) (x % 2) (mod-lt x (zero-lt-suc 1)) (even (λ q. lowest_bit k (suc b) (x / 2) q half)) odd refl
  where
    half : x / 2 < 2 ^ k
    half = shr_lt k 1 (rw (add-one k) h)

    odd : x % 2 ≡ 1 → set_bits (suc k) b x ≡ (b + count_trailing_zeros (suc k) x) ∷ set_bits (suc k) b (bit_and x (x - 1))
    odd e =
        let z : x / 2 * 2 % 2 ≡ 0 = omega arith in
        let d : x / 2 * 2 / 2 ≡ x / 2 = omega arith in
        set_bits_odd k b x e
        ∙ sym (rw (zeros_odd k x e, add-zero b, odd_rest x e) (ap (λ (l : List ℕ). b ∷ l) (set_bits_even k b (x / 2 * 2) z ∙ ap (set_bits k (suc b)) d)))

    even : (0 < x / 2 → set_bits k (suc b) (x / 2) ≡ (suc b + count_trailing_zeros k (x / 2)) ∷ set_bits k (suc b) (bit_and (x / 2) (x / 2 - 1))) → x % 2 ≡ 0
        → set_bits (suc k) b x ≡ (b + count_trailing_zeros (suc k) x) ∷ set_bits (suc k) b (bit_and x (x - 1))
    even ih e =
        let y : ℕ = bit_and (x / 2) (x / 2 - 1) in
        let z : y * 2 % 2 ≡ 0 = omega arith in
        let d : y * 2 / 2 ≡ y = omega arith in
        let s : b + suc (count_trailing_zeros k (x / 2)) ≡ suc b + count_trailing_zeros k (x / 2) = omega arith in
        set_bits_even k b x e ∙ ih (omega arith)
        ∙ sym (rw (zeros_even k x e, s, even_rest x e p) (ap (λ (l : List ℕ). (suc b + count_trailing_zeros k (x / 2)) ∷ l) (set_bits_even k b (y * 2) z ∙ ap (set_bits k (suc b)) d)))

-- ---- the columns of a word

bit_here : (i j : ℕ) (words : List ℕ) → i < 64 → bit_at (64 * j + i) words ≡ eqb (get_or words j 0 / 2 ^ i % 2) 1
unfolding bit_at
bit_here i j words h =
    let d : (64 * j + i) / 64 ≡ j = omega arith in
    let r : (64 * j + i) % 64 ≡ i = omega arith in
    rw (d, r)

word_columns : (k i j : ℕ) (words : List ℕ) → i + k ≤ 64 → columns_from k (64 * j + i) words ≡ set_bits k (64 * j + i) (get_or words j 0 / 2 ^ i)
unfolding columns_from set_bits
word_columns zero i j words h = refl
word_columns (suc k) i j words h =
    let e : suc (64 * j + i) ≡ 64 * j + suc i = omega arith in
    let half : get_or words j 0 / 2 ^ i / 2 ≡ get_or words j 0 / 2 ^ suc i = shr-shr (get_or words j 0) i 1 ∙ ap (λ (x : ℕ). get_or words j 0 / 2 ^ x) (add-one i) in
    go (eqb (get_or words j 0 / 2 ^ i % 2) 1) (bit_at (64 * j + i) words) (bit_here i j words (omega arith))
    (ap (λ (c : ℕ). columns_from k c words) e ∙ word_columns k (suc i) j words (omega arith) ∙ sym (ap₂ (set_bits k) e half))
  where
    go : (d b : Bool) → b ≡ d → columns_from k (suc (64 * j + i)) words ≡ set_bits k (suc (64 * j + i)) (get_or words j 0 / 2 ^ i / 2)
        → ◌≡◌ {A = List ℕ} (elim b [ true ↦ (64 * j + i) ∷ columns_from k (suc (64 * j + i)) words | false ↦ columns_from k (suc (64 * j + i)) words ])
        (elim d [ true ↦ (64 * j + i) ∷ set_bits k (suc (64 * j + i)) (get_or words j 0 / 2 ^ i / 2) | false ↦ set_bits k (suc (64 * j + i)) (get_or words j 0 / 2 ^ i / 2) ])
    go true true q ih = ap (λ (l : List ℕ). (64 * j + i) ∷ l) ih
    go false false q ih = ih
    go true false q ih = absurd (false≢true q)
    go false true q ih = absurd (true≢false q)

-- word j lists the 64 columns from 64 j on
pub columns_of_word : (j : ℕ) (words : List ℕ) → columns_from 64 (64 * j) words ≡ set_bits 64 (64 * j) (get_or words j 0)
columns_of_word j words =
    let z : 64 * j + 0 ≡ 64 * j = omega arith in
    rw z at (rw (div-one (get_or words j 0)) at (word_columns 64 0 j words (omega arith)))

-- ---- a loop over the set bits of a word

pub record Valuing (word base : ℕ) (values : List ℕ) (left value : ℕ) : Type 0 where
  pub fits : left < 2 ^ 64
  pub listed : Each (λ u. u < length values) (set_bits 64 base left)
  pub same : bit_xor value (eval_vars (set_bits 64 base left) values) ≡ eval_vars (set_bits 64 base word) values

pub valuing_begin : {word base : ℕ} {values : List ℕ} → word < 2 ^ 64 → Each (λ u. u < length values) (set_bits 64 base word) → Valuing word base values word 0
valuing_begin h l = record { fits = h; listed = l; same = refl }

module _ {word base : ℕ} {values : List ℕ} {left value : ℕ} (v : Valuing word base values left value) where
  lowest : (left ≡ 0 → ⊥) → set_bits 64 base left ≡ (base + count_trailing_zeros 64 left) ∷ set_bits 64 base (bit_and left (left - 1))
  lowest f = lowest_bit 64 base left (omega arith) v.fits

  pub valuing_place : (left ≡ 0 → ⊥) → base + count_trailing_zeros 64 left < length values
  valuing_place f = (rw (lowest f) at v.listed).0

  pub valuing_less : (left ≡ 0 → ⊥) → bit_and left (left - 1) < left
  valuing_less f = let h = and_le_r left (left - 1) in omega arith

  pub valuing_turn : (left ≡ 0 → ⊥) → Valuing word base values (bit_and left (left - 1)) (bit_xor value (get_or values (base + count_trailing_zeros 64 left) 0))
  unfolding eval_vars
  valuing_turn f = record {
    fits = let h = valuing_less f in let g = v.fits in omega arith;
    listed = (rw (lowest f) at v.listed).1;
    same = xor_assoc value (get_or values (base + count_trailing_zeros 64 left) 0) (eval_vars (set_bits 64 base (bit_and left (left - 1))) values)
        ∙ ap (λ (l : List ℕ). bit_xor value (eval_vars l values)) (sym (lowest f)) ∙ v.same;
  }

  pub valuing_end : left ≡ 0 → value ≡ eval_vars (set_bits 64 base word) values
  unfolding eval_vars
  valuing_end e = sym (ap (λ (l : List ℕ). bit_xor value (eval_vars l values)) (ap (set_bits 64 base) e ∙ set_bits_zero 64 base) ∙ xor_zero_r value) ∙ v.same

-- ---- a loop over the words of a row

-- the columns of a row from word j on
abbrev pub onward : ℕ → ℕ → List ℕ → List ℕ
onward w j row = columns_from (64 * (w - j)) (64 * j) row

pub record Summing (row : List ℕ) (from : ℕ) (values : List ℕ) (j value : ℕ) : Type 0 where
  pub below : j ≤ length row
  pub listed : Each (λ u. u < length values) (onward (length row) j row)
  pub same : bit_xor value (eval_vars (onward (length row) j row) values) ≡ eval_vars (onward (length row) from row) values

pub summing_begin : {row : List ℕ} {from : ℕ} {values : List ℕ} → from ≤ length row → Each (λ u. u < length values) (onward (length row) from row) → Summing row from values from 0
summing_begin h l = record { below = h; listed = l; same = refl }

module _ {row : List ℕ} {from : ℕ} {values : List ℕ} {j value : ℕ} (s : Summing row from values j value) (h : j < length row) where
  next_word : onward (length row) j row ≡ set_bits 64 (64 * j) (get_or row j 0) ++ onward (length row) (j + 1) row
  next_word =
      let e : 64 * (length row - j) ≡ 64 + 64 * (length row - (j + 1)) = omega arith in
      let f : 64 * j + 64 ≡ 64 * (j + 1) = omega arith in
      ap (λ (k : ℕ). columns_from k (64 * j) row) e
      ∙ columns_from_add 64 (64 * (length row - (j + 1))) (64 * j) row
      ∙ ap₂ (λ (a : List ℕ) (c : ℕ). a ++ columns_from (64 * (length row - (j + 1))) c row) (columns_of_word j row) f

  pub summing_listed : Each (λ u. u < length values) (set_bits 64 (64 * j) (get_or row j 0))
  summing_listed = each_front (λ u. u < length values) (set_bits 64 (64 * j) (get_or row j 0)) (onward (length row) (j + 1) row) (rw next_word at s.listed)

  pub summing_turn : {v : ℕ} → v ≡ eval_vars (set_bits 64 (64 * j) (get_or row j 0)) values → Summing row from values (j + 1) (bit_xor value v)
  summing_turn {v} e = record {
    below = omega arith;
    listed = each_back (λ u. u < length values) (set_bits 64 (64 * j) (get_or row j 0)) (onward (length row) (j + 1) row) (rw next_word at s.listed);
    same =
        xor_assoc value v (eval_vars (onward (length row) (j + 1) row) values)
        ∙ ap (λ (a : ℕ). bit_xor value (bit_xor a (eval_vars (onward (length row) (j + 1) row) values))) e
        ∙ ap (bit_xor value) (sym (eval_vars-append (set_bits 64 (64 * j) (get_or row j 0)) (onward (length row) (j + 1) row) values))
        ∙ ap (λ (l : List ℕ). bit_xor value (eval_vars l values)) (sym next_word) ∙ s.same;
  }

pub summing_end : {row : List ℕ} {from : ℕ} {values : List ℕ} {j value : ℕ} → Summing row from values j value → length row ≤ j
    → value ≡ eval_vars (onward (length row) from row) values
unfolding columns_from eval_vars
summing_end {row} {from} {values} {j} {value} s h =
    let z : 64 * (length row - j) ≡ 0 = omega arith in
    sym (ap (λ (k : ℕ). bit_xor value (eval_vars (columns_from k (64 * j) row) values)) z ∙ xor_zero_r value) ∙ s.same
