-- A row without a bit at column n or above: its words one after the other, and what it means for the bits.
use mathlib.Core.Path.{◌≡◌, refl, sym, ap, ap₂, ◌∙◌, subst}
use mathlib.Core.Logic.{◌↔◌}
use mathlib.Core.List.{List, [], ◌∷◌}
use mathlib.Core.Bool.{Bool, true, false, ◌&&◌, true≢false, false≢true}
use Prim.Native.Nat.{ℕ, zero, suc, ◌+◌, ◌-◌, ◌*◌, ◌/◌, ◌%◌, ◌^◌, ◌<◌, ◌≤◌}
use native.Mathlib.Nat.{div-one, zero-div}
use native.Mathlib.Decide.{dec_lt}
use native.Mathlib.Numerals.{add-one}
use native.Mathlib.Omega.{arith}
use lib.ListN.{length, get_or, drop, drop_of_length-le}
use lib.Seq.{drop-cons, get_or-drop}
use lib.Pow.{shr-shr, shr_lt}
use lib.Dec.{eqb}
use Rattle.std.specs.List.{list_all}
use Rattle.gf2.proofs.Each.{each_drop}
use Rattle.gf2.proofs.Tests.{eqb_true, eqb_ne}
use Rattle.dense_rows.specs.Bits.{bit_at, empty_from, row_fits}
use Rattle.dense_rows.proofs.BitLaws.{digit_past, some_digit}
use Rattle.dense_rows.proofs.StepLaws.{WordSized}

-- ---- the words of a row

-- a row that ends before the column's word
pub fits_short : (n : ℕ) (words : List ℕ) → length words ≤ n / 64 → row_fits n words ≡ true
unfolding empty_from
fits_short n words h =
    let e : drop (n / 64) words ≡ [] = drop_of_length-le words {i = n / 64} (omega arith) in
    ap (empty_from (n % 64)) e

-- the column's word, and then the words after it
fits_first : (n : ℕ) (words : List ℕ) → n / 64 < length words
    → row_fits n words ≡ (eqb (get_or words (n / 64) 0 / 2 ^ (n % 64)) 0 && empty_from 0 (drop (n / 64 + 1) words))
unfolding empty_from
fits_first n words h = rw (add-one (n / 64)) (ap (empty_from (n % 64)) (drop-cons words (n / 64) 0 h))

-- the column's word has a bit there
pub fits_not : (n : ℕ) (words : List ℕ) → n / 64 < length words → (get_or words (n / 64) 0 / 2 ^ (n % 64) ≡ 0 → ⊥) → row_fits n words ≡ false
fits_not n words h f = fits_first n words h ∙ ap (λ (b : Bool). b && empty_from 0 (drop (n / 64 + 1) words)) (eqb_ne (get_or words (n / 64) 0 / 2 ^ (n % 64)) 0 f)

-- .. or has none
pub fits_later : (n : ℕ) (words : List ℕ) → n / 64 < length words → get_or words (n / 64) 0 / 2 ^ (n % 64) ≡ 0 → row_fits n words ≡ empty_from 0 (drop (n / 64 + 1) words)
fits_later n words h e = fits_first n words h ∙ ap (λ (x : ℕ). eqb x 0 && empty_from 0 (drop (n / 64 + 1) words)) e

pub all_zero : (words : List ℕ) → list_all (λ word. eqb word 0) words ≡ empty_from 0 words
unfolding empty_from
all_zero [] = refl
all_zero (x ∷ l) = ap₂ (λ (y : ℕ) (b : Bool). eqb y 0 && b) (sym (div-one x)) (all_zero l)

-- ---- the bits

both_true : (a b : Bool) → (a && b) ≡ true → (a ≡ true) × (b ≡ true)
both_true true b e = (refl, e)
both_true false b e = absurd (false≢true e)

first_empty : (b : ℕ) (l : List ℕ) → empty_from b l ≡ true → get_or l 0 0 / 2 ^ b ≡ 0
unfolding empty_from
first_empty b [] e = zero-div (2 ^ b)
first_empty b (x ∷ l) e = eqb_true (x / 2 ^ b) 0 (both_true (eqb (x / 2 ^ b) 0) (empty_from 0 l) e).0

rest_empty : (b : ℕ) (l : List ℕ) (j : ℕ) → empty_from b l ≡ true → 0 < j → get_or l j 0 ≡ 0
unfolding empty_from
rest_empty b [] j e h = refl
rest_empty b (x ∷ l) zero e h = absurd (omega arith)
rest_empty b (x ∷ l) (suc zero) e h = sym (div-one (get_or l 0 0)) ∙ first_empty 0 l (both_true (eqb (x / 2 ^ b) 0) (empty_from 0 l) e).1
rest_empty b (x ∷ l) (suc (suc j)) e h = rest_empty 0 l (suc j) (both_true (eqb (x / 2 ^ b) 0) (empty_from 0 l) e).1 (omega arith)

-- a row that fits has no bit at column n or above
pub fits_no_bit : (n : ℕ) (words : List ℕ) → row_fits n words ≡ true → (v : ℕ) → n ≤ v → bit_at v words ≡ false
unfolding bit_at
fits_no_bit n words e v h = go (dec_lt (n / 64) (v / 64))
  where
    none : (x k : ℕ) → x / 2 ^ k ≡ 0 → eqb (x / 2 ^ k % 2) 1 ≡ false
    none x k z = ap (λ (y : ℕ). eqb (y % 2) 1) z

    word : (k : ℕ) → n / 64 ≤ k → get_or (drop (n / 64) words) (k - n / 64) 0 ≡ get_or words k 0
    word k l = let s : n / 64 + (k - n / 64) ≡ k = omega arith in get_or-drop (n / 64) words (k - n / 64) 0 ∙ ap (λ (i : ℕ). get_or words i 0) s

    go : Dec (n / 64 < v / 64) → eqb (get_or words (v / 64) 0 / 2 ^ (v % 64) % 2) 1 ≡ false
    go (yes l) =
        let z : get_or words (v / 64) 0 ≡ 0 = sym (word (v / 64) (omega arith)) ∙ rest_empty (n % 64) (drop (n / 64) words) (v / 64 - n / 64) e (omega arith) in
        none (get_or words (v / 64) 0) (v % 64) (ap (λ (x : ℕ). x / 2 ^ (v % 64)) z ∙ zero-div (2 ^ (v % 64)))
    go (no l) =
        let s : v / 64 ≡ n / 64 = omega arith in
        let o : n / 64 - n / 64 ≡ 0 = omega arith in
        let z : get_or words (n / 64) 0 / 2 ^ (n % 64) ≡ 0 = ap (λ (x : ℕ). x / 2 ^ (n % 64)) (sym (word (n / 64) (omega arith)) ∙ ap (λ (i : ℕ). get_or (drop (n / 64) words) i 0) o) ∙ first_empty (n % 64) (drop (n / 64) words) e in
        none (get_or words (v / 64) 0) (v % 64) (rw s (digit_past (get_or words (n / 64) 0) (n % 64) (v % 64) z (omega arith)))

-- a set bit of the words, in the first of them from bit b on
record SetBit (b : ℕ) (words : List ℕ) : Type 0 where
  word : ℕ
  bit : ℕ
  from : word ≡ 0 → b ≤ bit
  fits : bit < 64
  set : get_or words word 0 / 2 ^ bit % 2 ≡ 1

set_bit : (b : ℕ) (words : List ℕ) → b ≤ 64 → WordSized words → empty_from b words ≡ false → SetBit b words
unfolding empty_from
set_bit b [] hb h e = absurd (true≢false e)
set_bit b (x ∷ l) hb h e = go (eqb (x / 2 ^ b) 0) refl e (set_bit 0 l (omega arith) h.1)
  where
    go : (t : Bool) → eqb (x / 2 ^ b) 0 ≡ t → (t && empty_from 0 l) ≡ false → (empty_from 0 l ≡ false → SetBit 0 l) → SetBit b (x ∷ l)
    go true q f ih = let s = ih f in record { word = suc s.word; bit = s.bit; from = λ z. absurd (omega arith); fits = s.fits; set = s.set }
    go false q f ih =
        let s : (64 - b) + b ≡ 64 = omega arith in
        let d = some_digit (64 - b) (x / 2 ^ b) (shr_lt (64 - b) b (subst (λ (i : ℕ). x < 2 ^ i) (sym s) h.0)) (λ z. true≢false (sym (ap (λ (y : ℕ). eqb y 0) z) ∙ q)) in
        let l = d.1 in
        record {
          word = 0;
          bit = b + d.0;
          from = λ z. omega arith;
          fits = omega arith;
          set = sym (ap (λ (y : ℕ). y % 2) (shr-shr x b d.0)) ∙ d.2;
        }

-- a row that does not fit has a bit at column n or above
pub unfit_bit : (n : ℕ) (words : List ℕ) → WordSized words → row_fits n words ≡ false → (v : ℕ) × (n ≤ v) × (bit_at v words ≡ true)
unfolding bit_at
unfit_bit n words h e =
    let s = set_bit (n % 64) (drop (n / 64) words) (omega arith) (each_drop (λ x. x < 2 ^ 64) words (n / 64) h) e in
    let j = s.word in
    let k = s.bit in
    let f = s.fits in
    let v : ℕ = (n / 64 + j) * 64 + k in
    let q : v / 64 ≡ n / 64 + j = omega arith in
    let r : v % 64 ≡ k = omega arith in
    let d : get_or words (n / 64 + j) 0 / 2 ^ k % 2 ≡ 1 = ap (λ (x : ℕ). x / 2 ^ k % 2) (sym (get_or-drop (n / 64) words j 0)) ∙ s.set in
    (v, past j k s.from f, ap (λ (x : ℕ). eqb x 1) (ap₂ (λ (i c : ℕ). get_or words i 0 / 2 ^ c % 2) q r ∙ d))
  where
    past : (j k : ℕ) → (j ≡ 0 → n % 64 ≤ k) → k < 64 → n ≤ (n / 64 + j) * 64 + k
    past zero k g h = let l = g refl in omega arith
    past (suc j) k g h = omega arith

-- a row fits exactly if it has no bit at column n or above
pub fits_exactly : (n : ℕ) (words : List ℕ) → WordSized words → (row_fits n words ≡ true) ↔ ((v : ℕ) → n ≤ v → bit_at v words ≡ false)
fits_exactly n words h = (fits_no_bit n words, λ f. go (row_fits n words) refl f)
  where
    go : (b : Bool) → row_fits n words ≡ b → ((v : ℕ) → n ≤ v → bit_at v words ≡ false) → b ≡ true
    go true e f = refl
    go false e f = let t = unfit_bit n words h e in absurd (true≢false (sym t.2 ∙ f t.0 t.1))
