-- Rows that change places or are XORed from a word on: what the rows say as equations, where the words before are zero.
use mathlib.Core.Path.{◌≡◌, refl, sym, ap, ap₂, ◌∙◌}
use mathlib.Core.List.{List, [], ◌∷◌, ◌++◌}
use mathlib.Core.Bool.{Bool, true, false, true≢false}
use Prim.Native.Nat.{ℕ, suc, ◌+◌, ◌-◌, ◌*◌, ◌/◌, ◌%◌, ◌^◌, ◌<◌, ◌≤◌, min}
use native.Mathlib.Nat.{mod-lt, zero-lt-suc}
use native.Mathlib.Decide.{dec_lt}
use native.Mathlib.Omega.{arith}
use lib.ListN.{length, get_or, take, drop, set, length-append, length-take, length-drop, take-append-drop, get_or-append, get_or-eq_default}
use lib.Seq.{length-take-le, get_or-take, get_or-drop, get_or-append-add, ext_get_or}
use lib.Bits.{bit_xor, xor_zero_r}
use lib.Dec.{eqb}
use Rattle.gf2.specs.Equation.{Each, xor_bool, sum}
use Rattle.gf2.proofs.Each.{each_at}
use Rattle.gf2.proofs.Tests.{xor_bool_false}
use Rattle.dense_rows.specs.Bits.{Row, bit_at, Clear, has_bit, equation_of, xor_words}
use Rattle.dense_rows.specs.Steps.{from_word, no_row, swap_rows, xor_from, clear_row}
use Rattle.dense_rows.proofs.BitLaws.{digit_cases, no_digits, get_or-xor_words, bit_at_xor, bit_at_word}
use Rattle.dense_rows.proofs.ColumnLaws.{columns_agree, columns_xor}

-- ---- lengths

-- the row has w words
abbrev pub Wide : ℕ → Row → Type 0
Wide w row = length row.words ≡ w

pub length-xor_words : (a b : List ℕ) → length a ≡ length b → length (xor_words a b) ≡ length a
unfolding xor_words
length-xor_words [] b e = sym e
length-xor_words (x ∷ a) [] e = refl
length-xor_words (x ∷ a) (y ∷ b) e = ap suc (length-xor_words a b (omega arith))

pub wide_from_word : (w k : ℕ) (a b : Row) → k ≤ w → Wide w a → Wide w b → Wide w (from_word k a b)
unfolding from_word
wide_from_word w k a b h p q =
    let e : length (take k a.words) ≡ k = length-take-le k a.words (omega arith) in
    simp (length-append, length-drop) (omega arith)

pub wide_xor_from : (w k : ℕ) (p r : Row) → k ≤ w → Wide w p → Wide w r → Wide w (xor_from k p r)
unfolding xor_from
wide_xor_from w k p r h hp hr =
    let e : length (take k r.words) ≡ k = length-take-le k r.words (omega arith) in
    let d = length-drop k r.words in
    let d' = length-drop k p.words in
    let x = length-xor_words (drop k r.words) (drop k p.words) (omega arith) in
    simp length-append (omega arith)

-- ---- the first k words of a row, and others after them

get_or_front : (k : ℕ) (a l : List ℕ) (j : ℕ) → k ≤ length a → j < k → get_or (take k a ++ l) j 0 ≡ get_or a j 0
get_or_front k a l j h m =
    let e : length (take k a) ≡ k = length-take-le k a h in
    get_or-append (take k a) l 0 j (omega arith) ∙ get_or-take k a j 0 m

get_or_after : (k : ℕ) (a l : List ℕ) (j : ℕ) → k ≤ length a → k ≤ j → get_or (take k a ++ l) j 0 ≡ get_or l (j - k) 0
get_or_after k a l j h m =
    let e : length (take k a) ≡ k = length-take-le k a h in
    let s : j ≡ length (take k a) + (j - k) = omega arith in
    ap (λ (i : ℕ). get_or (take k a ++ l) i 0) s ∙ get_or-append-add (take k a) l (j - k) 0

get_or_dropped : (k : ℕ) (b : List ℕ) (j : ℕ) → k ≤ j → get_or (drop k b) (j - k) 0 ≡ get_or b j 0
get_or_dropped k b j m =
    let s : k + (j - k) ≡ j = omega arith in
    get_or-drop k b (j - k) 0 ∙ ap (λ (i : ℕ). get_or b i 0) s

-- ---- as equations

-- a row of its own first k words and another's words after them, where no bit is set in the first k words of either
bit_at_from : (v k : ℕ) (a b : List ℕ) → k ≤ length a → Clear (64 * k) a → Clear (64 * k) b → bit_at v (take k a ++ drop k b) ≡ bit_at v b
bit_at_from v k a b h p q = go (dec_lt (v / 64) k)
  where
    go : Dec (v / 64 < k) → bit_at v (take k a ++ drop k b) ≡ bit_at v b
    go (yes l) =
        bit_at_word v (take k a ++ drop k b) a (get_or_front k a (drop k b) (v / 64) h l) ∙ p v (omega arith) ∙ sym (q v (omega arith))
    go (no l) =
        let m : k ≤ v / 64 = omega arith in
        bit_at_word v (take k a ++ drop k b) b (get_or_after k a (drop k b) (v / 64) h m ∙ get_or_dropped k b (v / 64) m)

pub equation_from_word : (n k : ℕ) (a b : Row) → k ≤ length a.words → Clear (64 * k) a.words → Clear (64 * k) b.words
    → equation_of n (from_word k a b) ≡ equation_of n b
unfolding from_word
equation_from_word n k a b h p q =
    λ i. record {
      vars = columns_agree n (take k a.words ++ drop k b.words) b.words (λ v _. bit_at_from v k a.words b.words h p q) i;
      c = b.c;
    }

-- the XOR from word k on is the XOR of the whole rows, where no bit is set in the first k words of the pivot row
bit_at_xor_from : (v k : ℕ) (r p : List ℕ) → k ≤ length r → Clear (64 * k) p → bit_at v (take k r ++ xor_words (drop k r) (drop k p)) ≡ bit_at v (xor_words r p)
bit_at_xor_from v k r p h f = go (dec_lt (v / 64) k)
  where
    go : Dec (v / 64 < k) → bit_at v (take k r ++ xor_words (drop k r) (drop k p)) ≡ bit_at v (xor_words r p)
    go (yes l) =
        bit_at_word v (take k r ++ xor_words (drop k r) (drop k p)) r (get_or_front k r (xor_words (drop k r) (drop k p)) (v / 64) h l)
        ∙ sym (bit_at_xor v r p ∙ ap (xor_bool (bit_at v r)) (f v (omega arith)) ∙ xor_bool_false (bit_at v r))
    go (no l) =
        let m : k ≤ v / 64 = omega arith in
        bit_at_word v (take k r ++ xor_words (drop k r) (drop k p)) (xor_words r p)
        (get_or_after k r (xor_words (drop k r) (drop k p)) (v / 64) h m ∙ get_or-xor_words (drop k r) (drop k p) (v / 64 - k)
        ∙ ap₂ bit_xor (get_or_dropped k r (v / 64) m) (get_or_dropped k p (v / 64) m) ∙ sym (get_or-xor_words r p (v / 64)))

pub equation_xor_from : (n k : ℕ) (p r : Row) → k ≤ length r.words → Clear (64 * k) p.words
    → equation_of n (xor_from k p r) ≡ sum (equation_of n r) (equation_of n p)
unfolding xor_from
equation_xor_from n k p r h f =
    λ i. record {
      vars = (columns_agree n (take k r.words ++ xor_words (drop k r.words) (drop k p.words)) (xor_words r.words p.words)
          (λ v _. bit_at_xor_from v k r.words p.words h f) ∙ columns_xor n r.words p.words) i;
      c = bit_xor r.c p.c;
    }

-- ---- bits of the new rows

pub has_bit-from_word : (v k : ℕ) (a b : Row) → k ≤ length a.words → Clear (64 * k) a.words → Clear (64 * k) b.words → has_bit v (from_word k a b) ≡ has_bit v b
unfolding from_word
has_bit-from_word v k a b = bit_at_from v k a.words b.words

pub has_bit-xor_from : (v k : ℕ) (p r : Row) → k ≤ length r.words → Clear (64 * k) p.words → has_bit v (xor_from k p r) ≡ xor_bool (has_bit v r) (has_bit v p)
unfolding xor_from
has_bit-xor_from v k p r h f = bit_at_xor_from v k r.words p.words h f ∙ bit_at_xor v r.words p.words

-- ---- clearing

pub clear_row-set : (c : ℕ) (p r : Row) → has_bit c r ≡ true → clear_row c p r ≡ xor_from (c / 64) p r
unfolding clear_row
clear_row-set c p r e = rw (e, clear_row)

pub clear_row_unset : (c : ℕ) (p r : Row) → has_bit c r ≡ false → clear_row c p r ≡ r
unfolding clear_row
clear_row_unset c p r e = rw (e, clear_row)

-- a law of a cleared row goes by its bit
pub clear_row_cases : (P : Row → Type 0) (c : ℕ) (p r : Row) → (has_bit c r ≡ true → P (xor_from (c / 64) p r)) → (has_bit c r ≡ false → P r) → P (clear_row c p r)
clear_row_cases P c p r f g = go (has_bit c r) refl
  where
    go : (b : Bool) → has_bit c r ≡ b → P (clear_row c p r)
    go true e = rw (clear_row-set c p r e) (f e)
    go false e = rw (clear_row_unset c p r e) (g e)

-- ---- whole rows, where the words before are zero

-- words of 64 bits
abbrev pub WordSized : List ℕ → Type 0
WordSized words = Each (λ x. x < 2 ^ 64) words

digit_zero : (d : ℕ) → d < 2 → eqb d 1 ≡ false → d ≡ 0
digit_zero d h = digit_cases (λ x. eqb x 1 ≡ false → x ≡ 0) d h (λ e. refl) (λ e. absurd (true≢false e))

-- a row of 64-bit words with no bit below column c: every word before the column's word is 0
pub words_zero : (c : ℕ) (words : List ℕ) → WordSized words → Clear c words → (j : ℕ) → j < c / 64 → get_or words j 0 ≡ 0
unfolding bit_at
words_zero c words sized f j h = go (dec_lt j (length words))
  where
    bit : (i : ℕ) → i < 64 → get_or words j 0 / 2 ^ i % 2 ≡ 0
    bit i l =
        let d : (64 * j + i) / 64 ≡ j = omega arith in
        let r : (64 * j + i) % 64 ≡ i = omega arith in
        digit_zero (get_or words j 0 / 2 ^ i % 2) (mod-lt _ (zero-lt-suc 1)) (rw (d, r) at (f (64 * j + i) (omega arith)))

    go : Dec (j < length words) → get_or words j 0 ≡ 0
    go (yes l) = no_digits 64 (get_or words j 0) (each_at (λ x. x < 2 ^ 64) words 0 j l sized) bit
    go (no l) = get_or-eq_default words 0 (omega arith)

-- the first k words of the row are 0
abbrev pub ZeroBefore : ℕ → Row → Type 0
ZeroBefore k row = (j : ℕ) → j < k → get_or row.words j 0 ≡ 0

fronts : (k : ℕ) (a b : List ℕ) → length a ≡ length b → ((j : ℕ) → j < k → get_or a j 0 ≡ get_or b j 0) → take k a ≡ take k b
fronts k a b e f =
    let l : length (take k a) ≡ min k (length a) = length-take k a in
    let l' : length (take k b) ≡ min k (length b) = length-take k b in
    ext_get_or 0 (take k a) (take k b) (l ∙ ap (λ (x : ℕ). min k x) e ∙ sym l')
    (λ i h. let m : i < k = omega arith in get_or-take k a i 0 m ∙ f i m ∙ sym (get_or-take k b i 0 m))

-- taking a row's words from word k on is taking the whole row
pub from_word_lem : (k : ℕ) (a b : Row) → length a.words ≡ length b.words → ZeroBefore k a → ZeroBefore k b → from_word k a b ≡ b
unfolding from_word
from_word_lem k a b e p q = λ i. record { words = same i; c = b.c }
  where
    same : take k a.words ++ drop k b.words ≡ b.words
    same =
        ap (λ (l : List ℕ). l ++ drop k b.words) (fronts k a.words b.words e (λ j h. p j h ∙ sym (q j h)))
        ∙ take-append-drop k b.words

-- Rows that change places from word k on change places whole, where the first k words of both are 0.
pub swap_from_word : (k i j : ℕ) (rows : List Row) → length (get_or rows i no_row).words ≡ length (get_or rows j no_row).words
    → ZeroBefore k (get_or rows i no_row) → ZeroBefore k (get_or rows j no_row) → swap_rows k i j rows ≡ set (set rows i (get_or rows j no_row)) j (get_or rows i no_row)
unfolding swap_rows
swap_from_word k i j rows e p q =
    ap₂ (λ (a b : Row). set (set rows i a) j b) (from_word_lem k (get_or rows i no_row) (get_or rows j no_row) e p q) (from_word_lem k (get_or rows j no_row) (get_or rows i no_row) (sym e) q p)

-- The XOR from word k on is the XOR of the whole rows, where the first k words of the pivot row are 0.
pub xor_from_word : (k : ℕ) (pivot row : Row) → k ≤ length row.words → length pivot.words ≡ length row.words → ZeroBefore k pivot
    → xor_from k pivot row ≡ record { words = xor_words row.words pivot.words; c = bit_xor row.c pivot.c }
unfolding xor_from
xor_from_word k pivot row h e p = λ i. record { words = same i; c = bit_xor row.c pivot.c }
  where
    long : length (take k row.words ++ xor_words (drop k row.words) (drop k pivot.words)) ≡ length (xor_words row.words pivot.words)
    long =
        let a = length-take k row.words in
        let d = length-drop k row.words in
        let d' = length-drop k pivot.words in
        let x = length-xor_words (drop k row.words) (drop k pivot.words) (omega arith) in
        let y = length-xor_words row.words pivot.words (sym e) in
        simp length-append (omega arith)

    at : (j : ℕ) → Dec (j < k)
        → get_or (take k row.words ++ xor_words (drop k row.words) (drop k pivot.words)) j 0 ≡ get_or (xor_words row.words pivot.words) j 0
    at j (yes l) =
        get_or_front k row.words (xor_words (drop k row.words) (drop k pivot.words)) j h l
        ∙ sym (get_or-xor_words row.words pivot.words j ∙ ap (bit_xor (get_or row.words j 0)) (p j l) ∙ xor_zero_r (get_or row.words j 0))
    at j (no l) =
        let m : k ≤ j = omega arith in
        get_or_after k row.words (xor_words (drop k row.words) (drop k pivot.words)) j h m
        ∙ get_or-xor_words (drop k row.words) (drop k pivot.words) (j - k)
        ∙ ap₂ bit_xor (get_or_dropped k row.words j m) (get_or_dropped k pivot.words j m) ∙ sym (get_or-xor_words row.words pivot.words j)

    same : take k row.words ++ xor_words (drop k row.words) (drop k pivot.words) ≡ xor_words row.words pivot.words
    same = ext_get_or 0 (take k row.words ++ xor_words (drop k row.words) (drop k pivot.words)) (xor_words row.words pivot.words) long (λ j _. at j (dec_lt j k))
