-- The set columns of a row: in order, by their bits, and the XOR of two rows reads as the sum of the equations.
use mathlib.Core.Path.{◌≡◌, refl, sym, ap, ap₂, ◌∙◌}
use mathlib.Core.List.{List, [], ◌∷◌, ◌++◌}
use mathlib.Core.Bool.{Bool, true, false, ◌||◌}
use Prim.Native.Nat.{ℕ, zero, suc, ◌+◌, ◌-◌, ◌<◌, ◌≤◌}
use native.Mathlib.Nat.{add-zero, zero-add, add-suc, suc-add, le_refl}
use native.Mathlib.Decide.{dec_lt}
use native.Mathlib.Omega.{arith}
use Rattle.gf2.specs.Equation.{Each, Increasing, Rising, lists, xor_bool, sym_diff}
use Rattle.gf2.proofs.Tests.{eqb_same, eqb_ne}
use Rattle.gf2.proofs.SymDiff.{rising_from}
use Rattle.gf2.proofs.VarLists.{sym_diff_unique}
use Rattle.gf2.proofs.Order.{rising_increasing, rising_below}
use Rattle.dense_rows.specs.Bits.{bit_at, Clear, columns_from, columns, xor_words}
use Rattle.dense_rows.proofs.BitLaws.{bit_at_xor}

-- ---- the cases

module _ (k c : ℕ) (words : List ℕ) where
  pub columns_set : bit_at c words ≡ true → columns_from (suc k) c words ≡ c ∷ columns_from k (suc c) words
  unfolding columns_from
  columns_set e = rw (e, columns_from)

  pub columns_unset : bit_at c words ≡ false → columns_from (suc k) c words ≡ columns_from k (suc c) words
  unfolding columns_from
  columns_unset e = rw (e, columns_from)

  -- a law of the set columns goes by the first column
  pub columns_cases : (P : List ℕ → Type 0) → (bit_at c words ≡ true → P (c ∷ columns_from k (suc c) words)) → (bit_at c words ≡ false → P (columns_from k (suc c) words))
      → P (columns_from (suc k) c words)
  columns_cases P p q = go (bit_at c words) refl
    where
      go : (b : Bool) → bit_at c words ≡ b → P (columns_from (suc k) c words)
      go true e = rw (columns_set e) (p e)
      go false e = rw (columns_unset e) (q e)

-- ---- order

pub rising_columns : (k c n : ℕ) (words : List ℕ) → c + k ≤ n → Rising c n (columns_from k c words)
unfolding columns_from
rising_columns zero c n words h = tt
rising_columns (suc k) c n words h =
    let ih = rising_columns k (suc c) n words (omega arith) in
    columns_cases k c words (λ l. Rising c n l) (λ e. (le_refl c, omega arith, ih)) (λ e. rising_from (suc c) c n (columns_from k (suc c) words) (omega arith) ih)

pub increasing_columns : (n : ℕ) (words : List ℕ) → Increasing (columns n words)
increasing_columns n words = rising_increasing 0 n (columns n words) (rising_columns n 0 n words (omega arith))

pub columns_below : (n : ℕ) (words : List ℕ) → Each (λ u. u < n) (columns n words)
columns_below n words = rising_below 0 n (columns n words) (rising_columns n 0 n words (omega arith))

-- ---- which columns are set

-- those below c, and those from c + k on, are not among them
lists_before : (v k c : ℕ) (words : List ℕ) → v < c → lists v (columns_from k c words) ≡ false
unfolding columns_from lists
lists_before v zero c words h = refl
lists_before v (suc k) c words h =
    let ih = lists_before v k (suc c) words (omega arith) in
    columns_cases k c words (λ l. lists v l ≡ false) (λ e. ap₂ ◌||◌ (eqb_ne v c (omega arith)) ih) (λ e. ih)

lists_past : (v k c : ℕ) (words : List ℕ) → c + k ≤ v → lists v (columns_from k c words) ≡ false
unfolding columns_from lists
lists_past v zero c words h = refl
lists_past v (suc k) c words h =
    let ih = lists_past v k (suc c) words (omega arith) in
    columns_cases k c words (λ l. lists v l ≡ false) (λ e. ap₂ ◌||◌ (eqb_ne v c (omega arith)) ih) (λ e. ih)

-- each other is among them where its bit is set
lists_within : (v k c : ℕ) (words : List ℕ) → c ≤ v → v < c + k → lists v (columns_from k c words) ≡ bit_at v words
unfolding columns_from lists
lists_within v zero c words h l = absurd (omega arith)
lists_within v (suc k) c words h l = go (dec_lt c v) (λ m. lists_within v k (suc c) words m (omega arith))
  where
    go : Dec (c < v) → (c < v → lists v (columns_from k (suc c) words) ≡ bit_at v words) → lists v (columns_from (suc k) c words) ≡ bit_at v words
    go (yes m) ih = columns_cases k c words (λ l. lists v l ≡ bit_at v words) (λ e. ap₂ ◌||◌ (eqb_ne v c (omega arith)) (ih m)) (λ e. ih m)
    go (no m) ih =
        let s : v ≡ c = omega arith in
        rw s (columns_cases k c words (λ l. lists c l ≡ bit_at c words) (λ e. ap (λ b. b || lists c (columns_from k (suc c) words)) (eqb_same c) ∙ sym e)
        (λ e. lists_before c k (suc c) words (omega arith) ∙ sym e))

pub lists_columns : (n v : ℕ) (words : List ℕ) → v < n → lists v (columns n words) ≡ bit_at v words
lists_columns n v words h = lists_within v n 0 words (omega arith) (omega arith)

pub not_lists_columns : (n v : ℕ) (words : List ℕ) → n ≤ v → lists v (columns n words) ≡ false
not_lists_columns n v words h = lists_past v n 0 words (omega arith)

-- ---- equal bits, no bits, the first bit

pub columns_from_agree : (k c : ℕ) (a b : List ℕ) → ((v : ℕ) → c ≤ v → v < c + k → bit_at v a ≡ bit_at v b) → columns_from k c a ≡ columns_from k c b
unfolding columns_from
columns_from_agree zero c a b f = refl
columns_from_agree (suc k) c a b f =
    let ih = columns_from_agree k (suc c) a b (λ v h l. f v (omega arith) (omega arith)) in
    let e : bit_at c a ≡ bit_at c b = f c (le_refl c) (omega arith) in
    columns_cases k c a (λ l. l ≡ columns_from (suc k) c b)
    (λ p. rw (columns_set k c b (sym e ∙ p)) (ap (λ (l : List ℕ). c ∷ l) ih))
    (λ p. rw (columns_unset k c b (sym e ∙ p)) ih)

pub columns_agree : (n : ℕ) (a b : List ℕ) → ((v : ℕ) → v < n → bit_at v a ≡ bit_at v b) → columns n a ≡ columns n b
columns_agree n a b f = columns_from_agree n 0 a b (λ v h l. f v (omega arith))

pub columns_from_none : (k c : ℕ) (words : List ℕ) → ((v : ℕ) → c ≤ v → v < c + k → bit_at v words ≡ false) → columns_from k c words ≡ []
unfolding columns_from
columns_from_none zero c words f = refl
columns_from_none (suc k) c words f =
    columns_unset k c words (f c (le_refl c) (omega arith)) ∙ columns_from_none k (suc c) words (λ v h l. f v (omega arith) (omega arith))

pub columns_from_add : (j k c : ℕ) (words : List ℕ) → columns_from (j + k) c words ≡ columns_from j c words ++ columns_from k (c + j) words
unfolding columns_from
columns_from_add zero k c words = rw (add-zero c, zero-add k)
columns_from_add (suc j) k c words =
    let ih = columns_from_add j k (suc c) words in
    rw (suc-add j k) (columns_cases (j + k) c words (λ l. l ≡ columns_from (suc j) c words ++ columns_from k (c + suc j) words)
    (λ e. rw (columns_set j c words e, add-suc c j, ← (suc-add c j)) (ap (λ (l : List ℕ). c ∷ l) ih))
    (λ e. rw (columns_unset j c words e, add-suc c j, ← (suc-add c j)) ih))

pub columns_clear : (n : ℕ) (words : List ℕ) → Clear n words → columns n words ≡ []
columns_clear n words f = columns_from_none n 0 words (λ v h l. f v (omega arith))

pub clear_next : (c : ℕ) (words : List ℕ) → Clear c words → bit_at c words ≡ false → Clear (suc c) words
clear_next c words f e v h = go (dec_lt v c)
  where
    go : Dec (v < c) → bit_at v words ≡ false
    go (yes l) = f v l
    go (no l) = let s : v ≡ c = omega arith in rw s e

-- the first set column
pub columns_lead : (n c : ℕ) (words : List ℕ) → c < n → Clear c words → bit_at c words ≡ true → columns n words ≡ c ∷ columns_from (n - suc c) (suc c) words
columns_lead n c words h f e =
    let s : n ≡ c + suc (n - suc c) = omega arith in
    ap (λ (k : ℕ). columns_from k 0 words) s ∙ columns_from_add c (suc (n - suc c)) 0 words
    ∙ ap (λ (l : List ℕ). l ++ columns_from (suc (n - suc c)) (0 + c) words) (columns_from_none c 0 words (λ v _ l. f v (omega arith)))
    ∙ rw (zero-add c) (columns_set (n - suc c) c words e)

-- ---- the XOR of two rows

pub columns_xor : (n : ℕ) (a b : List ℕ) → columns n (xor_words a b) ≡ sym_diff (columns n a) (columns n b)
columns_xor n a b =
    sym_diff_unique (columns n a) (columns n b) (columns n (xor_words a b)) (increasing_columns n a) (increasing_columns n b) (increasing_columns n (xor_words a b))
    (λ v. go v (dec_lt v n))
  where
    go : (v : ℕ) → Dec (v < n) → lists v (columns n (xor_words a b)) ≡ xor_bool (lists v (columns n a)) (lists v (columns n b))
    go v (yes h) = lists_columns n v (xor_words a b) h ∙ bit_at_xor v a b ∙ sym (ap₂ xor_bool (lists_columns n v a h) (lists_columns n v b h))
    go v (no h) =
        let l : n ≤ v = omega arith in
        not_lists_columns n v (xor_words a b) l ∙ sym (ap₂ xor_bool (not_lists_columns n v a l) (not_lists_columns n v b l))
