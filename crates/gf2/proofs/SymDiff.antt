-- `sym_diff` by its rules: each rule as a constructor, each case as an equation, each turn of a loop that merges, and what it keeps.
use mathlib.Core.Path.{◌≡◌, refl, sym, ap, ◌∙◌}
use mathlib.Core.List.{List, [], ◌∷◌}
use Prim.Native.Nat.compare
use Prim.Native.Nat.{ℕ, zero, suc, ◌+◌, ◌≤◌, ◌<◌, compare, Ordering}
use native.Mathlib.Numerals.{add-one}
use native.Mathlib.Omega.{arith}
use lib.ListN.{length, get_or, drop, drop_of_length-le}
use lib.Seq.{drop-cons}
use lib.Bits.{bit_xor, xor_zero_r}
use Rattle.gf2.specs.Equation.{Each, Rising, eval_vars, sym_diff}
use Rattle.gf2.proofs.XorLaws.{xor_assoc, xor_left_comm, xor_twice}

-- ---- what a comparison says

pub data Cmp (x y : ℕ) : Ordering → Type 0 where
  is_lt : x < y → Cmp x y Ordering.lt
  is_eq : x ≡ y → Cmp x y Ordering.eq
  is_gt : y < x → Cmp x y Ordering.gt

cmp_suc : {x y : ℕ} {o : Ordering} → Cmp x y o → Cmp (suc x) (suc y) o
cmp_suc (is_lt h) = is_lt (omega arith)
cmp_suc (is_eq h) = is_eq (ap suc h)
cmp_suc (is_gt h) = is_gt (omega arith)

pub cmp : (x y : ℕ) → Cmp x y (compare x y)
cmp zero zero = is_eq refl
cmp zero (suc y) = rw compare.zero-suc (is_lt (omega arith))
cmp (suc x) zero = rw compare.suc-zero (is_gt (omega arith))
cmp (suc x) (suc y) = rw compare.suc-suc (cmp_suc (cmp x y))

pub compare_lt : (x y : ℕ) → x < y → compare x y ≡ Ordering.lt
compare_lt x y h = go (cmp x y)
  where
    go : {o : Ordering} → Cmp x y o → o ≡ Ordering.lt
    go (is_lt l) = refl
    go (is_eq e) = absurd (omega arith)
    go (is_gt l) = absurd (omega arith)

pub compare_gt : (x y : ℕ) → y < x → compare x y ≡ Ordering.gt
compare_gt x y h = go (cmp x y)
  where
    go : {o : Ordering} → Cmp x y o → o ≡ Ordering.gt
    go (is_lt l) = absurd (omega arith)
    go (is_eq e) = absurd (omega arith)
    go (is_gt l) = refl

pub compare_eq : (x y : ℕ) → x ≡ y → compare x y ≡ Ordering.eq
compare_eq x y h = go (cmp x y)
  where
    go : {o : Ordering} → Cmp x y o → o ≡ Ordering.eq
    go (is_lt l) = absurd (omega arith)
    go (is_eq e) = refl
    go (is_gt l) = absurd (omega arith)

-- ---- the cases

pub sym_diff-nil : (ys : List ℕ) → sym_diff [] ys ≡ ys
unfolding sym_diff
sym_diff-nil ys = refl

pub sym_diff_none : (xs : List ℕ) → sym_diff xs [] ≡ xs
unfolding sym_diff
sym_diff_none [] = refl
sym_diff_none (x ∷ xs) = refl

module _ (x : ℕ) (xs : List ℕ) (y : ℕ) (ys : List ℕ) where
  pub sym_diff_less : x < y → sym_diff (x ∷ xs) (y ∷ ys) ≡ x ∷ sym_diff xs (y ∷ ys)
  unfolding sym_diff
  sym_diff_less h = rw (compare_lt x y h, sym_diff)

  pub sym_diff_same : x ≡ y → sym_diff (x ∷ xs) (y ∷ ys) ≡ sym_diff xs ys
  unfolding sym_diff
  sym_diff_same h = rw (compare_eq x y h, sym_diff)

  pub sym_diff_more : y < x → sym_diff (x ∷ xs) (y ∷ ys) ≡ y ∷ sym_diff (x ∷ xs) ys
  unfolding sym_diff
  sym_diff_more h = rw (compare_gt x y h, sym_diff)

-- a merge at places i and j of two lists: one turn for each case
module _ (xs ys : List ℕ) (i j : ℕ) (hi : i < length xs) (hj : j < length ys) where
  pub turn_less : get_or xs i 0 < get_or ys j 0 → sym_diff (drop i xs) (drop j ys) ≡ get_or xs i 0 ∷ sym_diff (drop (i + 1) xs) (drop j ys)
  turn_less h = rw (add-one, drop-cons xs i 0 hi, drop-cons ys j 0 hj) (sym_diff_less _ _ _ _ h)

  pub turn_same : get_or xs i 0 ≡ get_or ys j 0 → sym_diff (drop i xs) (drop j ys) ≡ sym_diff (drop (i + 1) xs) (drop (j + 1) ys)
  turn_same h = rw (add-one i, add-one j, drop-cons xs i 0 hi, drop-cons ys j 0 hj) (sym_diff_same _ _ _ _ h)

  pub turn_more : get_or ys j 0 < get_or xs i 0 → sym_diff (drop i xs) (drop j ys) ≡ get_or ys j 0 ∷ sym_diff (drop i xs) (drop (j + 1) ys)
  turn_more h = rw (add-one, drop-cons xs i 0 hi, drop-cons ys j 0 hj) (sym_diff_more _ _ _ _ h)

-- one list is at its end: the sum is the rest of the other
pub left_ended : (xs ys : List ℕ) (i : ℕ) → length xs ≤ i → sym_diff (drop i xs) ys ≡ ys
left_ended xs ys i h = rw (drop_of_length-le xs h) (sym_diff-nil ys)

pub right_ended : (xs ys : List ℕ) (j : ℕ) → length ys ≤ j → sym_diff xs (drop j ys) ≡ xs
right_ended xs ys j h = rw (drop_of_length-le ys h) (sym_diff_none xs)

-- ---- the rules: laws go by clauses on a derivation

pub data Merge : List ℕ → List ℕ → List ℕ → Type 0 where
  no_left : {ys : List ℕ} → Merge [] ys ys
  no_right : {x : ℕ} {xs : List ℕ} → Merge (x ∷ xs) [] (x ∷ xs)
  left : {x y : ℕ} {xs ys zs : List ℕ} → x < y → Merge xs (y ∷ ys) zs → Merge (x ∷ xs) (y ∷ ys) (x ∷ zs)
  same : {x y : ℕ} {xs ys zs : List ℕ} → x ≡ y → Merge xs ys zs → Merge (x ∷ xs) (y ∷ ys) zs
  right : {x y : ℕ} {xs ys zs : List ℕ} → y < x → Merge (x ∷ xs) ys zs → Merge (x ∷ xs) (y ∷ ys) (y ∷ zs)

pub merge : (xs ys : List ℕ) → Merge xs ys (sym_diff xs ys)
unfolding sym_diff
merge [] ys = no_left
merge (x ∷ xs) [] = no_right
merge (x ∷ xs) (y ∷ ys) = go (compare x y) (cmp x y) (merge xs (y ∷ ys)) (merge xs ys) (merge (x ∷ xs) ys)
  where
    go : (o : Ordering) → Cmp x y o → Merge xs (y ∷ ys) (sym_diff xs (y ∷ ys)) → Merge xs ys (sym_diff xs ys) → Merge (x ∷ xs) ys (sym_diff (x ∷ xs) ys)
        → Merge (x ∷ xs) (y ∷ ys) (elim o [ Ordering.lt ↦ x ∷ sym_diff xs (y ∷ ys) | Ordering.eq ↦ sym_diff xs ys | Ordering.gt ↦ y ∷ sym_diff (x ∷ xs) ys ])
    go o (is_lt h) l e r = left h l
    go o (is_eq h) l e r = same h e
    go o (is_gt h) l e r = right h r

-- ---- what a sum keeps

-- what holds of each variable of two lists holds of each of their sum
pub merge_each : (Q : ℕ → Type 0) {a b d : List ℕ} → Merge a b d → Each Q a → Each Q b → Each Q d
merge_each Q no_left h k = k
merge_each Q no_right h k = h
merge_each Q (left l m) h k = (h.0, merge_each Q m h.1 k)
merge_each Q (same e m) h k = merge_each Q m h.1 k.1
merge_each Q (right l m) h k = (k.0, merge_each Q m h k.1)

pub each_sym_diff : (Q : ℕ → Type 0) (a b : List ℕ) → Each Q a → Each Q b → Each Q (sym_diff a b)
each_sym_diff Q a b = merge_each Q (merge a b)

merge_eval : (x : List ℕ) {a b d : List ℕ} → Merge a b d → eval_vars d x ≡ bit_xor (eval_vars a x) (eval_vars b x)
unfolding eval_vars
merge_eval x no_left = refl
merge_eval x no_right = sym (xor_zero_r _)
merge_eval x (left h m) = simp (merge_eval x m, xor_assoc)
merge_eval x (same e m) = simp (merge_eval x m, e, xor_assoc, xor_left_comm, xor_twice)
merge_eval x (right h m) = simp (merge_eval x m, xor_assoc, xor_left_comm)

pub eval_vars-sym_diff : (a b x : List ℕ) → eval_vars (sym_diff a b) x ≡ bit_xor (eval_vars a x) (eval_vars b x)
eval_vars-sym_diff a b x = merge_eval x (merge a b)

merge_length : {a b d : List ℕ} → Merge a b d → length d ≤ length a + length b
merge_length no_left = omega arith
merge_length no_right = omega arith
merge_length (left h m) = let k = merge_length m in omega arith
merge_length (same e m) = let k = merge_length m in omega arith
merge_length (right h m) = let k = merge_length m in omega arith

pub length-sym_diff-le : (a b : List ℕ) → length (sym_diff a b) ≤ length a + length b
length-sym_diff-le a b = merge_length (merge a b)

-- a list plus itself is empty
pub sym_diff_self : (a : List ℕ) → sym_diff a a ≡ []
sym_diff_self [] = sym_diff-nil []
sym_diff_self (v ∷ vs) = sym_diff_same v vs v vs refl ∙ sym_diff_self vs

-- ---- rising lists, with both bounds

pub rising_from : (b b' n : ℕ) (vs : List ℕ) → b' ≤ b → Rising b n vs → Rising b' n vs
rising_from b b' n [] h r = tt
rising_from b b' n (v ∷ vs) h r = (omega arith, r.1, r.2)

merge_rising : (b n : ℕ) {xs ys zs : List ℕ} → Merge xs ys zs → Rising b n xs → Rising b n ys → Rising b n zs
merge_rising b n no_left r s = s
merge_rising b n no_right r s = r
merge_rising b n (left {x} h m) r s = (r.0, r.1, merge_rising (suc x) n m r.2 (h, s.1, s.2))
merge_rising b n (same {x} {zs = zs} h m) r s = rising_from (suc x) b n zs (omega arith) (merge_rising (suc x) n m r.2 (rw h s.2))
merge_rising b n (right {y = y} h m) r s = (s.0, s.1, merge_rising (suc y) n m (h, r.1, r.2) s.2)

pub rising_sym_diff : (b n : ℕ) (xs ys : List ℕ) → Rising b n xs → Rising b n ys → Rising b n (sym_diff xs ys)
rising_sym_diff b n xs ys = merge_rising b n (merge xs ys)

-- two lists with one first variable: it goes
pub rising_sym_diff_heads : (b n u v : ℕ) (us vs : List ℕ) → u ≡ v → Rising b n (u ∷ us) → Rising b n (v ∷ vs) → Rising (suc u) n (sym_diff (u ∷ us) (v ∷ vs))
rising_sym_diff_heads b n u v us vs e r s = rw (sym_diff_same u us v vs e) (rising_sym_diff (suc u) n us vs r.2 (rw e s.2))

-- a rising list has no more variables than there are numbers between its bounds
pub rising_length : (b n : ℕ) (vs : List ℕ) → b ≤ n → Rising b n vs → length vs + b ≤ n
rising_length b n [] h r = omega arith
rising_length b n (v ∷ vs) h r = let k = rising_length (suc v) n vs r.1 r.2 in omega arith
