-- The invariant holds at the start.
use mathlib.Core.Path.{◌≡◌, refl, sym, ap, ap₂, ◌∙◌, subst}
use mathlib.Core.Logic.{◌≢◌, ◌⊎◌, inl, inr}
use mathlib.Core.List.Memᴰ
use mathlib.Core.List.{List, [], ◌∷◌, ◌++◌, map}
use mathlib.Core.Bool.{Bool, true, false, cond, ◌||◌, true≢false, false≢true}
use Prim.Native.Nat.{ℕ, zero, suc, ◌+◌, ◌≤◌, ◌<◌}
use native.Mathlib.Omega.{arith}
use native.Mathlib.Decide.{dec_lt, dec_le}
use native.Mathlib.Nat.{le_of_eq}
use lib.ListN.{length, get_or, replicate, length-map, length-replicate, get_or-replicate, get_or-eq_default, length-append}
use lib.Dec.{eqb, leb, leb→le, le→leb}
use Rattle.gf2.specs.ByNumber.{row_of, blank, lists_at}
use Rattle.gf2.specs.Equation.{Equation, Increasing, Sorted, lists}
use Rattle.gf2.specs.NumberLists.{up_from, down_from, keep, one, count, Distinct}
use Rattle.gf2.specs.Span.{InSpan}
use Rattle.lazy.specs.Invariant.{Lent, free, is_solved, solves, waiting, two_up, Inv, Place, waits, listed, InOrder, TakenBefore}
use Rattle.lazy.specs.Lazy.{listing, heaviest, start, of_weight}
use Rattle.gf2.proofs.Counting.{count_all}
use Rattle.gf2.proofs.Each.{each_from}
use Rattle.gf2.proofs.Members.{or_assoc, Same, eq, ne, same?, or_r, or_true, and_true, increasing_distinct, head_listed, tail_listed}
use Rattle.gf2.proofs.Selecting.{lists_keep, distinct_keep, increasing_up, lists_up, up_below, length_up, get_or-map_up, keep_same, length-keep, length_zero}
use Rattle.gf2.proofs.Spans.{span_at, span_zero}
use Rattle.gf2.proofs.Tests.{not_true→false, eqb_same, eqb_true, eqb_ne, T→true, true→T}
use Rattle.lazy.proofs.Pivots.{lists_listing, free_idle, is_free}

-- ---- tables over 0, 1, ..

-- the priorities of 1 or less and those that wait are all
low_and_waiting : (f : ℕ → ℕ) (k n : ℕ) → length (keep (λ e. leb (f e) 1) (up_from k n)) + waiting (map f (up_from k n)) ≡ n
unfolding up_from keep waiting
low_and_waiting f k zero = refl
low_and_waiting f k (suc n) = go (f k) (low_and_waiting f (suc k) n)
  where
    go : (x : ℕ) → length (keep (λ e. leb (f e) 1) (up_from (suc k) n)) + waiting (map f (up_from (suc k) n)) ≡ n
        → length (cond (leb x 1) (k ∷ keep (λ e. leb (f e) 1) (up_from (suc k) n)) (keep (λ e. leb (f e) 1) (up_from (suc k) n)))
        + (two_up x + waiting (map f (up_from (suc k) n))) ≡ suc n
    go zero ih = unfold two_up in omega arith
    go (suc zero) ih = unfold two_up in omega arith
    go (suc (suc x)) ih = rw (not_true→false (leb (suc (suc x)) 1) (λ t. let z = leb→le (suc (suc x)) 1 (true→T t) in omega arith)) (unfold two_up in omega arith)

-- ---- the variables by weight

lists_append : (v : ℕ) (a b : List ℕ) → lists v (a ++ b) ≡ (lists v a || lists v b)
unfolding lists
lists_append v [] b = refl
lists_append v (u ∷ us) b = ap (λ t. eqb v u || t) (lists_append v us b) ∙ or_assoc (eqb v u) (lists v us) (lists v b)

distinct_append : (a b : List ℕ) → Distinct a → Distinct b → ((v : ℕ) → lists v a ≡ true → lists v b ≡ false) → Distinct (a ++ b)
distinct_append [] b h k f = k
distinct_append (v ∷ vs) b h k f =
    (lists_append v vs b ∙ ap₂ ◌||◌ h.0 (f v (head_listed v vs)), distinct_append vs b h.1 k (λ u l. f u (tail_listed u v vs l)))

down_below : (v n : ℕ) → lists v (down_from n) ≡ true → v < n
unfolding down_from lists
down_below v zero h = absurd (false≢true h)
down_below v (suc n) h = go (same? v n) (down_below v n)
  where
    go : Same v n → (lists v (down_from n) ≡ true → v < n) → v < suc n
    go (eq r t) ih = omega arith
    go (ne r t) ih = let k : v < n = ih (rw t at h) in omega arith

lists_down : (v n : ℕ) → v < n → lists v (down_from n) ≡ true
unfolding down_from lists
lists_down v zero h = absurd (omega arith)
lists_down v (suc n) h = go (same? v n) (lists_down v n)
  where
    go : Same v n → (v < n → lists v (down_from n) ≡ true) → (eqb v n || lists v (down_from n)) ≡ true
    go (eq r t) ih = rw t
    go (ne r t) ih = rw t (ih (omega arith))

distinct_down : (n : ℕ) → Distinct (down_from n)
unfolding down_from
distinct_down zero = tt
distinct_down (suc n) = (not_true→false (lists n (down_from n)) (λ h. let k = down_below n n h in omega arith), distinct_down n)

module _ (weight : List ℕ) (n : ℕ) where
  -- those of one weight
  weight_is : (w v : ℕ) → lists v (of_weight weight n w) ≡ true → (get_or weight v 0 ≡ w) × (v < n)
  weight_is w v h =
      let k = and_true (eqb (get_or weight v 0) w) (lists v (down_from n)) (sym (lists_keep (λ u. eqb (get_or weight u 0) w) v (down_from n)) ∙ h) in
      (eqb_true (get_or weight v 0) w k.0, down_below v n k.1)

  in_weight : (w v : ℕ) → get_or weight v 0 ≡ w → v < n → lists v (of_weight weight n w) ≡ true
  in_weight w v e h =
      lists_keep (λ u. eqb (get_or weight u 0) w) v (down_from n) ∙ rw (e, eqb_same w) (lists_down v n h)

  heaviest_is : (w v : ℕ) → lists v (heaviest weight n w) ≡ true → (get_or weight v 0 ≤ w) × (v < n)
  unfolding heaviest
  heaviest_is zero v h = let k = weight_is zero v h in (omega arith, k.1)
  heaviest_is (suc w) v h = go (or_true (lists v (of_weight weight n (suc w))) (lists v (heaviest weight n w)) (sym (lists_append v (of_weight weight n (suc w)) (heaviest weight n w)) ∙ h)) (heaviest_is w v)
    where
      go : (lists v (of_weight weight n (suc w)) ≡ true) ⊎ (lists v (heaviest weight n w) ≡ true) → (lists v (heaviest weight n w) ≡ true → (get_or weight v 0 ≤ w) × (v < n))
          → (get_or weight v 0 ≤ suc w) × (v < n)
      go (inl k) ih = let l = weight_is (suc w) v k in (omega arith, l.1)
      go (inr k) ih = let l = ih k in (omega arith, l.1)

  in_heaviest : (w v : ℕ) → get_or weight v 0 ≤ w → v < n → lists v (heaviest weight n w) ≡ true
  unfolding heaviest
  in_heaviest zero v h k = in_weight zero v (omega arith) k
  in_heaviest (suc w) v h k = lists_append v (of_weight weight n (suc w)) (heaviest weight n w) ∙ go (same? (get_or weight v 0) (suc w)) (in_heaviest w v)
    where
      go : Same (get_or weight v 0) (suc w) → (get_or weight v 0 ≤ w → v < n → lists v (heaviest weight n w) ≡ true)
          → (lists v (of_weight weight n (suc w)) || lists v (heaviest weight n w)) ≡ true
      go (eq r t) ih = rw (in_weight (suc w) v r k)
      go (ne r t) ih = or_r (lists v (of_weight weight n (suc w))) (ih (omega arith) k)

  distinct_heaviest : (w : ℕ) → Distinct (heaviest weight n w)
  unfolding heaviest
  distinct_heaviest zero = distinct_keep (λ v. eqb (get_or weight v 0) zero) (down_from n) (distinct_down n)
  distinct_heaviest (suc w) =
      distinct_append (of_weight weight n (suc w)) (heaviest weight n w) (distinct_keep (λ v. eqb (get_or weight v 0) (suc w)) (down_from n) (distinct_down n)) (distinct_heaviest w)
      (λ v h. not_true→false (lists v (heaviest weight n w)) (λ k. let a = weight_is (suc w) v h in let b = heaviest_is w v k in omega arith))

-- ---- the start

plus_none : (x e : ℕ) → x ≡ x + one (is_solved [] e)
unfolding one is_solved
plus_none x e = omega arith

module _ (n : ℕ) (sys : List Equation) (lent : Lent n sys) where
  m : ℕ
  m = length sys

  weights : List ℕ
  weights = map (λ v. length (listing sys v)) (up_from 0 n)

  priorities : List ℕ
  priorities = map (λ e. length (row_of sys e).vars) (up_from 0 m)

  idle_below : (v : ℕ) → get_or (replicate n true) v false ≡ true → v < n
  idle_below v h = go (dec_lt v n)
    where
      go : Dec (v < n) → v < n
      go (yes k) = k
      go (no k) = absurd (false≢true (sym (get_or-eq_default (replicate n true) false {n = v} (rw (length-replicate n true) (omega arith))) ∙ h))

  weight_at : (v : ℕ) → v < n → get_or weights v 0 ≡ length (listing sys v)
  unfolding weights
  weight_at v h = get_or-map_up (λ u. length (listing sys u)) 0 n v h ∙ ap (λ u. length (listing sys u)) (omega arith)

  priority_at : (e : ℕ) → e < length sys → get_or priorities e 0 ≡ length (row_of sys e).vars
  unfolding priorities m
  priority_at e h = get_or-map_up (λ u. length (row_of sys u).vars) 0 (length sys) e h ∙ ap (λ u. length (row_of sys u).vars) (omega arith)

  -- a listed variable has weight
  weighty : (v e : ℕ) → lists_at sys v e ≡ true → length (listing sys v) ≢ 0
  weighty v e h z = true≢false (sym h ∙ sym (lists_listing sys v e) ∙ length_zero (listing sys v) e z)

  start_free : (v e : ℕ) → lists_at sys v e ≡ true → free (replicate n true) weights v ≡ true
  start_free v e h =
      let b = lent.inside v e h in
      is_free (replicate n true) weights v (get_or-replicate n v true false b) (λ z. weighty v e h (sym (weight_at v b) ∙ z))

  light : (v : ℕ) → length (listing sys v) ≤ length sys
  unfolding listing
  light v = let a = length-keep (lists_at sys v) (up_from 0 (length sys)) in let b = length_up 0 (length sys) in omega arith

  -- the variables come in order
  down_order : (w k : ℕ) → k ≤ n → InOrder sys (keep (λ v. eqb (get_or weights v 0) w) (down_from k))
  unfolding down_from keep
  down_order w zero h = tt
  down_order w (suc k) h = go (eqb (get_or weights k 0) w) refl (down_order w k (omega arith))
    where
      go : (b : Bool) → eqb (get_or weights k 0) w ≡ b → InOrder sys (keep (λ v. eqb (get_or weights v 0) w) (down_from k))
          → InOrder sys (cond b (k ∷ keep (λ v. eqb (get_or weights v 0) w) (down_from k)) (keep (λ v. eqb (get_or weights v 0) w) (down_from k)))
      go true e ih = (
        λ u l.
            let p = and_true (eqb (get_or weights u 0) w) (lists u (down_from k)) (sym (lists_keep (λ v. eqb (get_or weights v 0) w) u (down_from k)) ∙ l) in
            let b = down_below u k p.1 in
            let a = weight_at k (omega arith) in
            let c = weight_at u (omega arith) in
            let d = eqb_true (get_or weights k 0) w e in
            let f = eqb_true (get_or weights u 0) w p.0 in
            inr (omega arith, omega arith),
        ih,
      )
      go false e ih = ih

  append_order : (a b : List ℕ) → InOrder sys a → InOrder sys b → ((u v : ℕ) → lists u a ≡ true → lists v b ≡ true → TakenBefore sys u v) → InOrder sys (a ++ b)
  append_order [] b h k f = k
  append_order (u ∷ us) b h k f =
      (λ v l. go v (or_true (lists v us) (lists v b) (sym (lists_append v us b) ∙ l)), append_order us b h.1 k (λ x y p q. f x y (tail_listed x u us p) q))
    where
      go : (v : ℕ) → (lists v us ≡ true) ⊎ (lists v b ≡ true) → TakenBefore sys u v
      go v (inl p) = h.0 v p
      go v (inr p) = f u v (head_listed u us) p

  heaviest_order : (w : ℕ) → InOrder sys (heaviest weights n w)
  unfolding heaviest
  heaviest_order zero = down_order zero n (omega arith)
  heaviest_order (suc w) =
      append_order (keep (λ v. eqb (get_or weights v 0) (suc w)) (down_from n)) (heaviest weights n w) (down_order (suc w) n (omega arith)) (heaviest_order w)
      (λ u v p q.
      let a = weight_is weights n (suc w) u p in
      let b = heaviest_is weights n w v q in
      let c = weight_at u a.1 in
      let d = weight_at v b.1 in
      inl (omega arith))

  pub sys_sorted : Sorted sys
  sys_sorted = each_from (λ q. Increasing q.vars) sys blank (λ e h. lent.rising e)

  start_span : (e : ℕ) → InSpan sys (row_of sys e)
  start_span e = go (dec_lt e (length sys))
    where
      go : Dec (e < length sys) → InSpan sys (row_of sys e)
      go (yes h) = span_at sys blank e h sys_sorted
      go (no h) = subst (InSpan sys) (sym (get_or-eq_default sys blank {n = e} (omega arith))) (span_zero sys)

  pub start_inv : Inv n sys (start n sys)
  unfolding start m weights priorities
  start_inv =
      record {
        in_rows = record {
          size = refl;
          rising = lent.rising;
          same = λ v e h. refl;
          inside = λ v e h. (e, h);
          own = λ v e h z. sym (lists_listing sys v e) ∙ length_zero (listing sys v) e (sym (weight_at v (idle_below v h)) ∙ z) ∙ unfold solves in refl;
        };
        in_solved = record { gone = λ e v h. absurd (false≢true (unfold solves in h)); distinct = tt; single = λ e v w h k. absurd (false≢true (unfold solves in h)) };
        in_priority = record {
          size = length-map (up_from 0 (length sys)) (λ e. length (row_of sys e).vars) ∙ length_up 0 (length sys);
          counts = λ e h. priority_at e h ∙ sym (count_all (free (replicate n true) weights) (row_of sys e).vars (λ v k. start_free v e k)) ∙ plus_none (count (free (replicate n true) weights) (row_of sys e).vars) e;
          done = λ e h. absurd (false≢true (unfold is_solved in h));
        };
        in_stack = record {
          distinct = distinct_keep (λ e. leb (get_or priorities e 0) 1) (up_from 0 (length sys)) (increasing_distinct (up_from 0 (length sys)) (increasing_up 0 (length sys)));
          below = λ e h. let k = up_below e 0 (length sys) (and_true (leb (get_or priorities e 0) 1) (lists e (up_from 0 (length sys))) (sym (lists_keep (λ f. leb (get_or priorities f 0) 1) e (up_from 0 (length sys))) ∙ h)).1 in omega arith;
          low = λ e h. leb→le (get_or priorities e 0) 1 (true→T (and_true (leb (get_or priorities e 0) 1) (lists e (up_from 0 (length sys))) (sym (lists_keep (λ f. leb (get_or priorities f 0) 1) e (up_from 0 (length sys))) ∙ h)).0);
          unsolved = λ e h. unfold is_solved in refl;
          solved_low = λ e h. absurd (false≢true (unfold is_solved in h));
          total = sym (ap (λ l. length l + waiting priorities) (keep_same (λ e. leb (get_or priorities e 0) 1) (λ e. leb (length (row_of sys e).vars) 1) (up_from 0 (length sys))
              (λ e h. ap (λ x. leb x 1) (priority_at e (let k = up_below e 0 (length sys) h in omega arith)))) ∙ low_and_waiting (λ e. length (row_of sys e).vars) 0 (length sys));
        };
        in_variables = record {
          size = length-replicate n true;
          weights = length-map (up_from 0 n) (λ v. length (listing sys v)) ∙ length_up 0 n;
          distinct = distinct_heaviest weights n (length sys);
          below = λ v h. (heaviest_is weights n (length sys) v h).1;
          idly = λ v h. get_or-replicate n v true false (heaviest_is weights n (length sys) v h).1;
          there = λ v h.
              let b = idle_below v (free_idle (replicate n true) weights v h) in
              in_heaviest weights n (length sys) v (rw (weight_at v b) (light v)) b;
        };
        in_same = record { forth = λ x h. h; back = λ x h. h; spans = start_span };
        in_dense = record { places = start_place; copies = λ r k. absurd (Memᴰ.not-nil k) };
        in_units = record { room = omega arith; not_yet = refl };
        in_weight = λ v e h z. absurd (weighty v e h (sym (weight_at v (lent.inside v e h)) ∙ z));
        in_active = record {
          in_order = heaviest_order (length sys);
          earlier = λ u v a h. absurd (true≢false (sym (get_or-replicate n u true false a.0) ∙ a.1));
          kept = λ S st d v e sv l. start_free v e l;
          reason = λ v a. absurd (true≢false (sym (get_or-replicate n v true false a.0) ∙ a.1));
          skipped = λ v e d h l S st sp.
              absurd (true≢false (sym (let b = lent.inside v e l in in_heaviest weights n (length sys) v (rw (weight_at v b) (light v)) b) ∙ h));
        };
      }
    where
      start_place : (e : ℕ) → e < length sys
          → Place sys [] priorities (keep (λ e. leb (get_or priorities e 0) 1) (up_from 0 (length sys))) [] e
      start_place e h = go (dec_le (get_or priorities e 0) 1)
        where
          go : Dec (get_or priorities e 0 ≤ 1) → Place sys [] priorities (keep (λ e. leb (get_or priorities e 0) 1) (up_from 0 (length sys))) [] e
          go (yes k) =
              listed (lists_keep (λ f. leb (get_or priorities f 0) 1) e (up_from 0 (length sys))
              ∙ rw (T→true (leb (get_or priorities e 0) 1) (le→leb (get_or priorities e 0) 1 k)) (lists_up e 0 (length sys) (omega arith) (omega arith)))
          go (no k) = waits (omega arith)

-- ---- how many variables there are

-- those of weight w + 1 and those of less
by_weights : (weight l : List ℕ) (w : ℕ)
    → length (keep (λ v. eqb (get_or weight v 0) (suc w)) l) + length (keep (λ v. leb (get_or weight v 0) w) l) ≤ length (keep (λ v. leb (get_or weight v 0) (suc w)) l)
unfolding keep
by_weights weight [] w = omega arith
by_weights weight (v ∷ vs) w = go (get_or weight v 0) (same? (get_or weight v 0) (suc w)) (dec_le (get_or weight v 0) w) (by_weights weight vs w)
  where
    A : List ℕ
    A = keep (λ u. eqb (get_or weight u 0) (suc w)) vs

    B : List ℕ
    B = keep (λ u. leb (get_or weight u 0) w) vs

    C : List ℕ
    C = keep (λ u. leb (get_or weight u 0) (suc w)) vs

    no_leb : (a b : ℕ) → b < a → leb a b ≡ false
    no_leb a b h = not_true→false (leb a b) (λ t. let z = leb→le a b (true→T t) in omega arith)

    yes_leb : (a b : ℕ) → a ≤ b → leb a b ≡ true
    yes_leb a b h = T→true (leb a b) (le→leb a b h)

    go : (x : ℕ) → Same x (suc w) → Dec (x ≤ w) → length A + length B ≤ length C
        → length (cond (eqb x (suc w)) (v ∷ A) A) + length (cond (leb x w) (v ∷ B) B) ≤ length (cond (leb x (suc w)) (v ∷ C) C)
    go x (eq r t) (yes h) ih = absurd (omega arith)
    go x (eq r t) (no h) ih = rw (t, no_leb x w (omega arith), yes_leb x (suc w) (omega arith)) (let z : suc (length A) + length B ≤ suc (length C) = omega arith in z)
    go x (ne r t) (yes h) ih = rw (t, yes_leb x w h, yes_leb x (suc w) (omega arith)) (let z : length A + suc (length B) ≤ suc (length C) = omega arith in z)
    go x (ne r t) (no h) ih = rw (t, no_leb x w (omega arith), no_leb x (suc w) (omega arith)) ih

length_heaviest : (weight : List ℕ) (n w : ℕ) → length (heaviest weight n w) ≤ length (keep (λ v. leb (get_or weight v 0) w) (down_from n))
unfolding heaviest
length_heaviest weight n zero = le_of_eq (ap length (keep_same (λ v. eqb (get_or weight v 0) 0) (λ v. leb (get_or weight v 0) 0) (down_from n) (λ v h. go (get_or weight v 0))))
  where
    go : (x : ℕ) → eqb x 0 ≡ leb x 0
    go zero = refl
    go (suc x) = eqb_ne (suc x) 0 (omega arith) ∙ sym (not_true→false (leb (suc x) 0) (λ t. let z = leb→le (suc x) 0 (true→T t) in omega arith))
length_heaviest weight n (suc w) =
    rw (length-append (keep (λ v. eqb (get_or weight v 0) (suc w)) (down_from n)) (heaviest weight n w))
    (let a = by_weights weight (down_from n) w in let b = length_heaviest weight n w in omega arith)

length_down : (n : ℕ) → length (down_from n) ≡ n
unfolding down_from
length_down zero = refl
length_down (suc n) = ap suc (length_down n)

pub start_variables : (n : ℕ) (sys : List Equation) → length (start n sys).variables ≤ n
unfolding start
start_variables n sys =
    let w : List ℕ = map (λ v. length (listing sys v)) (up_from 0 n) in
    let a = length_heaviest w n (length sys) in
    let b = length-keep (λ v. leb (get_or w v 0) (length sys)) (down_from n) in
    let c = length_down n in
    let z : length (heaviest w n (length sys)) ≤ n = omega arith in
    z

pub start_remaining : (n : ℕ) (sys : List Equation) → (start n sys).remaining ≡ length sys
unfolding start
start_remaining n sys = refl

pub start_dense : (n : ℕ) (sys : List Equation) → length (start n sys).dense ≡ 0
unfolding start
start_dense n sys = refl
