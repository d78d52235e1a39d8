-- What the loop over an array of rows cancels is what `outer_row` cancels; a meeting that makes no sum cancels nothing; a sum that meets its row again counts once.
use mathlib.Core.Path.{◌≡◌, refl, sym, ap, ap₂, ◌∙◌}
use mathlib.Core.Logic.{◌≢◌}
use mathlib.Core.List.{List, [], ◌∷◌, ◌++◌}
use Prim.Native.Nat.{ℕ, suc, ◌+◌, ◌-◌, ◌≤◌, ◌<◌, Ordering}
use native.Mathlib.Omega.{arith}
use lib.ListN.{length, get_or, set, take, drop, length-append}
use lib.Seq.{get_or-set_same, get_or-set_other, set-set}
use Rattle.gf2.specs.Equation.{Equation, eqn}
use Rattle.gf2.proofs.SymDiff.{Cmp, is_lt, is_eq, is_gt, cmp}
use Rattle.gf2.specs.Common.{common}
use Rattle.rows.specs.Picture.{row_at}
use Rattle.sparse_rules.specs.Eliminate.{Meeting, clash, identity, both, meeting}
use Rattle.sparse_rules.specs.Cancelled.{meeting_cancels, meet_row_cancels, outer_row_cancels}
use Rattle.sparse_rows.specs.Counts.{loop_cancels}
use Rattle.sparse_rows.proofs.Loops.{at_i, at_j, next_j, next_rows, front, rest, row, front_long, rest_long, split, whole}

-- ---- one meeting

blank_none : (us : List ℕ) (a : ℕ) (vs : List ℕ) (c : ℕ) → length vs ≡ 0 → meeting_cancels (eqn us a) (eqn vs c) ≡ 0
unfolding meeting_cancels
blank_none us a [] c e = refl
blank_none us a (v ∷ vs) c e = absurd (omega arith)

apart_none : (us : List ℕ) (a : ℕ) (vs : List ℕ) (c : ℕ) → length vs ≢ 0 → length us ≢ 0 → get_or us 0 0 ≢ get_or vs 0 0 → meeting_cancels (eqn us a) (eqn vs c) ≡ 0
unfolding meeting_cancels
apart_none us a [] c f g h = absurd (f refl)
apart_none [] a (v ∷ vs) c f g h = absurd (g refl)
apart_none (u ∷ us) a (v ∷ vs) c f g h = go (cmp u v)
  where
    go : {o : Ordering} → Cmp u v o → ◌≡◌ {A = ℕ} (elim o [ Ordering.lt ↦ 0 | Ordering.eq ↦ common (u ∷ us) (v ∷ vs) | Ordering.gt ↦ 0 ]) 0
    go (is_lt l) = refl
    go (is_eq l) = absurd (h l)
    go (is_gt l) = refl

equal_common : (us : List ℕ) (a : ℕ) (vs : List ℕ) (c : ℕ) → length vs ≢ 0 → length us ≢ 0 → get_or us 0 0 ≡ get_or vs 0 0 → meeting_cancels (eqn us a) (eqn vs c) ≡ common us vs
unfolding meeting_cancels
equal_common us a [] c f g h = absurd (f refl)
equal_common [] a (v ∷ vs) c f g h = absurd (g refl)
equal_common (u ∷ us) a (v ∷ vs) c f g h = go (cmp u v)
  where
    go : {o : Ordering} → Cmp u v o → elim o [ Ordering.lt ↦ 0 | Ordering.eq ↦ common (u ∷ us) (v ∷ vs) | Ordering.gt ↦ 0 ] ≡ common (u ∷ us) (v ∷ vs)
    go (is_lt l) = absurd (omega (arith, h))
    go (is_eq l) = refl
    go (is_gt l) = absurd (omega (arith, h))

module _ (r s : Equation) where
  pub cancels_blank : length s.vars ≡ 0 → meeting_cancels r s ≡ 0
  cancels_blank e = blank_none r.vars r.c s.vars s.c e

  pub cancels_apart : length s.vars ≢ 0 → length r.vars ≢ 0 → get_or r.vars 0 0 ≢ get_or s.vars 0 0 → meeting_cancels r s ≡ 0
  cancels_apart f g h = apart_none r.vars r.c s.vars s.c f g h

  pub cancels_sum : length s.vars ≢ 0 → length r.vars ≢ 0 → get_or r.vars 0 0 ≡ get_or s.vars 0 0 → meeting_cancels r s ≡ common r.vars s.vars
  cancels_sum f g h = equal_common r.vars r.c s.vars s.c f g h

-- ---- one turn of the loop

module _ (k i j : ℕ) (rows : List Equation) where
  pub count_clash : meeting (row_at rows i) (row_at rows j) ≡ clash → loop_cancels (suc k) i j rows ≡ meeting_cancels (row_at rows i) (row_at rows j)
  unfolding loop_cancels
  count_clash e = rw (e, loop_cancels) (omega arith)

  pub count_identity : (i' : Equation) → meeting (row_at rows i) (row_at rows j) ≡ identity i' → loop_cancels (suc k) i j rows ≡ meeting_cancels (row_at rows i) (row_at rows j)
  unfolding loop_cancels
  count_identity i' e = rw (e, loop_cancels) (omega arith)

  pub count_both : (i' j' : Equation) → meeting (row_at rows i) (row_at rows j) ≡ both i' j'
      → loop_cancels (suc k) i j rows ≡ meeting_cancels (row_at rows i) (row_at rows j) + loop_cancels k i (suc j) (set (set rows i i') j j')
  unfolding loop_cancels
  count_both i' j' e = rw (e, loop_cancels) refl

-- ---- the loop is `outer_row`

meet_count : (front mid : List Equation) (i : Equation) (rest more : List Equation)
    → loop_cancels (length rest) (length front) (length (front ++ i ∷ mid)) (front ++ i ∷ mid ++ (rest ++ more)) ≡ meet_row_cancels i rest
unfolding loop_cancels meet_row_cancels
meet_count front mid i [] more = refl
meet_count front mid i (j ∷ rest) more = go (meeting i j) refl (λ i' j'. meet_count front (mid ++ j' ∷ []) i' rest more)
  where
    rows : List Equation
    rows = front ++ i ∷ mid ++ j ∷ (rest ++ more)

    same : meeting (row_at rows (length front)) (row_at rows (length (front ++ i ∷ mid))) ≡ meeting i j
    same = ap₂ meeting (at_i front mid i (j ∷ (rest ++ more))) (at_j (front ++ i ∷ mid) j (rest ++ more))

    cost : meeting_cancels (row_at rows (length front)) (row_at rows (length (front ++ i ∷ mid))) ≡ meeting_cancels i j
    cost = ap₂ meeting_cancels (at_i front mid i (j ∷ (rest ++ more))) (at_j (front ++ i ∷ mid) j (rest ++ more))

    go : (m : Meeting) → meeting i j ≡ m
        → ((i' j' : Equation) → loop_cancels (length rest) (length front) (length (front ++ i' ∷ (mid ++ j' ∷ []))) (front ++ i' ∷ (mid ++ j' ∷ []) ++ (rest ++ more)) ≡ meet_row_cancels i' rest)
        → loop_cancels (suc (length rest)) (length front) (length (front ++ i ∷ mid)) rows ≡ meet_row_cancels i (j ∷ rest)
    go clash e again = count_clash (length rest) (length front) (length (front ++ i ∷ mid)) rows (same ∙ e) ∙ cost ∙ sym (rw (e, meet_row_cancels) (omega arith))
    go (identity i') e again = count_identity (length rest) (length front) (length (front ++ i ∷ mid)) rows i' (same ∙ e) ∙ cost ∙ sym (rw (e, meet_row_cancels) (omega arith))
    go (both i' j') e again =
        count_both (length rest) (length front) (length (front ++ i ∷ mid)) rows i' j' (same ∙ e)
        ∙ ap₂ ◌+◌ cost (ap₂ (λ (m : ℕ) (l : List Equation). loop_cancels (length rest) (length front) m l) (next_j front mid i i' j') (next_rows front mid i i' j j' (rest ++ more)) ∙ again i' j')
        ∙ sym (rw (e, meet_row_cancels) refl)

outer_count_at : (front : List Equation) (i : Equation) (rest : List Equation) → outer_row_cancels (length front) (front ++ i ∷ rest) ≡ outer_row_cancels 0 (i ∷ rest)
unfolding outer_row_cancels
outer_count_at [] i rest = refl
outer_count_at (e ∷ front) i rest = outer_count_at front i rest

full_count : (vs : List ℕ) (c : ℕ) (rest : List Equation) → length vs ≢ 0 → outer_row_cancels 0 (eqn vs c ∷ rest) ≡ meet_row_cancels (eqn vs c) rest
unfolding outer_row_cancels
full_count [] c rest f = absurd (f refl)
full_count (v ∷ vs) c rest f = refl

blank_count : (vs : List ℕ) (c : ℕ) (rest : List Equation) → length vs ≡ 0 → outer_row_cancels 0 (eqn vs c ∷ rest) ≡ 0
unfolding outer_row_cancels
blank_count [] c rest f = refl
blank_count (v ∷ vs) c rest f = absurd (omega arith)

module _ (d i : ℕ) (full : List Equation) (h : i < d) (g : d ≤ length full) where
  pub outer_count : length (row_at full i).vars ≢ 0 → loop_cancels (d - (i + 1)) i (i + 1) full ≡ outer_row_cancels i (take d full)
  unfolding row
  outer_count f =
      let j : length (front d i full h g ++ row d i full h g ∷ []) ≡ i + 1 = rw length-append (omega (arith, front_long d i full h g)) in
      ap₂ (λ (k : ℕ) (l : List Equation). loop_cancels k i (i + 1) l) (sym (rest_long d i full h g)) (whole d i full h g)
      ∙ ap₂ (λ (a b : ℕ). loop_cancels (length (rest d i full h g)) a b (front d i full h g ++ row d i full h g ∷ [] ++ (rest d i full h g ++ drop d full))) (sym (front_long d i full h g)) (sym j)
      ∙ meet_count (front d i full h g) [] (row d i full h g) (rest d i full h g) (drop d full)
      ∙ sym (ap₂ outer_row_cancels (sym (front_long d i full h g)) (split d i full h g) ∙ outer_count_at (front d i full h g) (row d i full h g) (rest d i full h g)
      ∙ full_count (row d i full h g).vars (row d i full h g).c (rest d i full h g) f)

  pub outer_count_none : length (row_at full i).vars ≡ 0 → outer_row_cancels i (take d full) ≡ 0
  unfolding row
  outer_count_none e =
      ap₂ outer_row_cancels (sym (front_long d i full h g)) (split d i full h g) ∙ outer_count_at (front d i full h g) (row d i full h g) (rest d i full h g)
      ∙ blank_count (row d i full h g).vars (row d i full h g).c (rest d i full h g) e

-- a sum that stands where row i stood meets row j again, and cancels nothing there
pub count_again : (k i j : ℕ) (rows : List Equation) (i' : Equation) → i < j → i < length rows → meeting (row_at rows i) (row_at rows j) ≡ meeting i' (row_at rows j)
    → meeting_cancels i' (row_at rows j) ≡ 0
    → meeting_cancels (row_at rows i) (row_at rows j) + loop_cancels (suc k) i j (set rows i i') ≡ loop_cancels (suc k) i j rows
count_again k i j rows i' h l e z = go (meeting (row_at rows i) (row_at rows j)) refl
  where
    now_i : row_at (set rows i i') i ≡ i'
    now_i = get_or-set_same rows i i' (eqn [] 0) l

    now_j : row_at (set rows i i') j ≡ row_at rows j
    now_j = let ne : j ≢ i = omega arith in get_or-set_other rows i j i' (eqn [] 0) ne

    same : meeting (row_at (set rows i i') i) (row_at (set rows i i') j) ≡ meeting (row_at rows i) (row_at rows j)
    same = ap₂ meeting now_i now_j ∙ sym e

    free : meeting_cancels (row_at (set rows i i') i) (row_at (set rows i i') j) ≡ 0
    free = ap₂ meeting_cancels now_i now_j ∙ z

    go : (o : Meeting) → meeting (row_at rows i) (row_at rows j) ≡ o
        → meeting_cancels (row_at rows i) (row_at rows j) + loop_cancels (suc k) i j (set rows i i') ≡ loop_cancels (suc k) i j rows
    go clash q = let a = count_clash k i j (set rows i i') (same ∙ q) in let b = count_clash k i j rows q in omega (arith, free)
    go (identity x) q = let a = count_identity k i j (set rows i i') x (same ∙ q) in let b = count_identity k i j rows x q in omega (arith, free)
    go (both x y) q =
        let a = count_both k i j (set rows i i') x y (same ∙ q) in
        let b = count_both k i j rows x y q in
        let c : loop_cancels k i (suc j) (set (set (set rows i i') i x) j y) ≡ loop_cancels k i (suc j) (set (set rows i x) j y) = ap (λ (r : List Equation). loop_cancels k i (suc j) (set r j y)) (set-set rows i i' x) in
        omega (arith, free)
