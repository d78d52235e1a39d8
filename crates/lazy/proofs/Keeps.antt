-- Each part of the invariant through a pop.
use mathlib.Core.Path.{◌≡◌, refl, sym, ap, ◌∙◌}
use mathlib.Core.Logic.{◌≢◌, ◌⊎◌, inl, inr}
use mathlib.Core.List.{List, [], ◌∷◌, ◌++◌, map}
use mathlib.Core.Bool.{Bool, true, false, not, cond, ◌&&◌, ◌||◌, true≢false}
use Prim.Native.Nat.{ℕ, pred, ◌+◌, ◌<◌}
use native.Mathlib.Omega.{arith}
use native.Mathlib.Decide.{ℕ_discrete}
use lib.ListN.{length, get_or, set, length-set}
use lib.Seq.{get_or-set_other}
use lib.Dec.{eqb}
use Rattle.gf2.specs.ByNumber.{row_of, lists_at}
use Rattle.gf2.specs.Equation.{Equation, Increasing, lists, sum, xor_bool}
use Rattle.gf2.specs.NumberLists.{first_of, one, count}
use Rattle.lazy.specs.Invariant.{Lent, free, is_solved, solves, RowsInv, SolvedInv, PriorityInv, VariablesInv}
use Rattle.lazy.specs.Lazy.{Solved, listing, others, added_into, lowered}
use Rattle.gf2.proofs.Counting.{count-drop, count_some, count_one}
use Rattle.gf2.proofs.Members.{Same, eq, ne, same?, or_true, and_true, listed_differ, increasing_distinct, tail_listed}
use Rattle.gf2.proofs.Selecting.{first_of_true}
use Rattle.gf2.proofs.Tests.{not_true→false, eqb_same, eqb_true, xor_bool_false}
use Rattle.gf2.proofs.VarLists.{lists_sym_diff, increasing_sym_diff}
use Rattle.lazy.proofs.EquationList.{is_solved_snoc}
use Rattle.lazy.proofs.Pivots.{lists_at_below, lists_listing, distinct_listing, lists_others, distinct_others, get_or-set_default, free_idle, free_weight, is_free, activated, activated_other, weightless, weightless_other, solves_solved, solves_snoc, pivot_solves, distinct_pivots, length-added_into, added_into_at}
use Rattle.lazy.proofs.Priorities.{lowered_at, length_lowered}

-- ---- priorities

-- v was free and no longer is, and nothing else changed
module _ (n : ℕ) (sys : List Equation) (lent : Lent n sys) (idle idle' : List Bool) (weight weight' : List ℕ) (v : ℕ)
    (was : free idle weight v ≡ true) (now : free idle' weight' v ≡ false)
    (others_same : (u : ℕ) → u ≢ v → free idle' weight' u ≡ free idle weight u) where
  pub count_falls : (e : ℕ) → count (free idle weight) (row_of sys e).vars ≡ one (lists_at sys v e) + count (free idle' weight') (row_of sys e).vars
  count_falls e =
      count-drop (free idle weight) (free idle' weight') v was now others_same (row_of sys e).vars (increasing_distinct (row_of sys e).vars (lent.rising e))

  -- what is free now was free before
  pub still_free : (u : ℕ) → free idle' weight' u ≡ true → (u ≢ v) × (free idle weight u ≡ true)
  still_free u h = let k : u ≢ v = λ p. true≢false (sym h ∙ ap (free idle' weight') p ∙ now) in (k, sym (others_same u k) ∙ h)

  module _ (priority : List ℕ) (solved : List Solved) (i : PriorityInv sys priority idle weight solved) where
    -- an equation, but for one that is solved now: it loses 1 exactly if it lists v
    lower_count : (e : ℕ) → e < length sys → (b : Bool) → lists_at sys v e ≡ b → (c : Bool) → is_solved solved e ≡ c
        → cond b (pred (get_or priority e 0)) (get_or priority e 0) ≡ count (free idle' weight') (row_of sys e).vars + one c
    unfolding one
    lower_count e h true p true q = let a = i.done e q in let b : _ ≡ 1 + _ = rw p at (count_falls e) in absurd (omega arith)
    lower_count e h true p false q =
        let a = rw q at (i.counts e h) in
        let b = rw p at (count_falls e) in
        let z : pred (get_or priority e 0) ≡ count (free idle' weight') (row_of sys e).vars + 0 = omega arith in
        z
    lower_count e h false p c q =
        let a = rw q at (i.counts e h) in
        let b = rw p at (count_falls e) in
        let z : get_or priority e 0 ≡ count (free idle' weight') (row_of sys e).vars + one c = omega arith in
        z

    pub activate_priority : PriorityInv sys (lowered (listing sys v) priority) idle' weight' solved
    activate_priority =
        record {
          size = length_lowered (listing sys v) priority ∙ i.size;
          counts = λ e h. lowered_at (listing sys v) priority e (distinct_listing sys v) ∙ rw (lists_listing sys v e) (lower_count e h (lists_at sys v e) refl (is_solved solved e) refl);
          done = λ e h. let a = i.done e h in let b = count_falls e in omega arith;
        }

    -- equation e has just v free, and is solved for it
    pub solve_priority : (e : ℕ) → is_solved solved e ≡ false → e < length sys → get_or priority e 0 ≡ 1 → lists_at sys v e ≡ true → (d : Solved) → d.equation ≡ e
        → PriorityInv sys (lowered (others sys v e) priority) idle' weight' (solved ++ (d ∷ []))
    solve_priority e u h p l d q =
        record {
          size = length_lowered (others sys v e) priority ∙ i.size;
          counts = λ f k. lowered_at (others sys v e) priority f (distinct_others sys v e) ∙ rw (lists_others sys v e f, is_solved_snoc solved d f, q) (go f k (same? f e));
          done = λ f k. ended f (same? f e) (sym (ap (λ x. is_solved solved f || eqb f x) q) ∙ sym (is_solved_snoc solved d f) ∙ k);
        }
      where
        or_f : (b : Bool) → (b || false) ≡ b
        or_f true = refl
        or_f false = refl

        none : count (free idle' weight') (row_of sys e).vars ≡ 0
        none = unfold one in let a = rw u at (i.counts e h) in let b = rw l at (count_falls e) in omega arith

        go : (f : ℕ) → f < length sys → Same f e
            → cond (not (eqb f e) && lists_at sys v f) (pred (get_or priority f 0)) (get_or priority f 0)
            ≡ count (free idle' weight') (row_of sys f).vars + one (is_solved solved f || eqb f e)
        go f k (eq r t) = rw (t, r, none, u, p) (unfold one in refl)
        go f k (ne r t) = rw (t, or_f (is_solved solved f)) (lower_count f k (lists_at sys v f) refl (is_solved solved f) refl)

        ended : (f : ℕ) → Same f e → (is_solved solved f || eqb f e) ≡ true → count (free idle' weight') (row_of sys f).vars ≡ 0
        ended f (eq r t) k = rw r none
        ended f (ne r t) k = let a = i.done f (rw (t, or_f (is_solved solved f)) at k) in let b = count_falls f in omega arith

-- ---- variables

-- v is popped; it is not free, or is so no longer
pub pop_variables : (n : ℕ) (idle idle' : List Bool) (weight weight' : List ℕ) (v : ℕ) (vs : List ℕ)
    → length idle' ≡ length idle → length weight' ≡ length weight
    → ((u : ℕ) → u ≢ v → get_or idle' u false ≡ get_or idle u false)
    → free idle' weight' v ≡ false → ((u : ℕ) → u ≢ v → free idle' weight' u ≡ free idle weight u)
    → VariablesInv n idle weight (v ∷ vs) → VariablesInv n idle' weight' vs
unfolding lists
pop_variables n idle idle' weight weight' v vs li lw idle-same now same i =
    record {
      size = li ∙ i.size;
      weights = lw ∙ i.weights;
      distinct = i.distinct.1;
      below = λ u h. i.below u (tail_listed u v vs h);
      idly = λ u h. idle-same u (listed_differ u v vs h i.distinct.0) ∙ i.idly u (tail_listed u v vs h);
      there = λ u h. go u h (same? u v);
    }
  where
    go : (u : ℕ) → free idle' weight' u ≡ true → Same u v → lists u vs ≡ true
    go u h (eq r t) = absurd (true≢false (sym h ∙ ap (free idle' weight') r ∙ now))
    go u h (ne r t) = rw t at (i.there u (sym (same u r) ∙ h))

-- a variable is solved
pub solve_variables : (n : ℕ) (idle : List Bool) (weight variables : List ℕ) (v : ℕ)
    → VariablesInv n idle weight variables → VariablesInv n idle (set weight v 0) variables
solve_variables n idle weight variables v i =
    record {
      size = i.size;
      weights = length-set weight v 0 ∙ i.weights;
      distinct = i.distinct;
      below = i.below;
      idly = i.idly;
      there = λ u h. i.there u (go u h (same? u v));
    }
  where
    go : (u : ℕ) → free idle (set weight v 0) u ≡ true → Same u v → free idle weight u ≡ true
    go u h (eq r t) = absurd (true≢false (sym h ∙ ap (free idle (set weight v 0)) r ∙ weightless idle weight v))
    go u h (ne r t) = sym (weightless_other idle weight v u r) ∙ h

-- ---- the pivot

-- equation e is not solved and has priority 1
module _ (n : ℕ) (sys : List Equation) (lent : Lent n sys) (rows : List Equation) (priority : List ℕ) (idle : List Bool) (weight : List ℕ) (solved : List Solved)
    (R : RowsInv sys rows idle weight solved) (P : PriorityInv sys priority idle weight solved)
    (e : ℕ) (below : e < length sys) (unsolved : is_solved solved e ≡ false) (is_one : get_or priority e 0 ≡ 1) where
  pub one_free : count (free idle weight) (row_of sys e).vars ≡ 1
  one_free = unfold one in let a = rw unsolved at (P.counts e below) in omega arith

  abbrev pub pivot : ℕ
  pivot = first_of (λ v. get_or idle v false) (row_of rows e).vars

  pub pivot_there : (get_or idle pivot false ≡ true) × (lists_at rows pivot e ≡ true)
  pivot_there =
      let w = count_some (free idle weight) (row_of sys e).vars (let a = one_free in omega arith) in
      first_of_true (λ v. get_or idle v false) w.0 (row_of rows e).vars (R.same w.0 e w.1 ∙ w.2) (free_idle idle weight w.0 w.1)

  -- a variable that is solved stands in no row that is not
  not_solved : (v : ℕ) → solves solved e v ≡ false
  not_solved v = not_true→false (solves solved e v) (λ h. true≢false (sym (solves_solved solved e v h) ∙ unsolved))

  pub pivot_free : free idle weight pivot ≡ true
  pivot_free =
      is_free idle weight pivot pivot_there.0
      (λ z. true≢false (sym pivot_there.1 ∙ R.own pivot e pivot_there.0 z ∙ not_solved pivot))

  pub pivot_listed : lists_at sys pivot e ≡ true
  pivot_listed = sym (R.same pivot e pivot_free) ∙ pivot_there.1

  pivot_alone : (w : ℕ) → free idle weight w ≡ true → w ≢ pivot → lists_at rows w e ≡ false
  unfolding one
  pivot_alone w f d =
      not_true→false (lists_at rows w e) (λ l.
      let c = rw pivot_listed at (count_falls n sys lent idle idle weight (set weight pivot 0) pivot pivot_free (weightless idle weight pivot) (weightless_other idle weight pivot) e) in
      let k = count_one (free idle (set weight pivot 0)) w (row_of sys e).vars (weightless_other idle weight pivot w d ∙ f) (sym (R.same w e f) ∙ l) in
      let a = one_free in
      omega arith)

  -- of the idle variables, row e lists the pivot alone
  pub idle_alone : (w : ℕ) → get_or idle w false ≡ true → w ≢ pivot → lists_at rows w e ≡ false
  idle_alone w h d = go (ℕ_discrete (get_or weight w 0) 0)
    where
      go : Dec (get_or weight w 0 ≡ 0) → lists_at rows w e ≡ false
      go (yes z) = R.own w e h z ∙ not_solved w
      go (no z) = pivot_alone w (is_free idle weight w h z) d

  -- ---- the rows after it

  abbrev pub rows_after : List Equation
  rows_after = added_into (others sys pivot e) e rows

  others_at : (f : ℕ) → row_of rows_after f ≡ cond (not (eqb f e) && lists_at sys pivot f) (sum (row_of rows f) (row_of rows e)) (row_of rows f)
  others_at f =
      added_into_at (others sys pivot e) e rows f (distinct_others sys pivot e) (lists_others sys pivot e e ∙ rw (eqb_same e))
      (λ g h. rw R.size (lists_at_below sys pivot g (and_true (not (eqb g e)) (lists_at sys pivot g) (sym (lists_others sys pivot e g) ∙ h)).1))
      ∙ rw (lists_others sys pivot e f)

  sum_lists : (w f : ℕ) → lists w (sum (row_of rows f) (row_of rows e)).vars ≡ xor_bool (lists_at rows w f) (lists_at rows w e)
  sum_lists w f = lists_sym_diff w (row_of rows f).vars (row_of rows e).vars (R.rising f) (R.rising e)

  -- of an idle variable that is not the pivot nothing changes
  pub after_other : (w f : ℕ) → get_or idle w false ≡ true → w ≢ pivot → lists_at rows_after w f ≡ lists_at rows w f
  after_other w f h d = rw (others_at f) (go (not (eqb f e) && lists_at sys pivot f))
    where
      go : (b : Bool) → lists w (cond b (sum (row_of rows f) (row_of rows e)) (row_of rows f)).vars ≡ lists_at rows w f
      go true = sum_lists w f ∙ rw (idle_alone w h d) (xor_bool_false (lists_at rows w f))
      go false = refl

  -- the pivot is in row e and in no other
  pub after_pivot : (f : ℕ) → lists_at rows_after pivot f ≡ eqb f e
  after_pivot f = rw (others_at f) (go (same? f e) (lists_at sys pivot f) refl)
    where
      go : Same f e → (b : Bool) → lists_at sys pivot f ≡ b → lists pivot (cond (not (eqb f e) && b) (sum (row_of rows f) (row_of rows e)) (row_of rows f)).vars ≡ eqb f e
      go (eq r t) b p = rw (t, r) pivot_there.1
      go (ne r t) true p = rw t (sum_lists pivot f ∙ rw (R.same pivot f pivot_free, p, pivot_there.1))
      go (ne r t) false p = rw t (R.same pivot f pivot_free ∙ p)

  pub solve_rows : SolvedInv (length sys) n idle weight solved → (d : Solved) → d.equation ≡ e → d.pivot ≡ pivot
      → RowsInv sys rows_after idle (set weight pivot 0) (solved ++ (d ∷ []))
  solve_rows S d de dp =
      record {
        size = length-added_into (others sys pivot e) e rows ∙ R.size;
        rising = λ f. rw (others_at f) (rise f (not (eqb f e) && lists_at sys pivot f));
        same = λ w f h.
            let k = still_free n sys lent idle idle weight (set weight pivot 0) pivot pivot_free (weightless idle weight pivot) (weightless_other idle weight pivot) w h in
            after_other w f (free_idle idle weight w k.1) k.0 ∙ R.same w f k.1;
        own = λ w f h z. rw (solves_snoc solved d f w, de, dp) (owned w f h z (same? w pivot));
        inside = λ w f h. was w f (not (eqb f e) && lists_at sys pivot f) (rw (others_at f) at h);
      }
    where
      one_of : (a b : Bool) → xor_bool a b ≡ true → (a ≡ true) ⊎ (b ≡ true)
      one_of true b e = inl refl
      one_of false b e = inr e

      pick : (w f : ℕ) → (lists_at rows w f ≡ true) ⊎ (lists_at rows w e ≡ true) → (g : ℕ) × (lists_at sys w g ≡ true)
      pick w f (inl h) = R.inside w f h
      pick w f (inr h) = R.inside w e h

      was : (w f : ℕ) (b : Bool) → lists w (cond b (sum (row_of rows f) (row_of rows e)) (row_of rows f)).vars ≡ true → (g : ℕ) × (lists_at sys w g ≡ true)
      was w f true h = pick w f (one_of (lists_at rows w f) (lists_at rows w e) (sym (sum_lists w f) ∙ h))
      was w f false h = R.inside w f h

      rise : (f : ℕ) (b : Bool) → Increasing (cond b (sum (row_of rows f) (row_of rows e)) (row_of rows f)).vars
      rise f true = increasing_sym_diff (row_of rows f).vars (row_of rows e).vars (R.rising f) (R.rising e)
      rise f false = R.rising f

      or_f : (b : Bool) → (b || false) ≡ b
      or_f true = refl
      or_f false = refl

      and_f : (b : Bool) → (b && false) ≡ false
      and_f true = refl
      and_f false = refl

      and_t : (b : Bool) → (b && true) ≡ b
      and_t true = refl
      and_t false = refl

      -- the pivot was not solved before, being free
      new : (f : ℕ) → solves solved f pivot ≡ false
      new f = not_true→false (solves solved f pivot) (λ h. free_weight idle weight pivot pivot_free (S.gone f pivot h).1)

      owned : (w f : ℕ) → get_or idle w false ≡ true → get_or (set weight pivot 0) w 0 ≡ 0 → Same w pivot
          → lists_at rows_after w f ≡ (solves solved f w || (eqb f e && eqb w pivot))
      owned w f h z (eq r t) = rw (t, r, new f, and_t (eqb f e)) (after_pivot f)
      owned w f h z (ne r t) =
          rw (t, and_f (eqb f e), or_f (solves solved f w))
          (after_other w f h r ∙ R.own w f h (sym (get_or-set_other weight pivot w 0 0 r) ∙ z))

  pub solve_solved : SolvedInv (length sys) n idle weight solved → (d : Solved) → d.equation ≡ e → d.pivot ≡ pivot
      → SolvedInv (length sys) n idle (set weight pivot 0) (solved ++ (d ∷ []))
  solve_solved S d de dp =
      record {
        gone = λ f w h. go f w (or_true (solves solved f w) (eqb f e && eqb w pivot) (sym (rw (solves_snoc solved d f w, de, dp)) ∙ h));
        distinct = distinct_pivots solved d S.distinct (not_true→false (lists d.pivot (map (λ c. c.pivot) solved)) (λ h.
            let k = pivot_solves solved d.pivot h in
            free_weight idle weight pivot pivot_free (sym (ap (λ x. get_or weight x 0) dp) ∙ (S.gone k.0 d.pivot k.1).1)));
        single = λ f w x h k. only f w x (same? f e) (sym (rw (solves_snoc solved d f w, de, dp)) ∙ h) (sym (rw (solves_snoc solved d f x, de, dp)) ∙ k);
      }
    where
      or_f : (b : Bool) → (b || false) ≡ b
      or_f true = refl
      or_f false = refl

      only : (f w x : ℕ) → Same f e → (solves solved f w || (eqb f e && eqb w pivot)) ≡ true → (solves solved f x || (eqb f e && eqb x pivot)) ≡ true → x ≡ w
      only f w x (eq r t) h k = eqb_true x pivot (rw (t, r, not_solved x) at k) ∙ sym (eqb_true w pivot (rw (t, r, not_solved w) at h))
      only f w x (ne r t) h k = S.single f w x (rw (t, or_f (solves solved f w)) at h) (rw (t, or_f (solves solved f x)) at k)

      Gone : ℕ → ℕ → Type 0
      Gone f w = (get_or idle w false ≡ true) × (get_or (set weight pivot 0) w 0 ≡ 0) × (f < length sys) × (w < n)

      zeroed : (w : ℕ) → get_or weight w 0 ≡ 0 → Same w pivot → get_or (set weight pivot 0) w 0 ≡ 0
      zeroed w z (eq r t) = rw r (get_or-set_default weight pivot 0)
      zeroed w z (ne r t) = get_or-set_other weight pivot w 0 0 r ∙ z

      go : (f w : ℕ) → (solves solved f w ≡ true) ⊎ ((eqb f e && eqb w pivot) ≡ true) → Gone f w
      go f w (inl h) = let g = S.gone f w h in (g.0, zeroed w g.1 (same? w pivot), g.2, g.3)
      go f w (inr h) =
          let k = and_true (eqb f e) (eqb w pivot) h in
          let kf = eqb_true f e k.0 in
          let kw = eqb_true w pivot k.1 in
          (rw kw pivot_there.0, rw kw (get_or-set_default weight pivot 0), rw kf below, rw kw (lent.inside pivot e pivot_listed))

-- ---- a variable becomes active

-- v was free, so no solved variable
pub activate_solved : (m n : ℕ) (idle : List Bool) (weight : List ℕ) (solved : List Solved) (v : ℕ) → get_or weight v 0 ≢ 0
    → SolvedInv m n idle weight solved → SolvedInv m n (set idle v false) weight solved
activate_solved m n idle weight solved v h S =
    record {
      gone = λ e w k.
          let g = S.gone e w k in
          (get_or-set_other idle v w false false (λ r. h (ap (λ x. get_or weight x 0) (sym r) ∙ g.1)) ∙ g.0, g.1, g.2, g.3);
      distinct = S.distinct;
      single = S.single;
    }

pub activate_rows : (sys rows : List Equation) (idle : List Bool) (weight : List ℕ) (solved : List Solved) (v : ℕ)
    → RowsInv sys rows idle weight solved → RowsInv sys rows (set idle v false) weight solved
activate_rows sys rows idle weight solved v R =
    record {
      size = R.size;
      rising = R.rising;
      same = λ w e h. R.same w e (free_before w h (same? w v));
      own = λ w e h z. R.own w e (idle_before w h (same? w v)) z;
      inside = R.inside;
    }
  where
    free_before : (w : ℕ) → free (set idle v false) weight w ≡ true → Same w v → free idle weight w ≡ true
    free_before w h (eq r t) = absurd (true≢false (sym h ∙ ap (free (set idle v false) weight) r ∙ activated idle weight v))
    free_before w h (ne r t) = sym (activated_other idle weight v w r) ∙ h

    idle_before : (w : ℕ) → get_or (set idle v false) w false ≡ true → Same w v → get_or idle w false ≡ true
    idle_before w h (eq r t) = absurd (true≢false (sym h ∙ ap (λ x. get_or (set idle v false) x false) r ∙ get_or-set_default idle v false))
    idle_before w h (ne r t) = sym (get_or-set_other idle v w false false r) ∙ h

-- ---- rows that stay

-- an equation of priority 0 lists no free variable, so nothing is added into it
pub no_free : (n : ℕ) (sys : List Equation) (priority : List ℕ) (idle : List Bool) (weight : List ℕ) (solved : List Solved) → PriorityInv sys priority idle weight solved
    → (f : ℕ) → get_or priority f 0 ≡ 0 → (v : ℕ) → free idle weight v ≡ true → lists_at sys v f ≡ false
no_free n sys priority idle weight solved P f z v h =
    not_true→false (lists_at sys v f) (λ l.
    let a = count_one (free idle weight) v (row_of sys f).vars h l in
    let b = P.counts f (lists_at_below sys v f l) in
    omega arith)
