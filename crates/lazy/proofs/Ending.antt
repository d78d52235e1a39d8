-- What the popping leaves: the values that the last unit hands back are as described.
use mathlib.Core.Path.{◌≡◌, refl, sym, ap, ◌∙◌, subst}
use mathlib.Core.Logic.{◌≢◌, ◌⊎◌, inl, inr}
use mathlib.Core.List.{List, [], ◌∷◌, map, Memᴰ}
use mathlib.Core.Bool.{Bool, true, false, not, ◌&&◌, ◌||◌, true≢false, false≢true}
use Prim.Native.Nat.{ℕ, zero, suc, ◌+◌, ◌≤◌, ◌<◌, ◌^◌}
use native.Mathlib.Omega.{arith}
use native.Mathlib.Decide.{dec_lt, ℕ_discrete}
use lib.ListN.{length, get_or, replicate, length-replicate, get_or-eq_default}
use lib.Dec.{eqb, ltb, ltb→lt, lt→ltb}
use lib.Pow.{pow_pos}
use Rattle.gf2.specs.ByNumber.{row_of, lists_at, blank, MeetsRows}
use Rattle.gf2.specs.Equation.{Equation, Each, Increasing, Sorted, eval_vars, lists, Meets, MeetsAll}
use Rattle.gf2.specs.NumberLists.{count}
use Rattle.gf2.specs.Span.{InSpan, Cancels}
use Rattle.sparse_rules.specs.Eliminate.{contradicted, back_sub}
use Rattle.lazy.specs.Description.{Described, Chosen, Fixed}
use Rattle.lazy.specs.Invariant.{Lent, free, is_solved, solves, waiting, two_up, Inv, Place, waits, listed, settled, passed, copied, Copied, Active}
use Rattle.lazy.specs.Lazy.{State, Solved, fill}
use Rattle.gf2.proofs.Counting.{count_one}
use Rattle.gf2.proofs.Each.{each_from, each_mem, each_from_mem}
use Rattle.gf2.proofs.Members.{or_r, or_true, and_true, head_listed, on_cons, increasing_distinct, listed_each, each_listed}
use Rattle.gf2.proofs.OneValue.{zeros_at, span_small, eval_vars_same, eval_vars_fix}
use Rattle.gf2.proofs.Spans.{span_sum}
use Rattle.gf2.proofs.Sums.{refuted_cancels, Refuted}
use Rattle.gf2.proofs.Tests.{not_true→false, eqb_same, T→true, true→T}
use Rattle.gf2.proofs.VarLists.{listed_above}
use Rattle.sparse_rules.proofs.BackSub.{not_contradicted, length-back_sub, back_sub_other, back_sub_meets, Leader, back_sub_lead, back_sub_small}
use Rattle.sparse_rules.proofs.OuterRow.{Like, Triangular}
use Rattle.lazy.proofs.Filling.{fill_small, length_fill, fill_other, fill_meets}
use Rattle.lazy.proofs.Keeps.{no_free}
use Rattle.lazy.proofs.Pivots.{lists_at_below, is_free, solves_solved, pivot_solves}

-- a solved equation has a pivot
solved_pivot : (ds : List Solved) (e : ℕ) → is_solved ds e ≡ true → (v : ℕ) × (solves ds e v ≡ true)
unfolding is_solved solves
solved_pivot [] e h = absurd (false≢true h)
solved_pivot (d ∷ ds) e h = go (eqb e d.equation) refl (solved_pivot ds e)
  where
    go : (b : Bool) → eqb e d.equation ≡ b → (is_solved ds e ≡ true → (v : ℕ) × (solves ds e v ≡ true))
        → (v : ℕ) × (((eqb e d.equation && eqb v d.pivot) || solves ds e v) ≡ true)
    go true t ih = (d.pivot, rw (t, eqb_same d.pivot))
    go false t ih = let k = ih (rw t at h) in (k.0, or_r (eqb e d.equation && eqb k.0 d.pivot) k.1)

-- a variable that an equation is solved for is a pivot
solves_pivot : (ds : List Solved) (e v : ℕ) → solves ds e v ≡ true → lists v (map (λ d. d.pivot) ds) ≡ true
unfolding solves lists
solves_pivot [] e v h = absurd (false≢true h)
solves_pivot (d ∷ ds) e v h = go (or_true (eqb e d.equation && eqb v d.pivot) (solves ds e v) h) (solves_pivot ds e v)
  where
    go : ((eqb e d.equation && eqb v d.pivot) ≡ true) ⊎ (solves ds e v ≡ true) → (solves ds e v ≡ true → lists v (map (λ c. c.pivot) ds) ≡ true)
        → (eqb v d.pivot || lists v (map (λ c. c.pivot) ds)) ≡ true
    go (inl k) ih = rw (and_true (eqb e d.equation) (eqb v d.pivot) k).1
    go (inr k) ih = or_r (eqb v d.pivot) (ih k)

-- ---- nothing waits and nothing is listed at the end

some_waiting : (l : List ℕ) (e : ℕ) → 2 ≤ get_or l e 0 → 0 < waiting l
unfolding waiting
some_waiting [] e h = absurd (omega arith)
some_waiting (x ∷ xs) zero h = go x h
  where
    go : (x : ℕ) → 2 ≤ x → 0 < two_up x + waiting xs
    go zero h = absurd (omega arith)
    go (suc zero) h = absurd (omega arith)
    go (suc (suc x)) h = unfold two_up in omega arith
some_waiting (x ∷ xs) (suc e) h = let k = some_waiting xs e h in omega arith

not_empty : (l : List ℕ) (e : ℕ) → lists e l ≡ true → 0 < length l
unfolding lists
not_empty [] e h = absurd (false≢true h)
not_empty (x ∷ xs) e h = omega arith

nothing_asked : (r : Equation) → r.vars ≡ [] → r.c ≡ 0 → (x : List ℕ) → Meets x r
unfolding eval_vars
nothing_asked r p q x = ap (λ l. eval_vars l x) p ∙ sym q

-- equations remain no more: s is where the popping ended, and rows is what has become of its dense part
module _ (n : ℕ) (sys : List Equation) (lent : Lent n sys) (s : State) (i : Inv n sys s) (finished : s.remaining ≡ 0)
    (rows : List Equation) (like : Like s.dense rows) where
  dense_meets : (x : List ℕ) → MeetsRows x s.rows → MeetsAll x s.dense
  dense_meets x h = each_from_mem (Meets x) s.dense (λ r k. let c = i.in_dense.copies r k in rw c.is_row (h c.at))

  dense_span : Each (InSpan sys) s.dense
  dense_span = each_from_mem (InSpan sys) s.dense (λ r k. let c = i.in_dense.copies r k in rw c.is_row (i.in_same.spans c.at))

  -- a sum of the rows that is 0 = c is a sum of equations of the system
  pub clash_ends : Refuted rows → (mask : List Bool) × Cancels mask sys
  clash_ends = refuted_cancels sys rows (like.closed (InSpan sys) (span_sum sys) dense_span)

  pub dense_sorted : Sorted s.dense
  dense_sorted = each_from_mem (λ r. Increasing r.vars) s.dense (λ r k. let c = i.in_dense.copies r k in rw c.is_row (i.in_rows.rising c.at))

  -- the dense part has active variables only
  abbrev active : ℕ → Type 0
  active v = (get_or s.idle v false ≡ false) × (v < n)

  copied_active : (r : Equation) → Copied s.rows s.priority s.solved r → (v : ℕ) → lists v r.vars ≡ true → active v
  copied_active r c v h =
      let l : lists_at s.rows v c.at ≡ true = sym (ap (λ (q : Equation). lists v q.vars) c.is_row) ∙ h in
      let f = i.in_rows.inside v c.at l in
      (not_true→false (get_or s.idle v false) (λ d. go l d (ℕ_discrete (get_or s.weight v 0) 0)), lent.inside v f.0 f.1)
    where
      go : lists_at s.rows v c.at ≡ true → get_or s.idle v false ≡ true → Dec (get_or s.weight v 0 ≡ 0) → ⊥
      go l d (yes z) = true≢false (sym (solves_solved s.solved c.at v (sym (i.in_rows.own v c.at d z) ∙ l)) ∙ c.unsolved)
      go l d (no z) =
          let f = is_free s.idle s.weight v d z in
          true≢false (sym l ∙ i.in_rows.same v c.at f ∙ no_free n sys s.priority s.idle s.weight s.solved i.in_priority c.at c.zero_priority v f)

  dense_active : Each (λ r. Each active r.vars) s.dense
  dense_active = each_from_mem (λ r. Each active r.vars) s.dense (λ r k. listed_each active r.vars (copied_active r (i.in_dense.copies r k)))

  dense_below : Each (λ r. Each (λ v. v < length {A = ℕ} (replicate n 0)) r.vars) s.dense
  dense_below =
      each_from_mem (λ r. Each (λ v. v < length {A = ℕ} (replicate n 0)) r.vars) s.dense (λ r k.
      listed_each (λ v. v < length {A = ℕ} (replicate n 0)) r.vars (λ v l. rw (length-replicate {A = ℕ} n 0) (copied_active r (i.in_dense.copies r k) v l).1))

  rows_active : Each (λ r. Each active r.vars) rows
  rows_active = like.support active dense_active

  abbrev pub zeros : List ℕ
  zeros = replicate n 0

  -- the values after back substitution
  abbrev pub x0 : List ℕ
  x0 = back_sub rows zeros

  abbrev pub values : List ℕ
  values = fill s.rows s.solved x0

  length_x0 : length x0 ≡ n
  length_x0 = length-back_sub rows (replicate n 0) ∙ length-replicate n 0

  -- a pivot is idle, so the dense part does not touch it
  pub pivot_zero : (v : ℕ) → get_or s.idle v false ≡ true → get_or x0 v 0 ≡ 0
  pivot_zero v h =
      back_sub_other rows zeros v (each_from_mem (λ r. lists v r.vars ≡ false) rows (λ r k.
      not_true→false (lists v r.vars) (λ l. true≢false (sym h ∙ (each_listed active r.vars (each_mem (λ q. Each active q.vars) k rows_active) v l).0))))
      ∙ zeros_at n v

  module _ (tri : Triangular rows) (sound : contradicted rows ≡ false) where
    x0_meets : MeetsAll x0 s.dense
    x0_meets =
        like.back x0 (back_sub_meets rows zeros tri (like.rising dense_sorted) (not_contradicted rows sound)
        (like.support (λ v. v < length zeros) dense_below) (zeros_at n))

    -- each row as it stands is met
    values_meet : MeetsRows values s.rows
    values_meet e = by_size (dec_lt e (length sys))
      where
        -- a pivot is listed by no row but its own
        pivot_is : (v : ℕ) → lists v (map (λ d. d.pivot) s.solved) ≡ true → (get_or s.idle v false ≡ true) × (get_or s.weight v 0 ≡ 0) × (v < n)
        pivot_is v h = let k = pivot_solves s.solved v h in let g = i.in_solved.gone k.0 v k.1 in (g.0, g.1, g.3)

        by_solved : (f v : ℕ) → solves s.solved f v ≡ true → Meets values (row_of s.rows f)
        by_solved =
            fill_meets s.rows s.solved x0 i.in_solved.distinct
            (λ v h. (pivot_zero v (pivot_is v h).0, rw length_x0 (pivot_is v h).2))
            i.in_rows.rising
            (λ f v h. let g = i.in_solved.gone f v h in i.in_rows.own v f g.0 g.1 ∙ h)
            (λ f v w h l d.
            let p = pivot_is w l in
            i.in_rows.own w f p.0 p.1 ∙ not_true→false (solves s.solved f w) (λ k. d (i.in_solved.single f v w h k)))

        by_dense : Memᴰ (row_of s.rows e) s.dense → Meets values (row_of s.rows e)
        by_dense k =
            eval_vars_same (row_of s.rows e).vars values x0 (λ v l.
            fill_other s.rows s.solved x0 v (not_true→false (lists v (map (λ d. d.pivot) s.solved)) (λ h.
            true≢false (sym (pivot_is v h).0 ∙ (copied_active (row_of s.rows e) (i.in_dense.copies (row_of s.rows e) k) v l).0))))
            ∙ each_mem (Meets x0) k x0_meets

        by_place : Place s.rows s.dense s.priority s.equations s.solved e → Meets values (row_of s.rows e)
        by_place (waits h) = let a = some_waiting s.priority e h in let t = i.in_stack.total in absurd (omega arith)
        by_place (listed h) = let a = not_empty s.equations e h in let t = i.in_stack.total in absurd (omega arith)
        by_place (settled h) = let v = solved_pivot s.solved e h in by_solved e v.0 v.1
        by_place (passed h k l) = nothing_asked (row_of s.rows e) k l values
        by_place (copied h k) = by_dense k

        by_size : Dec (e < length sys) → Meets values (row_of s.rows e)
        by_size (yes h) = by_place (i.in_dense.places e h)
        by_size (no h) =
            let b : row_of s.rows e ≡ blank = get_or-eq_default s.rows blank {n = e} (rw i.in_rows.size (omega arith)) in
            nothing_asked (row_of s.rows e) (ap (λ (r : Equation). r.vars) b) (ap (λ (r : Equation). r.c) b) values

    -- ---- what the answer is

    -- v is active
    abbrev pub act : ℕ → Bool
    act v = not (get_or s.idle v false) && ltb v n

    act_is : (v : ℕ) → act v ≡ true → Active n s.idle v
    act_is v h = let k = and_true (not (get_or s.idle v false)) (ltb v n) h in (ltb→lt v n (true→T k.1), not_false (get_or s.idle v false) k.0)
      where
        not_false : (b : Bool) → not b ≡ true → b ≡ false
        not_false true e = absurd (false≢true e)
        not_false false e = refl

    is_act : (v : ℕ) → Active n s.idle v → act v ≡ true
    is_act v a = rw a.1 (T→true (ltb v n) (lt→ltb v n a.0))

    not_act : (v : ℕ) → v < n → act v ≡ false → get_or s.idle v false ≡ true
    not_act v b h = go (get_or s.idle v false) refl
      where
        go : (d : Bool) → get_or s.idle v false ≡ d → d ≡ true
        go true e = refl
        go false e = absurd (true≢false (sym (is_act v (b, e)) ∙ h))

    -- no listed variable is free
    none_free : (v e : ℕ) → lists_at sys v e ≡ true → free s.idle s.weight v ≡ true → ⊥
    none_free v e l f = by_place (i.in_dense.places e b)
      where
        b : e < length sys
        b = lists_at_below sys v e l

        c : 0 < count (free s.idle s.weight) (row_of sys e).vars
        c = count_one (free s.idle s.weight) v (row_of sys e).vars f l

        by_place : Place s.rows s.dense s.priority s.equations s.solved e → ⊥
        by_place (waits h) = let a = some_waiting s.priority e h in let t = i.in_stack.total in omega arith
        by_place (listed h) = let a = not_empty s.equations e h in let t = i.in_stack.total in omega arith
        by_place (settled h) = let a = i.in_priority.done e h in let d = c in omega arith
        by_place (passed h k m) = let a = i.in_priority.counts e b in let d = c in omega arith
        by_place (copied h k) = let a = i.in_priority.counts e b in let d = c in omega arith

    answer_why : (v : ℕ) → act v ≡ true → Chosen sys act v
    answer_why v h =
        let r = i.in_active.reason v (act_is v h) in
        record { S = r.S; holds = r.holds; stopping = r.stopping; spared = λ u a b. r.spared u (act_is u a) b }

    answer_because : (v e : ℕ) → lists_at sys v e ≡ true → Chosen sys act v → act v ≡ true
    answer_because v e l c = go (act v) refl
      where
        go : (b : Bool) → act v ≡ b → b ≡ true
        go true p = refl
        go false p =
            let d = not_act v (lent.inside v e l) p in
            absurd (by_list (lists v s.variables) refl d)
          where
            by_list : (b : Bool) → lists v s.variables ≡ b → get_or s.idle v false ≡ true → ⊥
            by_list true q d =
                none_free v e l (i.in_active.kept c.S c.stopping (λ u a. c.spared u (is_act u a) (i.in_active.earlier u v a q)) v e c.holds l)
            by_list false q d =
                true≢false (sym c.holds ∙ i.in_active.skipped v e d q l c.S c.stopping (λ u a b. c.spared u (is_act u a) b))

    -- what is no pivot keeps its value
    not_pivot : (v : ℕ) → ((e : ℕ) → solves s.solved e v ≡ true → ⊥) → get_or values v 0 ≡ get_or x0 v 0
    not_pivot v h =
        fill_other s.rows s.solved x0 v (not_true→false (lists v (map (λ d. d.pivot) s.solved)) (λ k. let p = pivot_solves s.solved v k in h p.0 p.1))

    meets_row : (y : List ℕ) → MeetsRows y sys → (r : Equation) → Memᴰ r rows → Meets y r
    meets_row y m r k = each_mem (Meets y) k (like.forth y (dense_meets y (i.in_same.forth y m)))

    answer_lowest : (v : ℕ) → act v ≡ true → (get_or values v 0 ≡ 0) ⊎ Fixed sys (λ u. (act u ≡ true) × (v < u)) v
    answer_lowest v h = go (back_sub_lead rows zeros v)
      where
        a : Active n s.idle v
        a = act_is v h

        x_is : get_or values v 0 ≡ get_or x0 v 0
        x_is = not_pivot v (λ e k. true≢false (sym (i.in_solved.gone e v k).0 ∙ a.1))

        go : (get_or x0 v 0 ≡ get_or zeros v 0) ⊎ Leader rows v → (get_or values v 0 ≡ 0) ⊎ Fixed sys (λ u. (act u ≡ true) × (v < u)) v
        go (inl e) = inl (x_is ∙ e ∙ zeros_at n v)
        go (inr l) = inr (λ y z my mz ag.
            let inc : Increasing l.row.vars = each_mem (λ r. Increasing r.vars) l.member (like.rising dense_sorted) in
            let ac : Each active l.row.vars = each_mem (λ r. Each active r.vars) l.member rows_active in
            eval_vars_fix l.row.vars y z v (increasing_distinct l.row.vars inc) (ap (lists v) l.vars_are ∙ head_listed v l.others)
            (λ u k d. ag u (is_act u (let q = each_listed active l.row.vars ac u k in (q.1, q.0)), above u k d inc))
            (meets_row y my l.row l.member ∙ sym (meets_row z mz l.row l.member)))
          where
            above : (u : ℕ) → lists u l.row.vars ≡ true → u ≢ v → Increasing l.row.vars → v < u
            above u k d inc =
                on_cons (λ w. w ≢ v → v < w) v l.others (λ e. absurd (e refl))
                (λ w m e. listed_above v w l.others (subst Increasing l.vars_are inc).0 m) u (sym (ap (lists u) l.vars_are) ∙ k) d

    answer_others : (v e : ℕ) → lists_at sys v e ≡ true → act v ≡ false → Fixed sys (λ u. act u ≡ true) v
    answer_others v e l h y z my mz ag =
        let d = not_act v (lent.inside v e l) h in
        go d (ℕ_discrete (get_or s.weight v 0) 0)
      where
        other : (f w : ℕ) → solves s.solved f v ≡ true → lists_at s.rows w f ≡ true → w ≢ v → act w ≡ true
        other f w k m q = is_act w (lent.inside w (i.in_rows.inside w f m).0 (i.in_rows.inside w f m).1, not_true→false (get_or s.idle w false) (λ dw. bad dw (ℕ_discrete (get_or s.weight w 0) 0)))
          where
            bad : get_or s.idle w false ≡ true → Dec (get_or s.weight w 0 ≡ 0) → ⊥
            bad dw (yes t) = q (i.in_solved.single f v w k (sym (i.in_rows.own w f dw t) ∙ m))
            bad dw (no t) = let g = is_free s.idle s.weight w dw t in none_free w f (sym (i.in_rows.same w f g) ∙ m) g

        go : get_or s.idle v false ≡ true → Dec (get_or s.weight v 0 ≡ 0) → get_or y v 0 ≡ get_or z v 0
        go d (no t) = absurd (none_free v e l (is_free s.idle s.weight v d t))
        go d (yes t) =
            let f = i.in_weight v e l t in
            eval_vars_fix (row_of s.rows f.0).vars y z v (increasing_distinct (row_of s.rows f.0).vars (i.in_rows.rising f.0))
            (i.in_rows.own v f.0 d t ∙ f.1) (λ u k q. ag u (other f.0 u f.1 k q))
            (i.in_same.forth y my f.0 ∙ sym (i.in_same.forth z mz f.0))

    answer_unlisted : (v : ℕ) → ((e : ℕ) → lists_at sys v e ≡ false) → get_or values v 0 ≡ 0
    answer_unlisted v h =
        not_pivot v (λ e k. let g = i.in_solved.gone e v k in nowhere e (i.in_rows.own v e g.0 g.1 ∙ k))
        ∙ back_sub_other rows zeros v (each_from_mem (λ r. lists v r.vars ≡ false) rows (λ r k.
        not_true→false (lists v r.vars) (λ l. each_listed elsewhere r.vars (each_mem (λ q. Each elsewhere q.vars) k rows_elsewhere) v l refl)))
        ∙ zeros_at n v
      where
        nowhere : (e : ℕ) → lists_at s.rows v e ≡ true → ⊥
        nowhere e l = let f = i.in_rows.inside v e l in true≢false (sym f.1 ∙ h f.0)

        elsewhere : ℕ → Type 0
        elsewhere u = v ≡ u → ⊥

        rows_elsewhere : Each (λ r. Each elsewhere r.vars) rows
        rows_elsewhere =
            like.support elsewhere (each_from_mem (λ r. Each elsewhere r.vars) s.dense (λ r k. listed_each elsewhere r.vars (λ u l p.
            let c = i.in_dense.copies r k in
            nowhere c.at (sym (ap (λ (q : Equation). lists v q.vars) c.is_row) ∙ ap (λ w. lists w r.vars) p ∙ l))))

    answer_small : (k : ℕ) → ((e : ℕ) → (row_of sys e).c < 2 ^ k) → (v : ℕ) → get_or values v 0 < 2 ^ k
    answer_small k h =
        fill_small k s.rows (λ e. span_small k sys (row_of s.rows e) all (i.in_same.spans e)) s.solved x0
        (back_sub_small k rows (each_from_mem (λ r. r.c < 2 ^ k) rows (λ r m.
        span_small k sys r all (each_mem (InSpan sys) m (like.closed (InSpan sys) (span_sum sys) dense_span)))) zeros (λ v. rw (zeros_at n v) (pow_pos k)))
      where
        all : Each (λ q. q.c < 2 ^ k) sys
        all = each_from (λ q. q.c < 2 ^ k) sys blank (λ e b. h e)

    pub values_right : Described n sys values
    values_right =
        record {
          size = length_fill s.rows s.solved x0 ∙ length_x0;
          meets = i.in_same.back values values_meet;
          active = act;
          why = answer_why;
          because = answer_because;
          lowest = answer_lowest;
          others = answer_others;
          unlisted = answer_unlisted;
          small = answer_small;
        }
