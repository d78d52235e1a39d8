-- Nothing that the Rust takes for granted fails, in any state that the machine reaches.
use mathlib.Core.Path.{◌≡◌, refl, sym, ap, ◌∙◌, subst}
use mathlib.Core.Logic.{◌≢◌}
use mathlib.Core.List.{List, [], ◌∷◌, ◌++◌, map}
use mathlib.Core.Bool.{Bool, true, false, not, ◌||◌, true≢false}
use Prim.Native.Nat.{ℕ, ◌≤◌, ◌<◌}
use native.Mathlib.Omega.{arith}
use native.Mathlib.Decide.{ℕ_discrete}
use lib.ListN.{length, get_or, replicate}
use lib.Dec.{eqb}
use Rattle.gf2.specs.Equation.{Equation, lists}
use Rattle.gf2.specs.NumberLists.{Distinct}
use Rattle.gf2.specs.ByNumber.{row_of, lists_at}
use Rattle.sparse_rules.specs.Eliminate.{back_sub}
use Rattle.lazy.specs.Lazy.{State, Solved, listing, others, is_idle, fill, more, after, start}
use Rattle.lazy.specs.Invariant.{Lent, Inv, StackInv, free, is_solved}
use Rattle.lazy.specs.Safe.{Safe, pivot_of}
use Rattle.gf2.proofs.Tests.{eqb_true}
use Rattle.gf2.proofs.Members.{and_true, or_r, head_listed}
use Rattle.gf2.proofs.Counting.{count_one}
use Rattle.lazy.proofs.Pivots.{lists_at_below, lists_listing, lists_others, is_free, pivot_solves}
use Rattle.lazy.proofs.Keeps.{pivot_there, pivot_free, idle_alone}
use Rattle.lazy.proofs.Filling.{fill_other}
use Rattle.lazy.proofs.Pops.{some_variable}
use Rattle.lazy.proofs.Ending.{pivot_zero}
use Rattle.lazy.proofs.Run.{Live, popping, clearing, Ready, inv_ready, reached}

module _ (n : ℕ) (sys : List Equation) (lent : Lent n sys) where
  -- ---- while equations remain

  -- an equation that lists a free variable has a priority
  free_lowered : (s : State) → Inv n sys s → (v f : ℕ) → free s.idle s.weight v ≡ true → lists_at sys v f ≡ true → 1 ≤ get_or s.priority f 0
  free_lowered s i v f h l =
      let c = i.in_priority.counts f (lists_at_below sys v f l) in
      let k = count_one (free s.idle s.weight) v (row_of sys f).vars h l in
      omega arith

  module _ (s : State) (i : Inv n sys s) (e : ℕ) (es : List ℕ) (p : s.equations ≡ e ∷ es) where
    top : StackInv (length sys) s.priority (e ∷ es) s.solved s.remaining
    top = rw p at i.in_stack

    below : e < length sys
    below = top.below e (head_listed e es)

    unsolved : is_solved s.solved e ≡ false
    unsolved = top.unsolved e (head_listed e es)

    top_low : get_or s.priority e 0 ≤ 1
    top_low = top.low e (head_listed e es)

    module _ (q : get_or s.priority e 0 ≡ 1) where
      idle_there : (is_idle s (pivot_of s e) ≡ true) × (lists_at s.rows (pivot_of s e) e ≡ true)
      idle_there = pivot_there n sys lent s.rows s.priority s.idle s.weight s.solved i.in_rows i.in_priority e below unsolved q

      is_pivot_lem : (w : ℕ) → is_idle s w ≡ true → lists_at s.rows w e ≡ true → w ≡ pivot_of s e
      is_pivot_lem w h l = go (ℕ_discrete w (pivot_of s e))
        where
          go : Dec (w ≡ pivot_of s e) → w ≡ pivot_of s e
          go (yes r) = r
          go (no r) =
              absurd (true≢false (sym l ∙ idle_alone n sys lent s.rows s.priority s.idle s.weight s.solved i.in_rows i.in_priority e below unsolved q w h r))

      others_lowered : (f : ℕ) → lists f (others sys (pivot_of s e) e) ≡ true → 1 ≤ get_or s.priority f 0
      others_lowered f h =
          free_lowered s i (pivot_of s e) f
          (pivot_free n sys lent s.rows s.priority s.idle s.weight s.solved i.in_rows i.in_priority e below unsolved q)
          (and_true (not (eqb f e)) (lists_at sys (pivot_of s e) f) (sym (lists_others sys (pivot_of s e) e f) ∙ h)).1

  active_lowered : (s : State) → Inv n sys s → (v : ℕ) (vs : List ℕ) → s.variables ≡ v ∷ vs → get_or s.weight v 0 ≢ 0
      → (f : ℕ) → lists f (listing sys v) ≡ true → 1 ≤ get_or s.priority f 0
  active_lowered s i v vs p w f h =
      free_lowered s i v f (is_free s.idle s.weight v (i.in_variables.idly v (ap (lists v) p ∙ head_listed v vs)) w) (sym (lists_listing sys v f) ∙ h)

  -- ---- the filling

  among : (d : Solved) (rest ds : List Solved) → lists d.pivot (map (λ c. c.pivot) (ds ++ (d ∷ rest))) ≡ true
  unfolding lists
  among d rest [] = head_listed d.pivot (map (λ c. c.pivot) rest)
  among d rest (c ∷ ds) = or_r (eqb d.pivot c.pivot) (among d rest ds)

  -- the pivots before one in a distinct list are others
  others_before : (ds : List Solved) (d : Solved) (rest : List Solved) → Distinct (map (λ c. c.pivot) (ds ++ (d ∷ rest)))
      → lists d.pivot (map (λ c. c.pivot) ds) ≡ false
  unfolding lists
  others_before [] d rest h = refl
  others_before (c ∷ ds) d rest h = go (eqb d.pivot c.pivot) refl (others_before ds d rest h.1)
    where
      go : (b : Bool) → eqb d.pivot c.pivot ≡ b → lists d.pivot (map (λ c. c.pivot) ds) ≡ false → (b || lists d.pivot (map (λ c. c.pivot) ds)) ≡ false
      go false e ih = ih
      go true e ih =
          absurd (true≢false (sym (among d rest ds) ∙ ap (λ v. lists v (map (λ c. c.pivot) (ds ++ (d ∷ rest)))) (eqb_true d.pivot c.pivot e) ∙ h.0))

  ready_unfilled : (s : State) → Ready n sys s → (ds : List Solved) (d : Solved) (rest : List Solved) → s.solved ≡ ds ++ (d ∷ rest)
      → get_or (fill s.rows ds (back_sub s.dense (replicate n 0))) d.pivot 0 ≡ 0
  unfolding lists
  ready_unfilled s r ds d rest e =
      fill_other s.rows ds (back_sub s.dense (replicate n 0)) d.pivot
      (others_before ds d rest (subst (λ (l : List Solved). Distinct (map (λ c. c.pivot) l)) is r.inv.in_solved.distinct))
      ∙ pivot_zero n sys lent r.base r.inv r.finished s.dense r.like d.pivot idle
    where
      is : r.base.solved ≡ ds ++ (d ∷ rest)
      is = sym r.solved_same ∙ e

      idle : get_or r.base.idle d.pivot false ≡ true
      idle =
          let k = pivot_solves r.base.solved d.pivot (ap (λ (l : List Solved). lists d.pivot (map (λ c. c.pivot) l)) is ∙ among d rest ds) in
          (r.inv.in_solved.gone k.0 d.pivot k.1).0

  -- ---- every state that is reached

  inv_safe : (s : State) → Inv n sys s → Safe n sys s
  inv_safe s i = record {
    variable_left = λ h p. some_variable n sys lent s i p h;
    low = λ e es h p. top_low s i e es p;
    one_idle = λ e es h p q. idle_there s i e es p q;
    only_one = λ e es h p q. is_pivot_lem s i e es p q;
    by_active = λ v vs h p w. active_lowered s i v vs p w;
    by_solved = λ e es h p q. others_lowered s i e es p q;
    unfilled = λ z. ready_unfilled s (inv_ready n sys lent s i z);
  }

  ready_safe : (s : State) → Ready n sys s → Safe n sys s
  ready_safe s r = record {
    variable_left = λ h p. absurd (none h);
    low = λ e es h p. absurd (none h);
    one_idle = λ e es h p q. absurd (none h);
    only_one = λ e es h p q. absurd (none h);
    by_active = λ v vs h p w. absurd (none h);
    by_solved = λ e es h p q. absurd (none h);
    unfilled = λ z. ready_unfilled s r;
  }
    where
      none : 0 < s.remaining → ⊥
      none h = let z = r.none in omega arith

  live_safe : (s : State) → Live n sys s → Safe n sys s
  live_safe s (popping i) = inv_safe s i
  live_safe s (clearing r) = ready_safe s r

  pub reached_safe : (k : ℕ) (s : State) → after k n sys (more (start n sys)) ≡ more s → Safe n sys s
  reached_safe k s e = live_safe s (reached n sys lent k s e)
