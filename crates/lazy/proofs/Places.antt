-- Where each equation is, through a pop.
use mathlib.Core.Path.{◌≡◌, refl, sym, ap, subst, ◌∙◌}
use mathlib.Core.Logic.{◌≢◌, ◌⊎◌, inl, inr}
use mathlib.Core.List.Memᴰ
use mathlib.Core.List.{List, [], ◌∷◌, ◌++◌, Memᴰ}
use mathlib.Core.Bool.{Bool, true, false, cond, false≢true}
use Prim.Native.Nat.{ℕ, pred, ◌≤◌}
use native.Mathlib.Omega.{arith}
use lib.ListN.{get_or, set}
use lib.Seq.{get_or-set_other}
use lib.Dec.{eqb}
use Rattle.gf2.specs.ByNumber.{row_of}
use Rattle.gf2.specs.Equation.{Equation, lists}
use Rattle.gf2.specs.NumberLists.{Distinct}
use Rattle.lazy.specs.Invariant.{is_solved, Place, waits, listed, settled, passed, copied, Copied, DenseInv}
use Rattle.lazy.specs.Lazy.{Solved, lowered, pushed}
use Rattle.gf2.proofs.Members.{Same, eq, ne, same?, or_r, head_listed, tail_listed, on_cons}
use Rattle.gf2.proofs.Tests.{eqb_same, eqb_ne}
use Rattle.lazy.proofs.EquationList.{is_solved_snoc}
use Rattle.lazy.proofs.Priorities.{lowered_at}

-- what is on the list stays on it
pub pushed_stays : (es priority equations : List ℕ) (f : ℕ) → lists f equations ≡ true → lists f (pushed es priority equations) ≡ true
unfolding pushed
pushed_stays [] priority equations f h = h
pushed_stays (e ∷ es) priority equations f h =
    pushed_stays es (set priority e (pred (get_or priority e 0))) (cond (eqb (get_or priority e 0) 2) (e ∷ equations) equations) f (go (eqb (get_or priority e 0) 2))
  where
    go : (b : Bool) → lists f (cond b (e ∷ equations) equations) ≡ true
    go true = tail_listed f e equations h
    go false = h

-- what reaches 1 is pushed
pub pushed_new : (es priority equations : List ℕ) (f : ℕ) → Distinct es → lists f es ≡ true → get_or priority f 0 ≡ 2
    → lists f (pushed es priority equations) ≡ true
unfolding pushed lists
pushed_new [] priority equations f d h p = absurd (false≢true h)
pushed_new (e ∷ es) priority equations f d h p =
    go (same? f e) (pushed_new es (set priority e (pred (get_or priority e 0))) (cond (eqb (get_or priority e 0) 2) (e ∷ equations) equations) f d.1)
  where
    go : Same f e → (lists f es ≡ true → get_or (set priority e (pred (get_or priority e 0))) f 0 ≡ 2
        → lists f (pushed es (set priority e (pred (get_or priority e 0))) (cond (eqb (get_or priority e 0) 2) (e ∷ equations) equations)) ≡ true)
        → lists f (pushed es (set priority e (pred (get_or priority e 0))) (cond (eqb (get_or priority e 0) 2) (e ∷ equations) equations)) ≡ true
    go (eq r t) ih =
        pushed_stays es (set priority e (pred (get_or priority e 0))) (cond (eqb (get_or priority e 0) 2) (e ∷ equations) equations) f
        (rw (sym (ap (λ x. get_or priority x 0) r) ∙ p) (subst (λ x. lists f (x ∷ equations) ≡ true) r (head_listed f equations)))
    go (ne r t) ih = ih (rw t at h) (get_or-set_other priority e f (pred (get_or priority e 0)) 0 r ∙ p)

module _ (rows dense : List Equation) (solved : List Solved) (es priority equations : List ℕ) (d : Distinct es) where
  lowered_zero : (f : ℕ) → get_or priority f 0 ≡ 0 → get_or (lowered es priority) f 0 ≡ 0
  lowered_zero f p = lowered_at es priority f d ∙ rw p (go (lists f es))
    where
      go : (b : Bool) → cond b (pred 0) 0 ≡ 0
      go true = refl
      go false = refl

  pub lower_place : (f : ℕ) → Place rows dense priority equations solved f → Place rows dense (lowered es priority) (pushed es priority equations) solved f
  lower_place f (waits h) = go (lists f es) refl (same? (get_or priority f 0) 2)
    where
      go : (b : Bool) → lists f es ≡ b → Same (get_or priority f 0) 2 → Place rows dense (lowered es priority) (pushed es priority equations) solved f
      go true k (eq r t) = listed (pushed_new es priority equations f d k r)
      go true k (ne r t) = waits (rw (lowered_at es priority f d, k) (let z : 2 ≤ pred (get_or priority f 0) = omega arith in z))
      go false k q = waits (rw (lowered_at es priority f d, k) h)
  lower_place f (listed h) = listed (pushed_stays es priority equations f h)
  lower_place f (settled h) = settled h
  lower_place f (passed h k l) = passed (lowered_zero f h) k l
  lower_place f (copied h k) = copied (lowered_zero f h) k

  pub lower_copied : (r : Equation) → Copied rows priority solved r → Copied rows (lowered es priority) solved r
  lower_copied r c = record { at = c.at; is_row = c.is_row; zero_priority = lowered_zero c.at c.zero_priority; unsolved = c.unsolved }

-- equation e, the top of the list, is popped and has its place elsewhere
module _ (rows dense : List Equation) (solved : List Solved) (priority : List ℕ) (e : ℕ) (es : List ℕ) where
  pub pop_place : Place rows dense priority es solved e → (f : ℕ) → Place rows dense priority (e ∷ es) solved f → Place rows dense priority es solved f
  pop_place p f (waits h) = waits h
  pop_place p f (listed h) = on_cons (Place rows dense priority es solved) e es p (λ u k. listed k) f h
  pop_place p f (settled h) = settled h
  pop_place p f (passed h k l) = passed h k l
  pop_place p f (copied h k) = copied h k

  pub pass_dense : (sys : List Equation) → get_or priority e 0 ≡ 0 → (row_of rows e).vars ≡ [] → (row_of rows e).c ≡ 0
      → DenseInv sys rows dense priority (e ∷ es) solved → DenseInv sys rows dense priority es solved
  pass_dense sys p q r i = record { places = λ f h. pop_place (passed p q r) f (i.places f h); copies = i.copies }

  more_dense : (f : ℕ) → Place rows dense priority (e ∷ es) solved f → Place rows (dense ++ (row_of rows e ∷ [])) priority (e ∷ es) solved f
  more_dense f (waits h) = waits h
  more_dense f (listed h) = listed h
  more_dense f (settled h) = settled h
  more_dense f (passed h k l) = passed h k l
  more_dense f (copied h k) = copied h (Memᴰ.append_left (row_of rows e ∷ []) k)

-- .. copied to the dense part
pub copy_dense : (sys rows dense : List Equation) (solved : List Solved) (priority : List ℕ) (e : ℕ) (es : List ℕ)
    → get_or priority e 0 ≡ 0 → is_solved solved e ≡ false
    → DenseInv sys rows dense priority (e ∷ es) solved → DenseInv sys rows (dense ++ (row_of rows e ∷ [])) priority es solved
copy_dense sys rows dense solved priority e es p u i =
    record {
      places = λ f h.
          pop_place rows (dense ++ (row_of rows e ∷ [])) solved priority e es (copied p (Memᴰ.append_right dense (Memᴰ.head refl))) f
          (more_dense rows dense solved priority e es f (i.places f h));
      copies = λ r k. go r (Memᴰ.append_cases dense k);
    }
  where
    go : (r : Equation) → Memᴰ r dense ⊎ Memᴰ r (row_of rows e ∷ []) → Copied rows priority solved r
    go r (inl k) = i.copies r k
    go r (inr k) = record { at = e; is_row = Memᴰ.eq_of_singleton k; zero_priority = p; unsolved = u }

-- .. solved: rows of priority 0 stay as they are
module _ (sys rows rows' dense : List Equation) (solved : List Solved) (priority : List ℕ) (e : ℕ) (es : List ℕ) (d : Solved)
    (is-e : d.equation ≡ e) (not_zero : get_or priority e 0 ≢ 0) (same_row : (f : ℕ) → get_or priority f 0 ≡ 0 → row_of rows' f ≡ row_of rows f) where
  solved_e : is_solved (solved ++ (d ∷ [])) e ≡ true
  solved_e = is_solved_snoc solved d e ∙ or_r (is_solved solved e) (ap (eqb e) is-e ∙ eqb_same e)

  stays_solved : (f : ℕ) → is_solved solved f ≡ true → is_solved (solved ++ (d ∷ [])) f ≡ true
  stays_solved f h = is_solved_snoc solved d f ∙ rw h

  stays_unsolved : (f : ℕ) → get_or priority f 0 ≡ 0 → is_solved solved f ≡ false → is_solved (solved ++ (d ∷ [])) f ≡ false
  stays_unsolved f z h = is_solved_snoc solved d f ∙ rw (h, is-e) (eqb_ne f e (λ p. not_zero (ap (λ x. get_or priority x 0) (sym p) ∙ z)))

  solve_place : (f : ℕ) → Place rows dense priority (e ∷ es) solved f → Place rows' dense priority es (solved ++ (d ∷ [])) f
  solve_place f (waits h) = waits h
  solve_place f (listed h) = on_cons (Place rows' dense priority es (solved ++ (d ∷ []))) e es (settled solved_e) (λ u k. listed k) f h
  solve_place f (settled h) = settled (stays_solved f h)
  solve_place f (passed h k l) = passed h (ap (λ (r : Equation). r.vars) (same_row f h) ∙ k) (ap (λ (r : Equation). r.c) (same_row f h) ∙ l)
  solve_place f (copied h k) = copied h (rw (same_row f h) k)

  pub solve_dense : DenseInv sys rows dense priority (e ∷ es) solved → DenseInv sys rows' dense priority es (solved ++ (d ∷ []))
  solve_dense i =
      record {
        places = λ f h. solve_place f (i.places f h);
        copies = λ r k.
            let c = i.copies r k in
            record {
              at = c.at;
              is_row = c.is_row ∙ sym (same_row c.at c.zero_priority);
              zero_priority = c.zero_priority;
              unsolved = stays_unsolved c.at c.zero_priority c.unsolved;
            };
      }

pub lower_dense : (sys rows dense : List Equation) (solved : List Solved) (es priority equations : List ℕ) → Distinct es
    → DenseInv sys rows dense priority equations solved → DenseInv sys rows dense (lowered es priority) (pushed es priority equations) solved
lower_dense sys rows dense solved es priority equations d i =
    record {
      places = λ f h. lower_place rows dense solved es priority equations d f (i.places f h);
      copies = λ r k. lower_copied rows dense solved es priority equations d r (i.copies r k);
    }
