-- The equation list: to lower priorities, to pop, and that something remains to be taken.
use mathlib.Core.Path.{◌≡◌, refl, sym, ap, ap₂, ◌∙◌}
use mathlib.Core.Logic.{◌⊎◌, inl, inr}
use mathlib.Core.List.{List, [], ◌∷◌, ◌++◌}
use mathlib.Core.Bool.{Bool, true, false, cond, ◌||◌}
use Prim.Native.Nat.{ℕ, zero, suc, pred, ◌+◌, ◌≤◌, ◌<◌}
use native.Mathlib.Omega.{arith}
use lib.ListN.{length, get_or, set}
use lib.Seq.{get_or-set_other}
use lib.Dec.{eqb}
use Rattle.gf2.specs.Equation.{lists}
use Rattle.gf2.specs.NumberLists.{one}
use Rattle.lazy.specs.Invariant.{waiting, two_up, is_solved, StackInv}
use Rattle.lazy.specs.Lazy.{Solved, lowered, pushed}
use Rattle.gf2.proofs.Members.{Same, eq, ne, same?, listed_differ, or_assoc, or_true, on_cons, head_listed, tail_listed}
use Rattle.gf2.proofs.Tests.{not_true→false, eqb_true, eqb_ne}
use Rattle.lazy.proofs.Priorities.{lower_same, lower_waiting}

-- a lowered priority is not above what it was
lower_le : (l : List ℕ) (e f : ℕ) → get_or (set l e (pred (get_or l e 0))) f 0 ≤ get_or l f 0
lower_le l e f = go (same? f e)
  where
    go : Same f e → get_or (set l e (pred (get_or l e 0))) f 0 ≤ get_or l f 0
    go (eq r t) = rw (r, lower_same l e) (omega arith)
    go (ne r t) = rw (get_or-set_other l e f (pred (get_or l e 0)) 0 r) (omega arith)

module _ (m : ℕ) (solved : List Solved) (remaining : ℕ) where
  lower_one_lem : (priority equations : List ℕ) (e : ℕ) → e < m → StackInv m priority equations solved remaining
      → StackInv m (set priority e (pred (get_or priority e 0))) (cond (eqb (get_or priority e 0) 2) (e ∷ equations) equations) solved remaining
  lower_one_lem priority equations e h i = go (same? (get_or priority e 0) 2) (lower_waiting priority e)
    where
      p' : List ℕ
      p' = set priority e (pred (get_or priority e 0))

      -- an equation of priority 2 is neither on the list nor solved
      fresh : get_or priority e 0 ≡ 2 → lists e equations ≡ false
      fresh r = not_true→false (lists e equations) (λ k. let b = i.low e k in omega arith)

      open' : get_or priority e 0 ≡ 2 → is_solved solved e ≡ false
      open' r = not_true→false (is_solved solved e) (λ k. let b = i.solved_low e k in omega arith)

      go : Same (get_or priority e 0) 2 → waiting priority ≡ one (eqb (get_or priority e 0) 2) + waiting p'
          → StackInv m p' (cond (eqb (get_or priority e 0) 2) (e ∷ equations) equations) solved remaining
      go (ne r t) w =
          rw t (record {
            distinct = i.distinct;
            below = i.below;
            low = λ f k. let b = i.low f k in let c = lower_le priority e f in omega arith;
            unsolved = i.unsolved;
            solved_low = λ f k. let b = i.solved_low f k in let c = lower_le priority e f in omega arith;
            total = i.total ∙ ap (λ x. length equations + x) (w ∙ unfold one in rw t (omega arith));
          })
      go (eq r t) w =
          rw t (record {
            distinct = (fresh r, i.distinct);
            below = on_cons (λ f. f < m) e equations h i.below;
            low = on_cons (λ f. get_or p' f 0 ≤ 1) e equations (rw (lower_same priority e, r) (omega arith))
                (λ f k. let b = i.low f k in let c = lower_le priority e f in omega arith);
            unsolved = on_cons (λ f. is_solved solved f ≡ false) e equations (open' r) i.unsolved;
            solved_low = λ f k. let b = i.solved_low f k in let c = lower_le priority e f in omega arith;
            total = i.total ∙ (let w' : waiting priority ≡ 1 + waiting p' = unfold one in rw t at w in omega arith);
          })

  -- each of the equations es loses 1 and is pushed on reaching 1
  pub lower_all : (es priority equations : List ℕ) → ((e : ℕ) → lists e es ≡ true → e < m) → StackInv m priority equations solved remaining
      → StackInv m (lowered es priority) (pushed es priority equations) solved remaining
  unfolding lowered pushed
  lower_all [] priority equations h i = i
  lower_all (e ∷ es) priority equations h i =
      lower_all es (set priority e (pred (get_or priority e 0))) (cond (eqb (get_or priority e 0) 2) (e ∷ equations) equations)
      (λ f k. h f (tail_listed f e es k)) (lower_one_lem priority equations e (h e (head_listed e es)) i)

-- a pop that solves nothing
pub pop_stack : (m : ℕ) (priority : List ℕ) (e : ℕ) (es : List ℕ) (solved : List Solved) (remaining : ℕ)
    → StackInv m priority (e ∷ es) solved remaining → StackInv m priority es solved (pred remaining)
pop_stack m priority e es solved remaining i =
    record {
      distinct = i.distinct.1;
      below = λ f k. i.below f (tail_listed f e es k);
      low = λ f k. i.low f (tail_listed f e es k);
      unsolved = λ f k. i.unsolved f (tail_listed f e es k);
      solved_low = i.solved_low;
      total = let t = i.total in omega arith;
    }

-- a pop that solves equation e
pub is_solved_snoc : (ds : List Solved) (d : Solved) (e : ℕ) → is_solved (ds ++ (d ∷ [])) e ≡ (is_solved ds e || eqb e d.equation)
unfolding is_solved
is_solved_snoc [] d e = or_f (eqb e d.equation)
  where
    or_f : (b : Bool) → (b || false) ≡ b
    or_f true = refl
    or_f false = refl
is_solved_snoc (c ∷ ds) d e = ap (λ b. eqb e c.equation || b) (is_solved_snoc ds d e) ∙ or_assoc (eqb e c.equation) (is_solved ds e) (eqb e d.equation)

pub solve_stack : (m : ℕ) (priority : List ℕ) (e : ℕ) (es : List ℕ) (solved : List Solved) (d : Solved) (remaining : ℕ) → d.equation ≡ e
    → StackInv m priority (e ∷ es) solved remaining → StackInv m priority es (solved ++ (d ∷ [])) (pred remaining)
solve_stack m priority e es solved d remaining p i =
    record {
      distinct = i.distinct.1;
      below = λ f k. i.below f (tail_listed f e es k);
      low = λ f k. i.low f (tail_listed f e es k);
      unsolved = λ f k.
          is_solved_snoc solved d f
          ∙ ap₂ ◌||◌ (i.unsolved f (tail_listed f e es k)) (ap (eqb f) p ∙ eqb_ne f e (listed_differ f e es k i.distinct.0));
      solved_low = λ f k. go f (or_true (is_solved solved f) (eqb f d.equation) (sym (is_solved_snoc solved d f) ∙ k));
      total = let t = i.total in omega arith;
    }
  where
    go : (f : ℕ) → (is_solved solved f ≡ true) ⊎ (eqb f d.equation ≡ true) → get_or priority f 0 ≤ 1
    go f (inl k) = i.solved_low f k
    go f (inr k) = rw (eqb_true f d.equation k, p) (i.low e (head_listed e es))

-- a priority that waits
pub waiting_some : (l : List ℕ) → 0 < waiting l → (e : ℕ) × (e < length l) × (2 ≤ get_or l e 0)
unfolding waiting two_up
waiting_some [] h = absurd (omega arith)
waiting_some (zero ∷ xs) h = let k = waiting_some xs (omega arith) in (suc k.0, omega arith, k.2)
waiting_some (suc zero ∷ xs) h = let k = waiting_some xs (omega arith) in (suc k.0, omega arith, k.2)
waiting_some (suc (suc x) ∷ xs) h = (0, omega arith, omega arith)
