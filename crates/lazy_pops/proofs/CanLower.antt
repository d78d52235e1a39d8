-- What can be lowered, and lists from which nothing is taken.
use mathlib.Core.Path.{◌≡◌, refl, sym, ap, ◌∙◌}
use mathlib.Core.Logic.{◌≢◌}
use mathlib.Core.List.{List, [], ◌∷◌}
use mathlib.Core.Bool.{true, not}
use Prim.Native.Nat.{ℕ, pred, ◌≤◌, ◌<◌}
use native.Mathlib.Omega.{arith}
use lib.ListN.{length, get_or, set, length-set}
use lib.Dec.{eqb}
use lib.Seq.{get_or-set_other}
use Rattle.gf2.specs.Equation.{Equation, lists}
use Rattle.gf2.specs.ByNumber.{row_of, lists_at}
use Rattle.gf2.specs.NumberLists.{keep, Distinct}
use Rattle.gf2.proofs.Each.{each_at}
use Rattle.gf2.proofs.Members.{and_true, listed_each, listed_differ, head_listed, tail_listed}
use Rattle.gf2.proofs.Counting.{count_one}
use Rattle.lazy.specs.Invariant.{Inv, free}
use Rattle.lazy.specs.Lazy.{State, listing, others}
use Rattle.lazy.proofs.Pivots.{lists_at_below, lists_listing, distinct_listing, lists_others, distinct_others}
use Rattle.lazy_pops.specs.Lowering.{but, Lowers}
use Rattle.lazy_pops.proofs.Stacks.{but_other}

-- different equations with priorities of 1 or more
pub can_lower : (es priority : List ℕ) → Distinct es → ((e : ℕ) → lists e es ≡ true → e < length priority) → ((e : ℕ) → lists e es ≡ true → 1 ≤ get_or priority e 0)
    → Lowers es priority
can_lower [] priority u b p = tt
can_lower (e ∷ es) priority u b p = (
  b e (head_listed e es),
  p e (head_listed e es),
  can_lower es (set priority e (pred (get_or priority e 0))) u.1
      (λ f q. rw (length-set priority e (pred (get_or priority e 0))) (b f (tail_listed f e es q)))
      (λ f q. rw (get_or-set_other priority e f (pred (get_or priority e 0)) 0 (listed_differ f e es q u.0)) (p f (tail_listed f e es q))),
)

-- one that does not stand in the list
pub but_none : (k : ℕ) (es : List ℕ) → ((e : ℕ) → lists e es ≡ true → e ≢ k) → but k es ≡ es
unfolding keep
but_none k [] h = refl
but_none k (e ∷ es) h = but_other k e es (h e (head_listed e es)) ∙ ap (λ (l : List ℕ). e ∷ l) (but_none k es (λ f q. h f (tail_listed f e es q)))

-- an equation is below the number of equations
pub listing_below : (sys : List Equation) (v k : ℕ) → k < length (listing sys v) → get_or (listing sys v) k 0 < length sys
listing_below sys v k h =
    each_at (λ e. e < length sys) (listing sys v) 0 k h
    (listed_each (λ e. e < length sys) (listing sys v) (λ e q. lists_at_below sys v e (sym (lists_listing sys v e) ∙ q)))

pub but_past : (sys : List Equation) (v m : ℕ) → m ≡ length sys → but m (listing sys v) ≡ listing sys v
but_past sys v m h =
    but_none m (listing sys v) (λ e q w. let b = lists_at_below sys v e (sym (lists_listing sys v e) ∙ q) in omega arith)

-- the equations that list a free variable
pub free_positive : (n : ℕ) (sys : List Equation) (s : State) → Inv n sys s → (v : ℕ) → free s.idle s.weight v ≡ true
    → (e : ℕ) → lists_at sys v e ≡ true → (e < length s.priority) × (1 ≤ get_or s.priority e 0)
free_positive n sys s i v f e l =
    let b = lists_at_below sys v e l in
    let c = i.in_priority.counts e b in
    let p = count_one (free s.idle s.weight) v (row_of sys e).vars f l in
    (rw i.in_priority.size b, omega arith)

pub listing_lowers : (n : ℕ) (sys : List Equation) (s : State) → Inv n sys s → (v : ℕ) → free s.idle s.weight v ≡ true → Lowers (listing sys v) s.priority
listing_lowers n sys s i v f =
    can_lower (listing sys v) s.priority (distinct_listing sys v)
    (λ e q. (free_positive n sys s i v f e (sym (lists_listing sys v e) ∙ q)).0)
    (λ e q. (free_positive n sys s i v f e (sym (lists_listing sys v e) ∙ q)).1)

pub others_lower : (n : ℕ) (sys : List Equation) (s : State) → Inv n sys s → (v e : ℕ) → free s.idle s.weight v ≡ true → Lowers (others sys v e) s.priority
others_lower n sys s i v e f =
    can_lower (others sys v e) s.priority (distinct_others sys v e)
    (λ g q. (free_positive n sys s i v f g (and_true (not (eqb g e)) (lists_at sys v g) (sym (lists_others sys v e g) ∙ q)).1).0)
    (λ g q. (free_positive n sys s i v f g (and_true (not (eqb g e)) (lists_at sys v g) (sym (lists_others sys v e g) ∙ q)).1).1)
