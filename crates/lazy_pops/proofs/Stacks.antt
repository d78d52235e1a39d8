-- A stack in an area, its top first, and lists without one of their elements.
use mathlib.Core.Path.{◌≡◌, refl}
use mathlib.Core.Logic.{◌≢◌}
use mathlib.Core.List.{List, [], ◌∷◌}
use mathlib.Core.Bool.{Bool, true, false, cond}
use Prim.Native.Nat.{ℕ, pred, ◌≤◌}
use native.Mathlib.Omega.{arith}
use lib.ListN.{length, get_or, set}
use lib.Dec.{eqb}
use Rattle.gf2.proofs.Tests.{eqb_same, eqb_ne}
use Rattle.gf2.specs.NumberLists.{keep}
use Rattle.lazy.specs.Lazy.{lowered, pushed}
use Rattle.lazy_pops.specs.Lowering.{but}

pub but_same : (e : ℕ) (f : ℕ) (fs : List ℕ) → f ≡ e → but e (f ∷ fs) ≡ but e fs
unfolding keep
but_same e f fs h = rw (h, eqb_same e)

pub but_other : (e : ℕ) (f : ℕ) (fs : List ℕ) → f ≢ e → but e (f ∷ fs) ≡ f ∷ but e fs
unfolding keep
but_other e f fs h = rw (eqb_ne f e h)

pub lowered_cons : (e : ℕ) (es priority : List ℕ) → lowered (e ∷ es) priority ≡ lowered es (set priority e (pred (get_or priority e 0)))
unfolding lowered
lowered_cons e es priority = refl

pub pushed_on : (e : ℕ) (es priority equations : List ℕ) → get_or priority e 0 ≢ 2
    → pushed (e ∷ es) priority equations ≡ pushed es (set priority e (pred (get_or priority e 0))) equations
unfolding pushed
pushed_on e es priority equations h = rw (eqb_ne (get_or priority e 0) 2 h)

pub pushed_two : (e : ℕ) (es priority equations : List ℕ) → get_or priority e 0 ≡ 2
    → pushed (e ∷ es) priority equations ≡ pushed es (set priority e (pred (get_or priority e 0))) (e ∷ equations)
unfolding pushed
pushed_two e es priority equations h = rw h

pub pushed_longer : (es priority equations : List ℕ) → length equations ≤ length (pushed es priority equations)
unfolding pushed
pushed_longer [] priority equations = omega arith
pushed_longer (e ∷ es) priority equations = go (eqb (get_or priority e 0) 2) (pushed_longer es (set priority e (pred (get_or priority e 0))))
  where
    go : (b : Bool) → ((l : List ℕ) → length l ≤ length (pushed es (set priority e (pred (get_or priority e 0))) l))
        → length equations ≤ length (pushed es (set priority e (pred (get_or priority e 0))) (cond b (e ∷ equations) equations))
    go true ih = let h = ih (e ∷ equations) in omega arith
    go false ih = ih equations
