-- Lowered priorities, and how many equations wait to be pushed.
use mathlib.Core.Path.{◌≡◌, refl, ◌∙◌}
use mathlib.Core.List.{List, [], ◌∷◌}
use mathlib.Core.Bool.{cond, ◌||◌}
use Prim.Native.Nat.{ℕ, zero, suc, pred, ◌+◌}
use native.Mathlib.Omega.{arith}
use lib.ListN.{length, get_or, set, length-set}
use lib.Seq.{get_or-set_other}
use lib.Dec.{eqb}
use Rattle.gf2.specs.Equation.{lists}
use Rattle.gf2.specs.NumberLists.{one, Distinct}
use Rattle.lazy.specs.Invariant.{two_up, waiting}
use Rattle.lazy.specs.Lazy.{lowered}
use Rattle.gf2.proofs.Members.{Same, eq, ne, same?}
use Rattle.gf2.proofs.Tests.{eqb_ne}

-- one entry loses 1, also where there is no such entry
pub lower_same : (l : List ℕ) (e : ℕ) → get_or (set l e (pred (get_or l e 0))) e 0 ≡ pred (get_or l e 0)
lower_same [] e = refl
lower_same (x ∷ xs) zero = refl
lower_same (x ∷ xs) (suc e) = lower_same xs e

pub lowered_at : (es l : List ℕ) (f : ℕ) → Distinct es → get_or (lowered es l) f 0 ≡ cond (lists f es) (pred (get_or l f 0)) (get_or l f 0)
unfolding lowered lists
lowered_at [] l f h = refl
lowered_at (e ∷ es) l f h = go (same? f e) (lowered_at es (set l e (pred (get_or l e 0))) f h.1)
  where
    l' : List ℕ
    l' = set l e (pred (get_or l e 0))

    go : Same f e → get_or (lowered es l') f 0 ≡ cond (lists f es) (pred (get_or l' f 0)) (get_or l' f 0)
        → get_or (lowered es l') f 0 ≡ cond (eqb f e || lists f es) (pred (get_or l f 0)) (get_or l f 0)
    go (eq r t) ih = rw (ih, t, r, h.0) (lower_same l e)
    go (ne r t) ih = rw (ih, t, get_or-set_other l e f (pred (get_or l e 0)) 0 r)

pub length_lowered : (es l : List ℕ) → length (lowered es l) ≡ length l
unfolding lowered
length_lowered [] l = refl
length_lowered (e ∷ es) l = length_lowered es (set l e (pred (get_or l e 0))) ∙ simp length-set

two_up_pred : (x : ℕ) → two_up x ≡ one (eqb x 2) + two_up (pred x)
unfolding two_up one
two_up_pred zero = refl
two_up_pred (suc zero) = refl
two_up_pred (suc (suc zero)) = refl
two_up_pred (suc (suc (suc x))) = rw (eqb_ne (suc (suc (suc x))) 2 (omega arith))

pub lower_waiting : (l : List ℕ) (e : ℕ) → waiting l ≡ one (eqb (get_or l e 0) 2) + waiting (set l e (pred (get_or l e 0)))
unfolding waiting one
lower_waiting [] e = refl
lower_waiting (x ∷ xs) zero = rw (two_up_pred x) (omega arith)
lower_waiting (x ∷ xs) (suc e) = rw (lower_waiting xs e) (omega arith)
