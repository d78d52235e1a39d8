-- The rows as they stand have the solutions that the system has.
use mathlib.Core.Path.{◌≡◌}
use mathlib.Core.List.{List}
use mathlib.Core.Bool.{Bool, true, false, cond}
use Prim.Native.Nat.{ℕ, ◌<◌}
use lib.ListN.{length}
use Rattle.gf2.specs.ByNumber.{row_of, MeetsRows}
use Rattle.gf2.specs.Equation.{Equation, Meets, sum, lists}
use Rattle.gf2.specs.NumberLists.{Distinct}
use Rattle.lazy.specs.Lazy.{added_into}
use Rattle.gf2.proofs.Sums.{meets_sum, meets_part}
use Rattle.lazy.proofs.Pivots.{added_into_at}

-- a row is added into other rows
module _ (es : List ℕ) (e : ℕ) (rows : List Equation) (distinct : Distinct es) (not-e : lists e es ≡ false)
    (below : (g : ℕ) → lists g es ≡ true → g < length rows) (x : List ℕ) where
  pub meets_added : MeetsRows x rows → MeetsRows x (added_into es e rows)
  meets_added h f = rw (added_into_at es e rows f distinct not-e below) (go (lists f es))
    where
      go : (b : Bool) → Meets x (cond b (sum (row_of rows f) (row_of rows e)) (row_of rows f))
      go true = meets_sum x (row_of rows f) (row_of rows e) (h f) (h e)
      go false = h f

  pub added_meets : MeetsRows x (added_into es e rows) → MeetsRows x rows
  added_meets h f = go (lists f es) (rw (added_into_at es e rows f distinct not-e below) at (h f))
    where
      he : Meets x (row_of rows e)
      he = rw (added_into_at es e rows e distinct not-e below, not-e) at (h e)

      go : (b : Bool) → Meets x (cond b (sum (row_of rows f) (row_of rows e)) (row_of rows f)) → Meets x (row_of rows f)
      go true k = meets_part x (row_of rows f) (row_of rows e) k he
      go false k = k

  -- what holds of the rows and of sums holds of the rows after it
  pub closed_added : (Q : Equation → Type 0) → ((r q : Equation) → Q r → Q q → Q (sum r q)) → ((f : ℕ) → Q (row_of rows f)) → (f : ℕ) → Q (row_of (added_into es e rows) f)
  closed_added Q cl h f = rw (added_into_at es e rows f distinct not-e below) (go (lists f es))
    where
      go : (b : Bool) → Q (cond b (sum (row_of rows f) (row_of rows e)) (row_of rows f))
      go true = cl (row_of rows f) (row_of rows e) (h f) (h e)
      go false = h f
