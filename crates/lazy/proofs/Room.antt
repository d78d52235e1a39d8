-- Nothing outgrows its area.
use mathlib.Core.Path.{◌≡◌}
use mathlib.Core.List.{List}
use Prim.Native.Nat.{ℕ, ◌≤◌, ◌<◌}
use native.Mathlib.Omega.{arith}
use lib.ListN.{length}
use Rattle.gf2.specs.ByNumber.{blank, row_of}
use Rattle.gf2.specs.Equation.{Equation, Each, Rising}
use Rattle.lazy.specs.Invariant.{Lent, Inv}
use Rattle.lazy.specs.Lazy.{State, more, after, start}
use Rattle.gf2.proofs.Members.{increasing_distinct, listed_each}
use Rattle.gf2.proofs.Selecting.{distinct_room}
use Rattle.gf2.proofs.Each.{each_from, each_from_mem}
use Rattle.gf2.proofs.Order.{below_rising, rising_both, rising_sorted, rising_belows}
use Rattle.lazy.proofs.Run.{Live, popping, clearing, reached}

-- what the areas of a run hold
module _ (n : ℕ) (sys : List Equation) (lent : Lent n sys) (s : State) (i : Inv n sys s) where
  pub equations_room : length s.equations ≤ length sys
  equations_room = distinct_room (length sys) s.equations i.in_stack.distinct i.in_stack.below

  pub row_room : (e : ℕ) → length (row_of s.rows e).vars ≤ n
  row_room e =
      distinct_room n (row_of s.rows e).vars (increasing_distinct (row_of s.rows e).vars (i.in_rows.rising e))
      (λ v h. let f = i.in_rows.inside v e h in lent.inside v f.0 f.1)

  pub dense_room : length s.dense ≤ length sys
  dense_room = let r = i.in_units.room in omega arith

  pub solved_room : length s.solved ≤ length sys
  solved_room = let r = i.in_units.room in omega arith

  -- each row as it stands is strictly increasing and below n ..
  pub row_rising : (e : ℕ) → Rising 0 n (row_of s.rows e).vars
  row_rising e =
      below_rising n (row_of s.rows e).vars (i.in_rows.rising e)
      (listed_each (λ u. u < n) (row_of s.rows e).vars (λ v h. let f = i.in_rows.inside v e h in lent.inside v f.0 f.1))

  -- .. and so is each of the dense part
  pub dense_rising : Each (λ r. Rising 0 n r.vars) s.dense
  dense_rising = each_from_mem (λ r. Rising 0 n r.vars) s.dense (λ r k. let c = i.in_dense.copies r k in rw c.is_row (row_rising c.at))

-- ---- the same of every state that is reached

pub record Roomy (n : ℕ) (sys : List Equation) (s : State) : Type 0 where
  pub rows_rising : Each (λ r. Rising 0 n r.vars) s.rows
  pub rows_size : length s.rows ≡ length sys
  pub dense_rising : Each (λ r. Rising 0 n r.vars) s.dense
  pub dense_size : length s.dense ≤ length sys
  pub solved_size : length s.solved ≤ length sys

module _ (n : ℕ) (sys : List Equation) (lent : Lent n sys) where
  inv_roomy : (s : State) → Inv n sys s → Roomy n sys s
  inv_roomy s i = record {
    rows_rising = each_from (λ r. Rising 0 n r.vars) s.rows blank (λ e h. row_rising n sys lent s i e);
    rows_size = i.in_rows.size;
    dense_rising = dense_rising n sys lent s i;
    dense_size = dense_room n sys lent s i;
    solved_size = solved_room n sys lent s i;
  }

  live_roomy : (s : State) → Live n sys s → Roomy n sys s
  live_roomy s (popping i) = inv_roomy s i
  live_roomy s (clearing r) =
      let b = inv_roomy r.base r.inv in
      record {
        rows_rising = rw r.rows_same b.rows_rising;
        rows_size = rw r.rows_same b.rows_size;
        dense_rising = rising_both n s.dense (r.like.rising (rising_sorted n r.base.dense b.dense_rising))
            (r.like.support (λ u. u < n) (rising_belows n r.base.dense b.dense_rising));
        dense_size = rw r.like.size b.dense_size;
        solved_size = rw r.solved_same b.solved_size;
      }

  pub reached_roomy : (k : ℕ) (s : State) → after k n sys (more (start n sys)) ≡ more s → Roomy n sys s
  reached_roomy k s e = live_roomy s (reached n sys lent k s e)
