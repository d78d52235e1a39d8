-- The equations of one variable lowered.
use mathlib.Core.Path.{◌≡◌, ap, ◌∙◌}
use mathlib.Core.List.{List, reverse, reverse-reverse}
use Prim.Native.Nat.{ℕ, suc, ◌+◌, ◌-◌, ◌≤◌, ◌<◌}
use native.Mathlib.Nat.{zero-add}
use native.Mathlib.Omega.{arith}
use lib.ListN.{length, get_or}
use Rattle.gf2.specs.Equation.{Equation}
use Rattle.areas.specs.Stretch.{stretch, put}
use Rattle.lazy.specs.Lazy.{State, listing, lowered, pushed}
use Rattle.lazy_setup.specs.declared.Layout.{Layout}
use Rattle.lazy_pops.specs.Laid.{Laid}
use Rattle.lazy_pops.specs.Lowering.{but, LowerFits, now_pushed, lowered_in}
use Rattle.lazy_pops.specs.Writes.{LowerAt, LowerDone}
use Rattle.lazy_pops.proofs.Places.{places}
use Rattle.lazy_pops.proofs.Listings.{start_next, start_within}
use Rattle.lazy_pops.proofs.Reading.{from_at, to_at, listing_at, priorities_at, stack_at}
use Rattle.lazy_pops.proofs.Writing.{write_lowered}

-- where the list of v stands
pub record Bounds (numbers : List ℕ) (layout : Layout) (v : ℕ) : Type 0 where
  pub cell : layout.starts + v + 1 < length numbers
  pub rising : get_or numbers (layout.starts + v) 0 ≤ get_or numbers (layout.starts + v + 1) 0
  pub inside : layout.lists + get_or numbers (layout.starts + v + 1) 0 ≤ layout.starts
  pub before : layout.starts ≤ layout.priority

pub bounds : {n m : ℕ} {layout : Layout} {sys : List Equation} {s : State} {numbers : List ℕ} (v : ℕ) → Laid n m layout sys s numbers → v < n → Bounds numbers layout v
bounds {n} {m} {layout} {sys} {s} {numbers} v d h =
    let p = places d in
    let f = from_at d v (omega arith) in
    let t = to_at d v h in
    let x = start_next sys 0 0 n v h in
    let x' = rw (zero-add v) at x in
    let w = start_within sys 0 0 n (suc v) h in
    record { cell = omega arith; rising = omega arith; inside = omega arith; before = omega arith }

module _ {n m : ℕ} {layout : Layout} {sys : List Equation} {s : State} {v skip top : ℕ} {numbers : List ℕ} (w : LowerAt n m layout sys s v skip top numbers) where
  abbrev list : ℕ
  list = layout.lists + get_or numbers (layout.starts + v) 0

  abbrev count : ℕ
  count = get_or numbers (layout.starts + v + 1) 0 - get_or numbers (layout.starts + v) 0

  stack_is : reverse (stretch layout.equations top numbers) ≡ s.equations
  stack_is = rw (w.top_is, stack_at w.laid) (reverse-reverse s.equations)

  pub listed_fits : LowerFits numbers list count skip layout.priority m layout.equations top
  listed_fits =
      let p = places w.laid in
      let b = bounds v w.laid w.v_in in
      record {
        list_first = omega arith;
        prio_next = omega arith;
        stack_last = omega arith;
        top_in = rw w.top_is (rw w.laid.many w.laid.sized.equations);
        can = rw (listing_at w.laid v w.v_in, priorities_at w.laid) w.can;
        room = rw (listing_at w.laid v w.v_in, priorities_at w.laid, stack_is) w.room;
      }

  pushed_is : now_pushed numbers list count skip layout.priority m layout.equations top ≡ pushed (but skip (listing sys v)) s.priority s.equations
  pushed_is = rw (listing_at w.laid v w.v_in, priorities_at w.laid, stack_is)

  lowered_is : lowered_in numbers list count skip layout.priority m layout.equations top
      ≡ put layout.priority (lowered (but skip (listing sys v)) s.priority) (put layout.equations (reverse (pushed (but skip (listing sys v)) s.priority s.equations)) numbers)
  lowered_is = rw (listing_at w.laid v w.v_in, priorities_at w.laid, stack_is)

  pub listed_done : {top' : ℕ} {numbers' : List ℕ} → (top' ≡ length (now_pushed numbers list count skip layout.priority m layout.equations top))
      × (numbers' ≡ lowered_in numbers list count skip layout.priority m layout.equations top) → LowerDone n m layout sys s v skip top' numbers'
  listed_done q = record {
    laid = rw (q.1 ∙ lowered_is) (write_lowered w.laid (but skip (listing sys v)) w.room);
    top_is = q.0 ∙ ap (λ (l : List ℕ). length l) pushed_is;
  }
