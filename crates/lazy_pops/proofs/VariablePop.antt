-- A pop from the variable list.
use mathlib.Core.Path.{◌≡◌, refl, sym, ap, ap₂, ◌∙◌, subst}
use mathlib.Core.Logic.{◌≢◌}
use mathlib.Core.List.{List}
use mathlib.Core.Bool.{true}
use Prim.Native.Nat.{ℕ, zero, suc, ◌+◌, ◌-◌, ◌≤◌, ◌<◌}
use native.Mathlib.Omega.{arith}
use lib.ListN.{length, get_or, set}
use Rattle.gf2.specs.Equation.{Equation, lists}
use Rattle.gf2.proofs.Members.{head_listed}
use Rattle.lazy.specs.Invariant.{free}
use Rattle.lazy.specs.Lazy.{State, listing, pushed, skip, activate, pop_variable}
use Rattle.lazy.proofs.Pivots.{is_free}
use Rattle.lazy.proofs.Pops.{Popped, activate_keeps}
use Rattle.lazy.proofs.Room.{equations_room}
use Rattle.lazy_setup.specs.declared.Layout.{Layout}
use Rattle.lazy_setup.specs.declared.Stand.{Stand}
use Rattle.lazy_setup.specs.Layout.{stand_of}
use Rattle.lazy_pops.specs.Laid.{Laid}
use Rattle.lazy_pops.specs.Lowering.{but}
use Rattle.lazy_pops.specs.Writes.{activated, lower, LowerAt, LowerDone}
use Rattle.lazy_pops.specs.Pops.{Shows, VariableAt}
use Rattle.lazy_pops.proofs.Places.{places}
use Rattle.lazy_pops.proofs.Reading.{read_variable, read_weight}
use Rattle.lazy_pops.proofs.Writing.{pop_variable_lem, write_active}
use Rattle.lazy_pops.proofs.CanLower.{but_past, listing_lowers}

skip_weighs : (w : ℕ) (a b : State) → w ≡ 0 → ◌≡◌ {A = State} (elim w [ zero ↦ a | suc _ ↦ b ]) a
skip_weighs zero a b h = refl
skip_weighs (suc w) a b h = absurd (omega arith)

activate_weighs : (w : ℕ) (a b : State) → w ≢ 0 → ◌≡◌ {A = State} (elim w [ zero ↦ a | suc _ ↦ b ]) b
activate_weighs zero a b h = absurd (h refl)
activate_weighs (suc w) a b h = refl

-- the cells that are read and written
pub record Cells (layout : Layout) (stand : Stand) (numbers : List ℕ) : Type 0 where
  pub some : 1 ≤ stand.variables
  pub last : layout.variables + (stand.variables - 1) < length numbers
  pub weight : layout.weight + get_or numbers (layout.variables + (stand.variables - 1)) 0 < length numbers
  pub idle : layout.idle + get_or numbers (layout.variables + (stand.variables - 1)) 0 < length numbers

module _ {n m : ℕ} {layout : Layout} {sys : List Equation} {s : State} {v : ℕ} {vs : List ℕ} {stand : Stand} {numbers : List ℕ}
    (a : VariableAt n m layout sys s v vs stand numbers) where
  abbrev last : ℕ
  last = layout.variables + (stand.variables - 1)

  d : Laid n m layout sys s numbers
  d = a.popping.shows.laid

  count_is : stand.variables ≡ suc (length vs)
  unfolding stand_of
  count_is = ap (λ (x : Stand). x.variables) a.popping.shows.counted ∙ ap (λ (l : List ℕ). length l) a.next

  last_is : stand.variables - 1 ≡ length vs
  last_is = omega (arith, count_is)

  v_is : get_or numbers last 0 ≡ v
  v_is = rw last_is (read_variable d v vs a.next)

  v_low : v < n
  v_low = a.popping.inv.in_variables.below v (ap (lists v) a.next ∙ head_listed v vs)

  pub cells : Cells layout stand numbers
  cells =
      let p = places d in let l = d.sized.variables in let c = count_is in let q = ap (λ (l : List ℕ). length l) a.next in let b = v_low in let e = v_is in
      record { some = omega arith; last = omega arith; weight = omega arith; idle = omega arith }

  popped : Laid n m layout sys (skip vs s) (set numbers last 0)
  popped = rw last_is (pop_variable_lem d v vs a.next)

  weight_is : get_or (set numbers last 0) (layout.weight + get_or numbers last 0) 0 ≡ get_or s.weight v 0
  unfolding skip
  weight_is = rw v_is (read_weight popped v v_low)

  none_is : stand.equations ≡ length s.equations
  unfolding stand_of
  none_is = ap (λ (x : Stand). x.equations) a.popping.shows.counted

  pub skipped : get_or (set numbers last 0) (layout.weight + get_or numbers last 0) 0 ≡ 0
      → Shows n m layout sys (pop_variable sys v vs s) (record {
        variables = stand.variables - 1;
        equations = stand.equations;
        solved = stand.solved;
        dense = stand.dense;
        remaining = stand.remaining;
        done = stand.done;
      }) (set numbers last 0)
  unfolding pop_variable skip stand_of
  skipped z =
      let e : pop_variable sys v vs s ≡ skip vs s = skip_weighs (get_or s.weight v 0) (skip vs s) (activate sys v vs s) (sym weight_is ∙ z) in
      rw e (record {
        laid = popped;
        counted = rw a.popping.shows.counted (ap (λ (x : ℕ). record {
          variables = x;
          equations = length s.equations;
          solved = length s.solved;
          dense = length s.dense;
          remaining = s.remaining;
          done = s.dense_done;
        }) (omega (arith, ap (λ (l : List ℕ). length l) a.next)));
      })

  module _ (z : get_or (set numbers last 0) (layout.weight + get_or numbers last 0) 0 ≢ 0) where
    heavy : get_or s.weight v 0 ≢ 0
    heavy q = z (weight_is ∙ q)

    now_active : Laid n m layout sys (activated v (skip vs s)) (set (set numbers last 0) (layout.idle + get_or numbers last 0) 0)
    now_active = rw v_is (write_active popped v v_low)

    is_free_now : free s.idle s.weight v ≡ true
    is_free_now = is_free s.idle s.weight v (a.popping.inv.in_variables.idly v (ap (lists v) a.next ∙ head_listed v vs)) heavy

    kept : Popped n sys s (activate sys v vs s)
    kept = activate_keeps n sys a.popping.lent s a.popping.inv v vs a.none a.next heavy

    pub lowers_at : LowerAt n m layout sys (activated v (skip vs s)) (get_or numbers last 0) m stand.equations (set (set numbers last 0) (layout.idle + get_or numbers last 0) 0)
    unfolding activated skip activate
    lowers_at =
        let b = but_past sys v m d.many in
        let r = equations_room n sys a.popping.lent (activate sys v vs s) kept.inv in
        subst (λ (u : ℕ). LowerAt n m layout sys (activated v (skip vs s)) u m stand.equations (set (set numbers last 0) (layout.idle + get_or numbers last 0) 0)) (sym v_is)
        (record {
          laid = now_active;
          v_in = v_low;
          top_is = none_is;
          can = rw b (listing_lowers n sys s a.popping.inv v is_free_now);
          room = rw (b, d.many) r;
        })

    pub became_active : {top' : ℕ} {numbers' : List ℕ} → LowerDone n m layout sys (activated v (skip vs s)) (get_or numbers last 0) m top' numbers'
        → Shows n m layout sys (pop_variable sys v vs s) (record {
          variables = stand.variables - 1;
          equations = top';
          solved = stand.solved;
          dense = stand.dense;
          remaining = stand.remaining;
          done = stand.done;
        }) numbers'
    unfolding pop_variable activated skip activate lower stand_of
    became_active {top'} {numbers'} q =
        let e : pop_variable sys v vs s ≡ activate sys v vs s = activate_weighs (get_or s.weight v 0) (skip vs s) (activate sys v vs s) heavy in
        let b : but m (listing sys (get_or numbers last 0)) ≡ listing sys v = rw v_is (but_past sys v m d.many) in
        let l : Laid n m layout sys (activate sys v vs s) numbers' = rw b at q.laid in
        let t : top' ≡ length (pushed (listing sys v) s.priority s.equations) = rw b at q.top_is in
        rw e (record {
          laid = l;
          counted = rw a.popping.shows.counted (ap₂ (λ (x y : ℕ). record {
            variables = x;
            equations = y;
            solved = length s.solved;
            dense = length s.dense;
            remaining = s.remaining;
            done = s.dense_done;
          }) (omega (arith, ap (λ (l : List ℕ). length l) a.next)) t);
        })
