-- An equation of priority 1 is popped.
use mathlib.Core.Path.{◌≡◌, refl, sym, ap, ap₂, ◌∙◌, subst}
use mathlib.Core.List.{List, [], ◌∷◌}
use mathlib.Core.Bool.{Bool, true, false, not, false≢true}
use Rattle.std.proofs.Common.{Option, Some, None, IsSome, MatchOption}
use Rattle.std.proofs.lemmas.Option.{MatchOption-at_some}
use Prim.Native.Nat.{ℕ, pred, ◌+◌, ◌*◌, ◌≤◌, ◌<◌}
use native.Mathlib.Omega.{arith}
use lib.ListN.{length, get_or, length-append}
use lib.Dec.{eqb}
use Rattle.gf2.specs.Equation.{Equation, Each, Rising}
use Rattle.gf2.specs.ByNumber.{blank, row_of}
use Rattle.gf2.proofs.Each.{each_from, each_map}
use Rattle.gf2.proofs.Members.{head_listed, each_listed}
use Rattle.gf2.proofs.Order.{rising_below}
use Rattle.areas.specs.Stretch.{stretch}
use Rattle.areas.proofs.Offsets.{row_before}
use Rattle.lazy.specs.Invariant.{StackInv, free}
use Rattle.lazy.specs.Lazy.{State, others, is_idle, pass_over, solve_for}
use Rattle.lazy.specs.Safe.{pivot_of}
use Rattle.lazy.proofs.Keeps.{pivot_there, pivot_free}
use Rattle.lazy.proofs.Pops.{Popped, pop_keeps}
use Rattle.lazy.proofs.Room.{equations_room, row_rising, row_room}
use Rattle.lazy.specs.Cancelled.{added_cancels}
use Rattle.lazy_setup.specs.declared.Layout.{Layout}
use Rattle.lazy_setup.specs.declared.Stand.{Stand}
use Rattle.lazy_setup.specs.Area.{mark, words_of}
use Rattle.lazy_setup.specs.Layout.{stand_of}
use Rattle.lazy_pops.specs.Adding.{AddDone, OthersAt}
use Rattle.lazy_pops.specs.Idle.{marked, first_marked, RowFits}
use Rattle.lazy_pops.specs.Laid.{Laid}
use Rattle.lazy_pops.specs.Pops.{EquationAt, SolveDone}
use Rattle.lazy_pops.specs.Writes.{lower, weightless, recorded, add_to, SolvedAt, LowerAt, LowerDone}
use Rattle.lazy_pops.proofs.CanLower.{others_lower}
use Rattle.lazy_pops.proofs.DensePop.{e_low, left_over, size_is}
use Rattle.lazy_pops.proofs.Places.{places}
use Rattle.lazy_pops.proofs.PopCases.{equation_solve, pop_first}
use Rattle.lazy_pops.proofs.Reading.{read_idle, row_at}
use Rattle.lazy_pops.proofs.Seeking.{first_same}

marks : (b : Bool) → not (eqb (mark b) 0) ≡ b
marks true = refl
marks false = refl

pub record RowCells (n m : ℕ) (layout : Layout) (e : ℕ) (stand : Stand) (numbers : List ℕ) : Type 0 where
  pub low : e < m
  pub cell : layout.lengths + e < length numbers
  pub row : e * n + n ≤ length numbers
  pub short : get_or numbers (layout.lengths + e) 0 ≤ n
  pub room : stand.solved < m
  pub many : m ≤ length numbers

module _ {n m : ℕ} {layout : Layout} {sys : List Equation} {s : State} {e : ℕ} {es : List ℕ} {stand : Stand} {numbers words : List ℕ}
    (a : EquationAt n m layout sys s e es 1 stand numbers words) where
  d : Laid n m layout sys (pass_over es s) numbers
  d = a.shows.laid

  abbrev vars : List ℕ
  vars = (row_of s.rows e).vars

  abbrev len : ℕ
  len = get_or numbers (layout.lengths + e) 0

  vars_are : stretch (e * n) len numbers ≡ vars
  unfolding pass_over
  vars_are = rw (size_is a) (row_at d e (e_low a))

  vars_below : Each (λ u. u < n) vars
  vars_below = rising_below 0 n vars (row_rising n sys a.lent s a.inv e)

  solved_is : stand.solved ≡ length s.solved
  unfolding stand_of pass_over
  solved_is = ap (λ (x : Stand). x.solved) a.shows.counted

  solved_low : stand.solved < m
  solved_low = let r = a.inv.in_units.room in let l = left_over a in omega (arith, solved_is, d.many)

  pub row_cells : RowCells n m layout e stand numbers
  row_cells =
      let p = places d in let l = e_low a in let r = row_before e m n l in let w = row_room n sys a.lent s a.inv e in let z = size_is a in let q = solved_low in
      record { low = l; cell = omega arith; row = omega arith; short = omega arith; room = q; many = omega arith }

  pub row_fits : RowFits numbers (e * n) len layout.idle
  row_fits =
      let c = row_cells in let p = places d in
      record {
        inside = omega arith;
        marks = rw vars_are (each_map {P = λ u. u < n} {Q = λ u. layout.idle + u < length numbers} vars (λ u h. omega arith) vars_below);
      }

  marked_is : (u : ℕ) → u < n → marked numbers layout.idle u ≡ is_idle s u
  unfolding pass_over
  marked_is u h = ap (λ (x : ℕ). not (eqb x 0)) (read_idle d u h) ∙ marks (is_idle s u)

  found : first_marked numbers (e * n) len layout.idle ≡ pivot_of s e
  found =
      rw vars_are (first_same (marked numbers layout.idle) (is_idle s) vars (λ u h. marked_is u (each_listed (λ u. u < n) vars vars_below u h)))

  top : StackInv (length sys) s.priority (e ∷ es) s.solved s.remaining
  top = subst (λ (l : List ℕ). StackInv (length sys) s.priority l s.solved s.remaining) a.next a.inv.in_stack

  pivot_is_free : free s.idle s.weight (pivot_of s e) ≡ true
  pivot_is_free =
      pivot_free n sys a.lent s.rows s.priority s.idle s.weight s.solved a.inv.in_rows a.inv.in_priority e
      (top.below e (head_listed e es)) (top.unsolved e (head_listed e es)) a.priority

  pivot_low : pivot_of s e < n
  pivot_low =
      each_listed (λ u. u < n) vars vars_below (pivot_of s e)
      (pivot_there n sys a.lent s.rows s.priority s.idle s.weight s.solved a.inv.in_rows a.inv.in_priority e
      (top.below e (head_listed e es)) (top.unsolved e (head_listed e es)) a.priority).1

  -- the pivot is marked, so a search does not fail
  pub idle_found : (r : Option ℕ)
      → MatchOption r (Each (λ v. marked numbers layout.idle v ≡ false) (stretch (e * n) len numbers)) (λ v. v ≡ first_marked numbers (e * n) len layout.idle) → IsSome r
  idle_found (Some v) h = refl
  idle_found None h =
      let there = pivot_there n sys a.lent s.rows s.priority s.idle s.weight s.solved a.inv.in_rows a.inv.in_priority e
      (top.below e (head_listed e es)) (top.unsolved e (head_listed e es)) a.priority in
      let unmarked : marked numbers layout.idle (pivot_of s e) ≡ false =
      each_listed (λ v. marked numbers layout.idle v ≡ false) vars (rw vars_are at h) (pivot_of s e) there.1 in
      absurd (false≢true (sym unmarked ∙ marked_is (pivot_of s e) pivot_low ∙ there.0))

  pub idle_value : (r : Option ℕ) {v : ℕ}
      → MatchOption r (Each (λ v. marked numbers layout.idle v ≡ false) (stretch (e * n) len numbers)) (λ v. v ≡ first_marked numbers (e * n) len layout.idle)
      → r ≡ Some v → v ≡ first_marked numbers (e * n) len layout.idle
  idle_value r {v} h q = MatchOption-at_some _ (λ v. v ≡ first_marked numbers (e * n) len layout.idle) v q h

  kept : Popped n sys s (solve_for sys (pivot_of s e) e es s)
  kept = rw (pop_first sys e es s a.next, equation_solve sys e es s a.priority) at (pop_keeps n sys a.lent s a.inv (left_over a))

  module _ {v : ℕ} (q : v ≡ first_marked numbers (e * n) len layout.idle) where
    v_is : v ≡ pivot_of s e
    v_is = q ∙ found

    pub v_low : v < n
    v_low = rw v_is pivot_low

    pub solved_at : SolvedAt n m layout sys (pass_over es s) stand.solved v numbers
    unfolding pass_over
    solved_at = record { laid = d; k_is = solved_is; k_in = solved_low; v_in = v_low }

    abbrev marked_solved : State
    marked_solved = weightless v (recorded e v (pass_over es s))

    pub others_at : {numbers₁ : List ℕ} → Laid n m layout sys marked_solved numbers₁ → OthersAt n m layout sys marked_solved v e numbers₁ words
    unfolding weightless recorded pass_over words_of
    others_at l = record {
      laid = l;
      words_are = a.words_are;
      rising = each_from (λ r. Rising 0 n r.vars) s.rows blank (λ i h. row_rising n sys a.lent s a.inv i);
      v_in = v_low;
      e_in = e_low a;
      small = a.small;
    }

    pub lower_at : {numbers₂ words₂ : List ℕ} → AddDone n m layout sys (add_to (others sys v e) e marked_solved) numbers₂ words₂
        → LowerAt n m layout sys (add_to (others sys v e) e marked_solved) v e stand.equations numbers₂
    unfolding add_to weightless recorded pass_over stand_of others solve_for
    lower_at b = record {
      laid = b.laid;
      v_in = v_low;
      top_is = ap (λ (x : Stand). x.equations) a.shows.counted;
      can = rw v_is (others_lower n sys s a.inv (pivot_of s e) e pivot_is_free);
      room = rw (v_is, d.many) (equations_room n sys a.lent (solve_for sys (pivot_of s e) e es s) kept.inv);
    }

    -- the sums are made of the rows as they were
    pub solve_count : {t : ℕ} → t ≡ added_cancels (others sys v e) e marked_solved.rows → t ≡ added_cancels (others sys (pivot_of s e) e) e s.rows
    unfolding weightless recorded pass_over
    solve_count z = z ∙ ap (λ (u : ℕ). added_cancels (others sys u e) e s.rows) v_is

    pub solve_done : {numbers₂ words₂ : List ℕ} {top' : ℕ} {numbers₃ : List ℕ} → AddDone n m layout sys (add_to (others sys v e) e marked_solved) numbers₂ words₂
        → LowerDone n m layout sys (add_to (others sys v e) e marked_solved) v e top' numbers₃
        → SolveDone n m layout sys (solve_for sys (pivot_of s e) e es s) (record {
          variables = stand.variables;
          equations = top';
          solved = stand.solved + 1;
          dense = stand.dense;
          remaining = stand.remaining;
          done = stand.done;
        }) numbers₃ words₂
    unfolding lower add_to weightless recorded pass_over stand_of others solve_for words_of
    solve_done {numbers₂} {words₂} {top'} {numbers₃} b l =
        subst (λ (u : ℕ). SolveDone n m layout sys (solve_for sys u e es s) (record {
          variables = stand.variables;
          equations = top';
          solved = stand.solved + 1;
          dense = stand.dense;
          remaining = stand.remaining;
          done = stand.done;
        }) numbers₃ words₂) v_is
        (record {
          shows = record {
            laid = l.laid;
            counted = rw a.shows.counted (ap₂ (λ (x y : ℕ). record {
              variables = length s.variables;
              equations = x;
              solved = y;
              dense = length s.dense;
              remaining = pred s.remaining;
              done = s.dense_done;
            }) l.top_is (sym (length-append s.solved (record { equation = e; pivot = v } ∷ []))));
          };
          words_are = b.words_are;
        })
