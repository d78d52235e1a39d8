-- One pop keeps the invariant and brings the end nearer.
use mathlib.Core.Path.{◌≡◌, refl, sym, ap, ◌∙◌}
use mathlib.Core.Logic.{◌≢◌}
use mathlib.Core.List.{List, [], ◌∷◌, ◌++◌}
use mathlib.Core.Bool.{Bool, true, false, not, ◌&&◌, false≢true}
use Prim.Native.Nat.{ℕ, zero, suc, pred, ◌+◌, ◌≤◌, ◌<◌}
use native.Mathlib.Omega.{arith}
use native.Mathlib.Decide.{dec_lt}
use lib.ListN.{get_or-eq_default, length, length-append, get_or, set, length-set}
use lib.Seq.{get_or-set_other}
use lib.Dec.{eqb}
use Rattle.gf2.specs.ByNumber.{row_of, blank, lists_at}
use Rattle.gf2.specs.Equation.{Equation, lists}
use Rattle.gf2.specs.NumberLists.{first_of, one, count}
use Rattle.gf2.specs.Result.{Result, unsolvable, ok}
use Rattle.gf2.specs.Span.{InSpan}
use Rattle.lazy.specs.Invariant.{Lent, free, is_solved, StackInv, VariablesInv, UnitsInv, Inv, Stopping, Place, waits, listed, settled, passed, copied}
use Rattle.lazy.specs.Lazy.{State, Solved, listing, others, is_idle, added_into, skip, activate, pass_over, copy, solve_for, pop_dense, pop_equation, pop_variable, pop}
use Rattle.gf2.proofs.Counting.{count_some}
use Rattle.gf2.proofs.Members.{and_true, head_listed}
use Rattle.gf2.proofs.Spans.{span_sum}
use Rattle.gf2.proofs.Tests.{not_true→false, eqb_same}
use Rattle.lazy.proofs.ActiveSet.{skip_active, activate_active, solve_active, solve_weight}
use Rattle.lazy.proofs.EquationList.{solve_stack, pop_stack, lower_all, waiting_some}
use Rattle.lazy.proofs.Keeps.{one_free, activate_priority, solve_priority, pop_variables, solve_variables, pivot, pivot_free, pivot_listed, solve_rows, solve_solved, activate_solved, activate_rows, no_free}
use Rattle.lazy.proofs.Pivots.{distinct_listing, distinct_others, added_into_at, lists_at_below, lists_listing, lists_others, is_free, free_weight, activated, activated_other, weightless, weightless_other, weight_zero}
use Rattle.lazy.proofs.Places.{pass_dense, copy_dense, solve_dense, lower_dense}
use Rattle.lazy.proofs.SameSolutions.{meets_added, added_meets, closed_added}

-- how many units are left at the most, but for the last one
abbrev pub ahead : State → ℕ
ahead s = s.remaining + length s.variables + (s.remaining + length s.dense)

-- what one pop has to leave
pub record Popped (n : ℕ) (sys : List Equation) (s s' : State) : Type 0 where
  pub inv : Inv n sys s'
  pub nearer : ahead s' < ahead s

-- an equation that no values meet
pub record Clash (rows : List Equation) : Type 0 where
  pub at : ℕ
  pub empty : (row_of rows at).vars ≡ []
  pub nonzero : (row_of rows at).c ≢ 0

abbrev pub After : (State → Type 0) → Type 0 → Result State → Type 0
After P Q unsolvable = Q
After P Q (ok s) = P s

module _ (n : ℕ) (sys : List Equation) (lent : Lent n sys) (s : State) (i : Inv n sys s) where
  skip_keeps : (v : ℕ) (vs : List ℕ) → s.variables ≡ v ∷ vs → get_or s.weight v 0 ≡ 0 → Popped n sys s (skip vs s)
  unfolding skip
  skip_keeps v vs e z =
      record {
        inv = record {
          in_rows = i.in_rows;
          in_solved = i.in_solved;
          in_priority = i.in_priority;
          in_stack = i.in_stack;
          in_same = i.in_same;
          in_dense = i.in_dense;
          in_units = i.in_units;
          in_weight = i.in_weight;
          in_active = skip_active n sys s.idle s.weight v vs z (rw e at i.in_active);
          in_variables = pop_variables n s.idle s.idle s.weight s.weight v vs refl refl (λ u d. refl) (not_free z) (λ u d. refl) (rw e at i.in_variables);
        };
        nearer = rw e (omega arith);
      }
    where
      not_free : get_or s.weight v 0 ≡ 0 → free s.idle s.weight v ≡ false
      not_free z = weight_zero s.idle s.weight v z

  -- where the equation list is empty, no equation has exactly one free variable
  stopping_now : s.equations ≡ [] → Stopping sys (free s.idle s.weight)
  unfolding one lists count
  stopping_now p e h = by_size (dec_lt e (length sys))
    where
      by_place : e < length sys → Place s.rows s.dense s.priority s.equations s.solved e → ⊥
      by_place b (waits k) =
          let u = not_true→false (is_solved s.solved e) (λ g. let l = i.in_stack.solved_low e g in omega arith) in
          let c = rw u at (i.in_priority.counts e b) in
          omega arith
      by_place b (listed k) = false≢true (sym (ap (lists e) p) ∙ k)
      by_place b (settled k) = let c = i.in_priority.done e k in omega arith
      by_place b (passed k l m) = let c = i.in_priority.counts e b in omega arith
      by_place b (copied k l) = let c = i.in_priority.counts e b in omega arith

      by_size : Dec (e < length sys) → ⊥
      by_size (yes b) = by_place b (i.in_dense.places e b)
      by_size (no b) =
          let z : count (free s.idle s.weight) (row_of sys e).vars ≡ 0 =
          ap (λ (r : Equation). count (free s.idle s.weight) r.vars) (get_or-eq_default sys blank {n = e} (omega arith)) in
          omega arith

  pub activate_keeps : (v : ℕ) (vs : List ℕ) → s.equations ≡ [] → s.variables ≡ v ∷ vs → get_or s.weight v 0 ≢ 0 → Popped n sys s (activate sys v vs s)
  unfolding activate
  activate_keeps v vs none e w =
      let iv : VariablesInv n s.idle s.weight (v ∷ vs) = rw e at i.in_variables in
      let f : free s.idle s.weight v ≡ true = is_free s.idle s.weight v (iv.idly v (head_listed v vs)) w in
      record {
        inv = record {
          in_same = i.in_same;
          in_units = i.in_units;
          in_weight = i.in_weight;
          in_active = activate_active n sys s.idle s.weight v vs (iv.below v (head_listed v vs)) f (stopping_now none) (rw e at i.in_active);
          in_dense = lower_dense sys s.rows s.dense s.solved (listing sys v) s.priority s.equations (distinct_listing sys v) i.in_dense;
          in_rows = activate_rows sys s.rows s.idle s.weight s.solved v i.in_rows;
          in_solved = activate_solved (length sys) n s.idle s.weight s.solved v w i.in_solved;
          in_priority = activate_priority n sys lent s.idle (set s.idle v false) s.weight s.weight v f (activated s.idle s.weight v)
              (activated_other s.idle s.weight v) s.priority s.solved i.in_priority;
          in_stack = lower_all (length sys) s.solved s.remaining (listing sys v) s.priority s.equations
              (λ g h. lists_at_below sys v g (sym (lists_listing sys v g) ∙ h)) i.in_stack;
          in_variables = pop_variables n s.idle (set s.idle v false) s.weight s.weight v vs (length-set s.idle v false) refl
              (λ u d. get_or-set_other s.idle v u false false d) (activated s.idle s.weight v) (activated_other s.idle s.weight v) iv;
        };
        nearer = rw e (omega arith);
      }

  pop_nearer : {e : ℕ} {es : List ℕ} → s.equations ≡ e ∷ es
      → pred s.remaining + length s.variables + (pred s.remaining + length s.dense) < s.remaining + length s.variables + (s.remaining + length s.dense)
  pop_nearer p = let t = rw p at i.in_stack.total in omega arith

  pop_units : UnitsInv (length sys) s.dense s.solved (pred s.remaining) s.dense_done
  pop_units = let u = i.in_units in record { room = let r = u.room in omega arith; not_yet = u.not_yet }

  pass_over_keeps : (e : ℕ) (es : List ℕ) → s.equations ≡ e ∷ es → get_or s.priority e 0 ≡ 0 → (row_of s.rows e).vars ≡ [] → (row_of s.rows e).c ≡ 0
      → Popped n sys s (pass_over es s)
  unfolding pass_over
  pass_over_keeps e es p z q r =
      record {
        inv = record {
          in_rows = i.in_rows;
          in_solved = i.in_solved;
          in_priority = i.in_priority;
          in_variables = i.in_variables;
          in_same = i.in_same;
          in_active = i.in_active;
          in_weight = i.in_weight;
          in_stack = pop_stack (length sys) s.priority e es s.solved s.remaining (rw p at i.in_stack);
          in_dense = pass_dense s.rows s.dense s.solved s.priority e es sys z q r (rw p at i.in_dense);
          in_units = pop_units;
        };
        nearer = pop_nearer p;
      }

  copy_keeps : (e : ℕ) (es : List ℕ) → s.equations ≡ e ∷ es → get_or s.priority e 0 ≡ 0 → Popped n sys s (copy e es s)
  unfolding copy
  copy_keeps e es p z =
      let is : StackInv (length sys) s.priority (e ∷ es) s.solved s.remaining = rw p at i.in_stack in
      let l = length-append s.dense (row_of s.rows e ∷ []) in
      let t = is.total in
      let r = i.in_units.room in
      let room : length (s.dense ++ (row_of s.rows e ∷ [])) + length s.solved + pred s.remaining ≤ length sys = omega arith in
      let nearer : pred s.remaining + length s.variables + (pred s.remaining + length (s.dense ++ (row_of s.rows e ∷ []))) < ahead s = omega arith in
      record {
        inv = record {
          in_rows = i.in_rows;
          in_solved = i.in_solved;
          in_priority = i.in_priority;
          in_variables = i.in_variables;
          in_same = i.in_same;
          in_active = i.in_active;
          in_weight = i.in_weight;
          in_stack = pop_stack (length sys) s.priority e es s.solved s.remaining is;
          in_dense = copy_dense sys s.rows s.dense s.solved s.priority e es z (is.unsolved e (head_listed e es)) (rw p at i.in_dense);
          in_units = record { room = room; not_yet = i.in_units.not_yet };
        };
        nearer = nearer;
      }

  -- the equations that a solved equation is added into
  not_among : (v e : ℕ) → lists e (others sys v e) ≡ false
  not_among v e = lists_others sys v e e ∙ rw (eqb_same e)

  among_below : (v e g : ℕ) → lists g (others sys v e) ≡ true → g < length s.rows
  among_below v e g h = rw i.in_rows.size (lists_at_below sys v g (and_true (not (eqb g e)) (lists_at sys v g) (sym (lists_others sys v e g) ∙ h)).1)

  and_f : (b : Bool) → (b && false) ≡ false
  and_f true = refl
  and_f false = refl

  solve_keeps : (e : ℕ) (es : List ℕ) → s.equations ≡ e ∷ es → get_or s.priority e 0 ≡ 1
      → Popped n sys s (solve_for sys (first_of (is_idle s) (row_of s.rows e).vars) e es s)
  unfolding solve_for
  solve_keeps e es p q =
      let is : StackInv (length sys) s.priority (e ∷ es) s.solved s.remaining = rw p at i.in_stack in
      let below : e < length sys = is.below e (head_listed e es) in
      let unsolved : is_solved s.solved e ≡ false = is.unsolved e (head_listed e es) in
      let v : ℕ = pivot n sys lent s.rows s.priority s.idle s.weight s.solved i.in_rows i.in_priority e below unsolved q in
      let fr : free s.idle s.weight v ≡ true = pivot_free n sys lent s.rows s.priority s.idle s.weight s.solved i.in_rows i.in_priority e below unsolved q in
      let l : lists_at sys v e ≡ true = pivot_listed n sys lent s.rows s.priority s.idle s.weight s.solved i.in_rows i.in_priority e below unsolved q in
      let d : Solved = record { equation = e; pivot = v } in
      let la = length-append s.solved (d ∷ []) in
      let t = is.total in
      let r = i.in_units.room in
      let room : length s.dense + length (s.solved ++ (d ∷ [])) + pred s.remaining ≤ length sys = omega arith in
      record {
        inv = record {
          in_rows = solve_rows n sys lent s.rows s.priority s.idle s.weight s.solved i.in_rows i.in_priority e below unsolved q i.in_solved d refl refl;
          in_solved = solve_solved n sys lent s.rows s.priority s.idle s.weight s.solved i.in_rows i.in_priority e below unsolved q i.in_solved d refl refl;
          in_priority = solve_priority n sys lent s.idle s.idle s.weight (set s.weight v 0) v fr (weightless s.idle s.weight v)
              (weightless_other s.idle s.weight v) s.priority s.solved i.in_priority e unsolved below q l d refl;
          in_stack = lower_all (length sys) (s.solved ++ (d ∷ [])) (pred s.remaining) (others sys v e) s.priority es
              (λ g h. lists_at_below sys v g (and_true (not (eqb g e)) (lists_at sys v g) (sym (lists_others sys v e g) ∙ h)).1)
              (solve_stack (length sys) s.priority e es s.solved d s.remaining refl is);
          in_variables = solve_variables n s.idle s.weight s.variables v i.in_variables;
          in_units = record { room = room; not_yet = i.in_units.not_yet };
          in_weight = solve_weight sys s.weight s.solved d i.in_weight;
          in_active = solve_active n sys s.idle s.weight s.variables e v fr l
              (one_free n sys lent s.rows s.priority s.idle s.weight s.solved i.in_rows i.in_priority e below unsolved q) i.in_active;
          in_same = record {
            forth = λ x h. meets_added (others sys v e) e s.rows (distinct_others sys v e) (not_among v e) (among_below v e) x (i.in_same.forth x h);
            back = λ x h. i.in_same.back x (added_meets (others sys v e) e s.rows (distinct_others sys v e) (not_among v e) (among_below v e) x h);
            spans = closed_added (others sys v e) e s.rows (distinct_others sys v e) (not_among v e) (among_below v e) [] (InSpan sys) (span_sum sys) i.in_same.spans;
          };
          in_dense = lower_dense sys (added_into (others sys v e) e s.rows) s.dense (s.solved ++ (d ∷ [])) (others sys v e) s.priority es (distinct_others sys v e)
              (solve_dense sys s.rows (added_into (others sys v e) e s.rows) s.dense s.solved s.priority e es d refl (λ z. omega arith)
              (λ f z. added_into_at (others sys v e) e s.rows f (distinct_others sys v e) (not_among v e) (among_below v e)
              ∙ rw (lists_others sys v e f, no_free n sys s.priority s.idle s.weight s.solved i.in_priority f z v fr, and_f (not (eqb f e))))
              (rw p at i.in_dense));
        };
        nearer = pop_nearer p;
      }

  -- with the equation list empty and equations remaining, a variable is still to be taken
  pub some_variable : s.equations ≡ [] → 0 < s.remaining → (v : ℕ) × (lists v s.variables ≡ true) × (get_or s.weight v 0 ≢ 0)
  unfolding one
  some_variable p h =
      let t = rw p at i.in_stack.total in
      let w = waiting_some s.priority (omega arith) in
      let e : ℕ = w.0 in
      let b : e < length sys = rw i.in_priority.size at w.1 in
      let c = i.in_priority.counts e b in
      let u : is_solved s.solved e ≡ false = not_true→false (is_solved s.solved e) (λ k. let l = i.in_stack.solved_low e k in let m = w.2 in omega arith) in
      let c' : get_or s.priority e 0 ≡ count (free s.idle s.weight) (row_of sys e).vars + 0 = rw u at c in
      let f = count_some (free s.idle s.weight) (row_of sys e).vars (let m = w.2 in omega arith) in
      (f.0, i.in_variables.there f.0 f.1, free_weight s.idle s.weight f.0 f.1)

  no_variable : s.equations ≡ [] → s.variables ≡ [] → 0 < s.remaining → ⊥
  unfolding lists
  no_variable p q h = let w = some_variable p h in false≢true (sym (ap (lists w.0) q) ∙ w.1)

  variable_keeps : (v : ℕ) (vs : List ℕ) → s.equations ≡ [] → s.variables ≡ v ∷ vs → Popped n sys s (pop_variable sys v vs s)
  unfolding pop_variable
  variable_keeps v vs none p = go (get_or s.weight v 0) refl
    where
      go : (w : ℕ) → get_or s.weight v 0 ≡ w → Popped n sys s (elim w [ zero ↦ skip vs s | suc _ ↦ activate sys v vs s ])
      go zero q = skip_keeps v vs p q
      go (suc w) q = activate_keeps v vs none p (λ z. omega arith)

  dense_keeps : (e : ℕ) (es : List ℕ) → s.equations ≡ e ∷ es → get_or s.priority e 0 ≡ 0 → After (Popped n sys s) (Clash s.rows) (pop_dense e es s)
  unfolding pop_dense
  dense_keeps e es p z = by_vars (row_of s.rows e).vars refl
    where
      by_c : (row_of s.rows e).vars ≡ [] → (k : ℕ) → (row_of s.rows e).c ≡ k
          → After (Popped n sys s) (Clash s.rows) (elim k [ zero ↦ ok (pass_over es s) | suc _ ↦ unsolvable ])
      by_c q zero r = pass_over_keeps e es p z q r
      by_c q (suc k) r = record { at = e; empty = q; nonzero = λ z. omega arith }

      by_vars : (vs : List ℕ) → (row_of s.rows e).vars ≡ vs
          → After (Popped n sys s) (Clash s.rows) (elim vs [ [] ↦ elim (row_of s.rows e).c [ zero ↦ ok (pass_over es s) | suc _ ↦ unsolvable ] | _ ∷ _ ↦ ok (copy e es s) ])
      by_vars [] q = by_c q (row_of s.rows e).c refl
      by_vars (v ∷ vs) q = copy_keeps e es p z

  equation_keeps : (e : ℕ) (es : List ℕ) → s.equations ≡ e ∷ es → After (Popped n sys s) (Clash s.rows) (pop_equation sys e es s)
  unfolding pop_equation
  equation_keeps e es p = go (get_or s.priority e 0) refl
    where
      is : StackInv (length sys) s.priority (e ∷ es) s.solved s.remaining
      is = rw p at i.in_stack

      go : (k : ℕ) → get_or s.priority e 0 ≡ k
          → After (Popped n sys s) (Clash s.rows) (elim k [
            | zero ↦ pop_dense e es s
            | suc p ↦ elim p [ zero ↦ ok (solve_for sys (first_of (is_idle s) (row_of s.rows e).vars) e es s) | suc _ ↦ ok (pass_over es s) ]
          ])
      go zero q = dense_keeps e es p q
      go (suc zero) q = solve_keeps e es p q
      go (suc (suc k)) q = let l = is.low e (head_listed e es) in absurd (omega arith)

  -- one pop
  pub pop_keeps : 0 < s.remaining → After (Popped n sys s) (Clash s.rows) (pop sys s)
  unfolding pop
  pop_keeps h = by_equations s.equations refl
    where
      by_variables : s.equations ≡ [] → (vs : List ℕ) → s.variables ≡ vs
          → After (Popped n sys s) (Clash s.rows) (elim vs [ [] ↦ ok s | v ∷ vs ↦ ok (pop_variable sys v vs s) ])
      by_variables p [] q = absurd (no_variable p q h)
      by_variables p (v ∷ vs) q = variable_keeps v vs p q

      by_equations : (es : List ℕ) → s.equations ≡ es
          → After (Popped n sys s) (Clash s.rows)
          (elim es [ [] ↦ elim s.variables [ [] ↦ ok s | v ∷ vs ↦ ok (pop_variable sys v vs s) ] | e ∷ es ↦ pop_equation sys e es s ])
      by_equations [] p = by_variables p s.variables refl
      by_equations (e ∷ es) p = equation_keeps e es p
