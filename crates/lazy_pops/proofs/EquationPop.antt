-- A pop from the equation list, and a pop from either list.
use mathlib.Core.Path.{◌≡◌, refl, sym, ap, ap₂, ◌∙◌, subst}
use mathlib.Core.Logic.{◌≢◌}
use mathlib.Core.List.{List, [], ◌∷◌}
use mathlib.Core.Bool.{true, false≢true}
use Prim.Native.Nat.{ℕ, zero, suc, ◌+◌, ◌-◌, ◌≤◌, ◌<◌}
use native.Mathlib.Numerals.{sub-one}
use native.Mathlib.Omega.{arith}
use lib.ListN.{length, get_or, set}
use Rattle.gf2.specs.Equation.{Equation, lists}
use Rattle.gf2.specs.Result.{Result, ok}
use Rattle.gf2.proofs.Members.{head_listed}
use Rattle.lazy.specs.Invariant.{StackInv}
use Rattle.lazy.specs.Cancelled.{added_cancels, pop_cancels}
use Rattle.lazy.specs.Lazy.{State, others, skip, activate, pass_over, solve_for, pop_dense, pop_variable, pop}
use Rattle.lazy.specs.Safe.{pivot_of}
use Rattle.lazy.proofs.Pops.{some_variable}
use Rattle.lazy_setup.specs.declared.Layout.{Layout}
use Rattle.lazy_setup.specs.declared.Stand.{Stand}
use Rattle.lazy_setup.specs.Area.{words_of}
use Rattle.lazy_setup.specs.Layout.{stand_of}
use Rattle.lazy_pops.specs.Step.{Step}
use Rattle.lazy_pops.specs.Step.{More}
use Rattle.lazy_pops.specs.Laid.{Laid}
use Rattle.lazy_pops.specs.Pops.{Shows, VariableAt, EquationAt, SolveDone, PopAt, After}
use Rattle.lazy_pops.proofs.Places.{places}
use Rattle.lazy_pops.proofs.PopCases.{equation_dense, equation_solve, pop_first, pop_then, count_none, count_dense, count_solve}
use Rattle.lazy_pops.proofs.Reading.{read_equation, read_priority}
use Rattle.lazy_pops.proofs.Writing.{pop_equation_lem}

-- a list that is not empty has a first
pub record Headed (l : List ℕ) : Type 0 where
  pub first : ℕ
  pub rest : List ℕ
  pub is : l ≡ first ∷ rest

pub headed : (l : List ℕ) → 1 ≤ length l → Headed l
headed [] h = absurd (omega arith)
headed (x ∷ l) h = record { first = x; rest = l; is = refl }

empty : (l : List ℕ) → length l ≡ 0 → l ≡ []
empty [] h = refl
empty (x ∷ l) h = absurd (omega arith)

not_none : (l : List ℕ) (v : ℕ) → lists v l ≡ true → 1 ≤ length l
unfolding lists
not_none [] v h = absurd (false≢true h)
not_none (x ∷ l) v h = omega arith

-- a variable that is popped changes no word
same_words : (sys : List Equation) (v : ℕ) (vs : List ℕ) (s : State) → words_of sys s ≡ words_of sys (pop_variable sys v vs s)
unfolding pop_variable skip activate words_of
same_words sys v vs s = go (get_or s.weight v 0)
  where
    go : (w : ℕ) → words_of sys s ≡ words_of sys (elim w [ zero ↦ skip vs s | suc _ ↦ activate sys v vs s ])
    go zero = refl
    go (suc w) = refl

pub record TopCells (layout : Layout) (stand : Stand) (numbers : List ℕ) : Type 0 where
  pub some : 1 ≤ stand.equations
  pub left : 1 ≤ stand.remaining
  pub last : layout.equations + (stand.equations - 1) < length numbers
  pub priority : layout.priority + get_or numbers (layout.equations + (stand.equations - 1)) 0 < length numbers

module _ {n m : ℕ} {layout : Layout} {sys : List Equation} {s : State} {stand : Stand} {numbers words : List ℕ} (a : PopAt n m layout sys s stand numbers words) where
  d : Laid n m layout sys s numbers
  d = a.popping.shows.laid

  equations_are : stand.equations ≡ length s.equations
  unfolding stand_of
  equations_are = ap (λ (x : Stand). x.equations) a.popping.shows.counted

  remaining_is : stand.remaining ≡ s.remaining
  unfolding stand_of
  remaining_is = ap (λ (x : Stand). x.remaining) a.popping.shows.counted

  pub first_equation : 1 ≤ stand.equations → Headed s.equations
  first_equation h = headed s.equations (omega (arith, equations_are))

  module _ (e : ℕ) (es : List ℕ) (next : s.equations ≡ e ∷ es) where
    abbrev last : ℕ
    last = layout.equations + (stand.equations - 1)

    last_is : stand.equations - 1 ≡ length es
    last_is = let q = ap (λ (l : List ℕ). length l) next in omega (arith, equations_are)

    e_is : get_or numbers last 0 ≡ e
    e_is = rw last_is (read_equation d e es next)

    stacked : StackInv (length sys) s.priority (e ∷ es) s.solved s.remaining
    stacked = subst (λ (l : List ℕ). StackInv (length sys) s.priority l s.solved s.remaining) next a.popping.inv.in_stack

    e_low : e < m
    e_low = let b = stacked.below e (head_listed e es) in omega (arith, d.many)

    pub top_cells : TopCells layout stand numbers
    top_cells =
        let p = places d in let l = d.sized.equations in let b = e_low in let q = e_is in let r = remaining_is in let z = a.popping.some in
        let k = ap (λ (l : List ℕ). length l) next in
        record { some = omega (arith, equations_are); left = omega arith; last = omega (arith, equations_are, d.many); priority = omega arith }

    popped : Laid n m layout sys (pass_over es s) (set numbers last 0)
    popped = rw last_is (pop_equation_lem d e es next)

    abbrev stand' : Stand
    stand' = record {
      variables = stand.variables;
      equations = stand.equations - 1;
      solved = stand.solved;
      dense = stand.dense;
      remaining = stand.remaining - 1;
      done = stand.done;
    }

    counted : stand' ≡ stand_of (pass_over es s)
    unfolding stand_of pass_over
    counted =
        ap (λ (x : Stand). record {
          variables = x.variables;
          equations = x.equations - 1;
          solved = x.solved;
          dense = x.dense;
          remaining = x.remaining - 1;
          done = x.done;
        }) a.popping.shows.counted
        ∙ ap₂ (λ (x y : ℕ). record {
          variables = length s.variables;
          equations = x;
          solved = length s.solved;
          dense = length s.dense;
          remaining = y;
          done = s.dense_done;
        }) (let q = ap (λ (l : List ℕ). length l) next in omega arith) (sub-one s.remaining)

    priority_is : get_or (set numbers last 0) (layout.priority + get_or numbers last 0) 0 ≡ get_or s.priority e 0
    unfolding pass_over
    priority_is = rw e_is (read_priority popped e e_low)

    equation_at_lem : (p : ℕ) → get_or s.priority e 0 ≡ p → EquationAt n m layout sys s (get_or numbers last 0) es p stand' (set numbers last 0) words
    equation_at_lem p q =
        subst (λ (x : ℕ). EquationAt n m layout sys s x es p stand' (set numbers last 0) words) (sym e_is)
        (record {
          shows = record { laid = popped; counted = counted };
          words_are = a.words_are;
          lent = a.popping.lent;
          inv = a.popping.inv;
          next = next;
          priority = q;
          small = a.small;
        })

    pub dense_at : get_or (set numbers last 0) (layout.priority + get_or numbers last 0) 0 ≡ 0 → EquationAt n m layout sys s (get_or numbers last 0) es 0 stand' (set numbers last 0) words
    dense_at z = equation_at_lem 0 (sym priority_is ∙ z)

    is_one : get_or (set numbers last 0) (layout.priority + get_or numbers last 0) 0 ≢ 0 → get_or s.priority e 0 ≡ 1
    is_one z = let l = stacked.low e (head_listed e es) in one (get_or s.priority e 0) l (λ q. z (priority_is ∙ q))
      where
        one : (p : ℕ) → p ≤ 1 → p ≢ 0 → p ≡ 1
        one p l k = omega arith

    pub solve_at : get_or (set numbers last 0) (layout.priority + get_or numbers last 0) 0 ≢ 0 → EquationAt n m layout sys s (get_or numbers last 0) es 1 stand' (set numbers last 0) words
    solve_at z = equation_at_lem 1 (is_one z)

    pub dense_after : (r : Step) (numbers' words' : List ℕ) → get_or (set numbers last 0) (layout.priority + get_or numbers last 0) 0 ≡ 0
        → After n m layout sys (pop_dense (get_or numbers last 0) es s) r numbers' words' → After n m layout sys (pop sys s) r numbers' words'
    dense_after r numbers' words' z q =
        let k : pop_dense (get_or numbers last 0) es s ≡ pop sys s =
        ap (λ (x : ℕ). pop_dense x es s) e_is ∙ sym (pop_first sys e es s next ∙ equation_dense sys e es s (sym priority_is ∙ z)) in
        subst (λ (x : Result State). After n m layout sys x r numbers' words') k q

    pub solve_after : (r : Stand) (numbers' words' : List ℕ) → get_or (set numbers last 0) (layout.priority + get_or numbers last 0) 0 ≢ 0
        → SolveDone n m layout sys (solve_for sys (pivot_of s (get_or numbers last 0)) (get_or numbers last 0) es s) r numbers' words' → After n m layout sys (pop sys s) (More r) numbers' words'
    solve_after r numbers' words' z q =
        let k : ok (solve_for sys (pivot_of s (get_or numbers last 0)) (get_or numbers last 0) es s) ≡ pop sys s =
        ap (λ (x : ℕ). ok (solve_for sys (pivot_of s x) x es s)) e_is ∙ sym (pop_first sys e es s next ∙ equation_solve sys e es s (is_one z)) in
        subst (λ (x : Result State). After n m layout sys x (More r) numbers' words') k (q.shows, q.words_are)

    -- what cancelled: nothing where the equation goes to the dense part, else in the sums that solve its variable
    pub dense_count : get_or (set numbers last 0) (layout.priority + get_or numbers last 0) 0 ≡ 0 → 0 ≡ pop_cancels sys s
    dense_count z = sym (count_dense sys e es s next (sym priority_is ∙ z))

    pub solve_count : {t : ℕ} → get_or (set numbers last 0) (layout.priority + get_or numbers last 0) 0 ≢ 0
        → t ≡ added_cancels (others sys (pivot_of s (get_or numbers last 0)) (get_or numbers last 0)) (get_or numbers last 0) s.rows → t ≡ pop_cancels sys s
    solve_count z q = q ∙ ap (λ (x : ℕ). added_cancels (others sys (pivot_of s x) x) x s.rows) e_is ∙ sym (count_solve sys e es s next (is_one z))

  -- ---- the variable list

  module _ (h : stand.equations ≡ 0) where
    none : s.equations ≡ []
    none = empty s.equations (sym equations_are ∙ h)

    pub variable_count : 0 ≡ pop_cancels sys s
    variable_count = sym (count_none sys s none)

    pub first_variable : Headed s.variables
    first_variable = headed s.variables (some_listed (some_variable n sys a.popping.lent s a.popping.inv none a.popping.some))
      where
        some_listed : (v : ℕ) × (lists v s.variables ≡ true) × (get_or s.weight v 0 ≢ 0) → 1 ≤ length s.variables
        some_listed w = not_none s.variables w.0 w.1

    module _ (v : ℕ) (vs : List ℕ) (next : s.variables ≡ v ∷ vs) where
      pub variable_at : VariableAt n m layout sys s v vs stand numbers
      variable_at = record { popping = a.popping; none = none; next = next }

      pub variable_after : (r : Stand) (numbers' : List ℕ) → Shows n m layout sys (pop_variable sys v vs s) r numbers'
          → After n m layout sys (pop sys s) (More r) numbers' words
      variable_after r numbers' q =
          subst (λ (x : Result State). After n m layout sys x (More r) numbers' words) (sym (pop_then sys v vs s none next))
          (q, a.words_are ∙ same_words sys v vs s)
