-- What holds between two pops of the lazy rules.
use Rattle.std.specs.Prelude.{◌≡◌, ◌≢◌, ◌⊎◌, Bool, true, false, ◌&&◌, ◌||◌, ℕ, zero, suc, ◌+◌, ◌≤◌, ◌<◌, length, get_or, eqb}
use mathlib.Core.List.{List, [], ◌∷◌, map, Memᴰ}
use Rattle.gf2.specs.ByNumber.{row_of, lists_at, MeetsRows}
use Rattle.gf2.specs.Equation.{Equation, Increasing, lists}
use Rattle.gf2.specs.NumberLists.{one, count, pos, Distinct}
use Rattle.gf2.specs.Span.{InSpan}
use Rattle.lazy.specs.Lazy.{State, Solved, listing}

-- the system that is lent, by the numbers of its equations
pub record Lent (n : ℕ) (sys : List Equation) : Type 0 where
  pub rising : (e : ℕ) → Increasing (row_of sys e).vars
  pub inside : (v e : ℕ) → lists_at sys v e ≡ true → v < n

-- v is neither active nor solved (nor in no equation at all)
unfoldable pub free : List Bool → List ℕ → ℕ → Bool
free idle weight v = get_or idle v false && pos (get_or weight v 0)

-- was equation e solved, and was it for v?
unfoldable pub is_solved : List Solved → ℕ → Bool
is_solved [] e = false
is_solved (d ∷ ds) e = eqb e d.equation || is_solved ds e

unfoldable pub solves : List Solved → ℕ → ℕ → Bool
solves [] e v = false
solves (d ∷ ds) e v = (eqb e d.equation && eqb v d.pivot) || solves ds e v

-- how many priorities are 2 or more
unfoldable pub two_up : ℕ → ℕ
two_up zero = 0
two_up (suc zero) = 0
two_up (suc (suc _)) = 1

unfoldable pub waiting : List ℕ → ℕ
waiting [] = 0
waiting (p ∷ ps) = two_up p + waiting ps

-- Of the idle variables, a free one stands where it stood at the start, and any other one in the row that it solves and nowhere else.
pub record RowsInv (sys rows : List Equation) (idle : List Bool) (weight : List ℕ) (solved : List Solved) : Type 0 where
  pub size : length rows ≡ length sys
  pub rising : (e : ℕ) → Increasing (row_of rows e).vars
  pub same : (v e : ℕ) → free idle weight v ≡ true → lists_at rows v e ≡ lists_at sys v e
  pub own : (v e : ℕ) → get_or idle v false ≡ true → get_or weight v 0 ≡ 0 → lists_at rows v e ≡ solves solved e v
  pub inside : (v e : ℕ) → lists_at rows v e ≡ true → (f : ℕ) × (lists_at sys v f ≡ true)

-- a solved variable is idle and has weight 0
pub record SolvedInv (m n : ℕ) (idle : List Bool) (weight : List ℕ) (solved : List Solved) : Type 0 where
  pub gone : (e v : ℕ) → solves solved e v ≡ true → (get_or idle v false ≡ true) × (get_or weight v 0 ≡ 0) × (e < m) × (v < n)
  pub distinct : Distinct (map (λ d. d.pivot) solved)
  pub single : (e v w : ℕ) → solves solved e v ≡ true → solves solved e w ≡ true → w ≡ v

-- A priority counts the free variables, by the lists at the start; a solved equation has none, and priority 1.
pub record PriorityInv (sys : List Equation) (priority : List ℕ) (idle : List Bool) (weight : List ℕ) (solved : List Solved) : Type 0 where
  pub size : length priority ≡ length sys
  pub counts : (e : ℕ) → e < length sys
      → get_or priority e 0 ≡ count (free idle weight) (row_of sys e).vars + one (is_solved solved e)
  pub done : (e : ℕ) → is_solved solved e ≡ true → count (free idle weight) (row_of sys e).vars ≡ 0

-- An equation was pushed exactly if its priority is 1 or less; what remains is on the equation list or waits to be pushed.
pub record StackInv (m : ℕ) (priority equations : List ℕ) (solved : List Solved) (remaining : ℕ) : Type 0 where
  pub distinct : Distinct equations
  pub below : (e : ℕ) → lists e equations ≡ true → e < m
  pub low : (e : ℕ) → lists e equations ≡ true → get_or priority e 0 ≤ 1
  pub unsolved : (e : ℕ) → lists e equations ≡ true → is_solved solved e ≡ false
  pub solved_low : (e : ℕ) → is_solved solved e ≡ true → get_or priority e 0 ≤ 1
  pub total : remaining ≡ length equations + waiting priority

-- Each free variable is still to be taken, once; what is still to be taken is idle.
pub record VariablesInv (n : ℕ) (idle : List Bool) (weight variables : List ℕ) : Type 0 where
  pub size : length idle ≡ n
  pub weights : length weight ≡ n
  pub distinct : Distinct variables
  pub below : (v : ℕ) → lists v variables ≡ true → v < n
  pub idly : (v : ℕ) → lists v variables ≡ true → get_or idle v false ≡ true
  pub there : (v : ℕ) → free idle weight v ≡ true → lists v variables ≡ true

-- the rows are sums of equations of the system, and have its solutions
pub record SameInv (sys rows : List Equation) : Type 0 where
  pub forth : (x : List ℕ) → MeetsRows x sys → MeetsRows x rows
  pub back : (x : List ℕ) → MeetsRows x rows → MeetsRows x sys
  pub spans : (e : ℕ) → InSpan sys (row_of rows e)

-- where equation e is: it waits to be pushed, or is on the list, or was popped, and then it was solved, or an identity, or copied
pub data Place (rows dense : List Equation) (priority equations : List ℕ) (solved : List Solved) (e : ℕ) : Type 0 where
  waits : 2 ≤ get_or priority e 0 → Place rows dense priority equations solved e
  listed : lists e equations ≡ true → Place rows dense priority equations solved e
  settled : is_solved solved e ≡ true → Place rows dense priority equations solved e
  passed : get_or priority e 0 ≡ 0 → (row_of rows e).vars ≡ [] → (row_of rows e).c ≡ 0 → Place rows dense priority equations solved e
  copied : get_or priority e 0 ≡ 0 → Memᴰ (row_of rows e) dense → Place rows dense priority equations solved e

-- an equation of the dense part is a row as it stands, has priority 0, and is not solved
pub record Copied (rows : List Equation) (priority : List ℕ) (solved : List Solved) (r : Equation) : Type 0 where
  pub at : ℕ
  pub is_row : r ≡ row_of rows at
  pub zero_priority : get_or priority at 0 ≡ 0
  pub unsolved : is_solved solved at ≡ false

-- each equation has its place, and the dense part holds copies only
pub record DenseInv (sys rows dense : List Equation) (priority equations : List ℕ) (solved : List Solved) : Type 0 where
  pub places : (e : ℕ) → e < length sys → Place rows dense priority equations solved e
  pub copies : (r : Equation) → Memᴰ r dense → Copied rows priority solved r

-- what is copied, solved or remaining is at most all; no outer row is done before the popping ends
pub record UnitsInv (m : ℕ) (dense : List Equation) (solved : List Solved) (remaining dense_done : ℕ) : Type 0 where
  pub room : length dense + length solved + remaining ≤ m
  pub not_yet : dense_done ≡ 0

-- ---- which variables become active

-- no equation has exactly one of its variables in S
abbrev pub Stopping : List Equation → (ℕ → Bool) → Type 0
Stopping sys S = (e : ℕ) → count S (row_of sys e).vars ≢ 1

-- u is taken before v: it is heavier, or as heavy with a higher number
abbrev pub TakenBefore : List Equation → ℕ → ℕ → Type 0
TakenBefore sys u v = (length (listing sys v) < length (listing sys u)) ⊎ ((length (listing sys v) ≡ length (listing sys u)) × (v < u))

-- each variable is taken before those that follow it
abbrev pub InOrder : List Equation → List ℕ → Type 0
InOrder sys [] = Unit {0}
InOrder sys (v ∷ vs) = ((u : ℕ) → lists u vs ≡ true → TakenBefore sys v u) × InOrder sys vs

-- v is active
abbrev pub Active : ℕ → List Bool → ℕ → Type 0
Active n idle v = (v < n) × (get_or idle v false ≡ false)

-- S has no active variable that is taken before v
abbrev pub Spared : List Equation → ℕ → List Bool → (ℕ → Bool) → ℕ → Type 0
Spared sys n idle S v = (u : ℕ) → Active n idle u → TakenBefore sys u v → S u ≡ false

-- v is in a stopping set that has no active variable taken before v
pub record Reason (sys : List Equation) (n : ℕ) (idle : List Bool) (v : ℕ) : Type 0 where
  pub S : ℕ → Bool
  pub holds : S v ≡ true
  pub stopping : Stopping sys S
  pub spared : Spared sys n idle S v

-- the active variables are those that were taken while free, each for a reason that lasts
pub record ActiveInv (n : ℕ) (sys : List Equation) (idle : List Bool) (weight variables : List ℕ) : Type 0 where
  pub in_order : InOrder sys variables
  -- what is active was taken before what is still to be taken
  pub earlier : (u v : ℕ) → Active n idle u → lists v variables ≡ true → TakenBefore sys u v
  -- a stopping set without active variables is free
  pub kept : (S : ℕ → Bool) → Stopping sys S → ((u : ℕ) → Active n idle u → S u ≡ false)
      → (v e : ℕ) → S v ≡ true → lists_at sys v e ≡ true → free idle weight v ≡ true
  pub reason : (v : ℕ) → Active n idle v → Reason sys n idle v
  -- a variable that was taken and is idle was skipped: no stopping set that spares it has it
  pub skipped : (v e : ℕ) → get_or idle v false ≡ true → lists v variables ≡ false → lists_at sys v e ≡ true
      → (S : ℕ → Bool) → Stopping sys S → Spared sys n idle S v → S v ≡ false

-- a listed variable of weight 0 is solved
abbrev pub WeightInv : List Equation → List ℕ → List Solved → Type 0
WeightInv sys weight solved = (v e : ℕ) → lists_at sys v e ≡ true → get_or weight v 0 ≡ 0 → (f : ℕ) × (solves solved f v ≡ true)

-- all of it, of the state between two pops
pub record Inv (n : ℕ) (sys : List Equation) (s : State) : Type 0 where
  pub in_rows : RowsInv sys s.rows s.idle s.weight s.solved
  pub in_solved : SolvedInv (length sys) n s.idle s.weight s.solved
  pub in_priority : PriorityInv sys s.priority s.idle s.weight s.solved
  pub in_stack : StackInv (length sys) s.priority s.equations s.solved s.remaining
  pub in_variables : VariablesInv n s.idle s.weight s.variables
  pub in_same : SameInv sys s.rows
  pub in_dense : DenseInv sys s.rows s.dense s.priority s.equations s.solved
  pub in_units : UnitsInv (length sys) s.dense s.solved s.remaining s.dense_done
  pub in_active : ActiveInv n sys s.idle s.weight s.variables
  pub in_weight : WeightInv sys s.weight s.solved
