-- The areas between two units, and what a unit leaves.
use Rattle.std.specs.Prelude.{◌≡◌, List, ℕ, ◌+◌, ◌-◌, ◌≤◌, ◌<◌, length}
use Rattle.std.specs.Prelude.{Option, Some, None}
use Rattle.std.specs.Prelude as result
use Rattle.rows.specs.declared.counted.Unsolvable.{Unsolvable as NoValues}
use Rattle.gf2.specs.Equation.{Equation, Each, Rising}
use Rattle.gf2.specs.Result.{Result, unsolvable, ok}
use Rattle.answers.specs.Sizes.{max_variables}
use Rattle.lazy.specs.Invariant.{Lent, Inv}
use Rattle.lazy.specs.Lazy.{State, Build, more, ended}
use Rattle.lazy_setup.specs.declared.Layout.{Layout}
use Rattle.lazy_setup.specs.declared.Stand.{Stand}
use Rattle.lazy_setup.specs.Area.{words_of}
use Rattle.lazy_pops.specs.Step.{Step}
use Rattle.lazy_pops.specs.Step as step
use Rattle.lazy_pops.specs.Pops.{Shows}
use Rattle.lazy_units.specs.Tidy.{Tidy}

-- what a unit's result comes to: there is more to do, or the build is solved or refused
abbrev pub unit_step_of : result.Result (Option Stand) NoValues → Step
unit_step_of (result.Ok (Some stand)) = step.More stand
unit_step_of (result.Ok None) = step.Solved
unit_step_of (result.Err e) = step.Unsolvable

-- .. and what the last unit's does
abbrev pub end_of : result.Result (Unit {0}) NoValues → Step
end_of (result.Ok x) = step.Solved
end_of (result.Err e) = step.Unsolvable

-- what a unit relies on in the state alone
pub record Fit (n : ℕ) (sys : List Equation) (s : State) : Type 0 where
  pub lent : Lent n sys
  -- while equations remain
  pub inv : 0 < s.remaining → Inv n sys s
  pub rising : Each (λ r. Rising 0 n r.vars) s.rows
  pub dense_rising : Each (λ r. Rising 0 n r.vars) s.dense
  pub solved_in : Each (λ d. (d.equation < length sys) × (d.pivot < n)) s.solved
  pub done_low : s.dense_done ≤ length s.dense
  pub small : n ≤ max_variables

-- the areas and the stand hold what the lazy rules have
pub record Stands (n m : ℕ) (layout : Layout) (sys : List Equation) (s : State) (stand : Stand) (numbers words : List ℕ) : Type 0 where
  pub fit : Fit n sys s
  pub shows : Shows n m layout sys s stand numbers
  pub words_are : words ≡ words_of sys s

-- how many units are left at the most, but for the last one
abbrev pub left : State → ℕ
left s = s.remaining + length s.variables + (s.remaining + (length s.dense - s.dense_done))

-- what a unit leaves: the solution is as lent until the build ends
abbrev pub Gone : ℕ → ℕ → Layout → List Equation → State → Build → Step → List ℕ → List ℕ → List ℕ → List ℕ → Type 0
Gone n m layout sys s (more s') (step.More stand) solution solution' numbers words =
    Stands n m layout sys s' stand numbers words × (left s' < left s) × (solution' ≡ solution)
Gone n m layout sys s (more s') step.Solved solution solution' numbers words = ⊥
Gone n m layout sys s (more s') step.Unsolvable solution solution' numbers words = ⊥
Gone n m layout sys s (ended unsolvable) (step.More stand) solution solution' numbers words = ⊥
Gone n m layout sys s (ended unsolvable) step.Solved solution solution' numbers words = ⊥
Gone n m layout sys s (ended unsolvable) step.Unsolvable solution solution' numbers words = Tidy n m layout numbers × (solution' ≡ solution)
Gone n m layout sys s (ended (ok x)) (step.More stand) solution solution' numbers words = ⊥
Gone n m layout sys s (ended (ok x)) step.Solved solution solution' numbers words = Tidy n m layout numbers × (solution' ≡ x)
Gone n m layout sys s (ended (ok x)) step.Unsolvable solution solution' numbers words = ⊥

-- how the build ends
abbrev pub Over : Result (List ℕ) → Step → List ℕ → List ℕ → Type 0
Over unsolvable (step.More stand) solution solution' = ⊥
Over unsolvable step.Solved solution solution' = ⊥
Over unsolvable step.Unsolvable solution solution' = solution' ≡ solution
Over (ok x) (step.More stand) solution solution' = ⊥
Over (ok x) step.Solved solution solution' = solution' ≡ x
Over (ok x) step.Unsolvable solution solution' = ⊥

-- what a pop or an outer row leaves
abbrev pub Going : ℕ → ℕ → Layout → List Equation → State → Result State → Step → List ℕ → List ℕ → Type 0
Going n m layout sys s (ok s') (step.More stand) numbers words = Stands n m layout sys s' stand numbers words × (left s' < left s)
Going n m layout sys s (ok s') step.Solved numbers words = ⊥
Going n m layout sys s (ok s') step.Unsolvable numbers words = ⊥
Going n m layout sys s unsolvable (step.More stand) numbers words = ⊥
Going n m layout sys s unsolvable step.Solved numbers words = ⊥
Going n m layout sys s unsolvable step.Unsolvable numbers words = Tidy n m layout numbers

-- the dense part has a row to clear
pub record ClearAt (n m : ℕ) (layout : Layout) (sys : List Equation) (s : State) (stand : Stand) (numbers words : List ℕ) : Type 0 where
  pub stands : Stands n m layout sys s stand numbers words
  pub popped : stand.remaining ≡ 0
  pub some : stand.done + 1 < stand.dense

pub record ClearReady (n m : ℕ) (layout : Layout) (stand : Stand) (numbers words : List ℕ) : Type 0 where
  pub sys : List Equation
  pub s : State
  pub at : ClearAt n m layout sys s stand numbers words
