-- The last unit: what is left is checked and solved, and the solved equations are filled in.
use Rattle.std.specs.Prelude.{◌≡◌, List, ℕ, ◌+◌, ◌*◌, ◌≤◌, ◌<◌, length, get_or, set}
use Rattle.std.specs.Int.Bits.{bit_xor}
use Rattle.gf2.specs.Equation.{Equation, Each, Rising, eval_vars}
use Rattle.areas.specs.Stretch.{stretch}
use Rattle.lazy.specs.Lazy.{State}
use Rattle.lazy_setup.specs.declared.Layout.{Layout}
use Rattle.lazy_setup.specs.declared.Stand.{Stand}
use Rattle.lazy_setup.specs.Area.{words_of}
use Rattle.lazy_pops.specs.Laid.{Laid}
use Rattle.lazy_units.specs.Units.{Stands}

-- equation e stands in row e, and v is a variable
pub record MeetFits (numbers words : List ℕ) (n lengths e v : ℕ) (solution : List ℕ) : Type 0 where
  pub cell : lengths + e < length numbers
  pub row : e * n + get_or numbers (lengths + e) 0 ≤ length numbers
  pub below : Each (λ u. u < length solution) (stretch (e * n) (get_or numbers (lengths + e) 0) numbers)
  pub word : e < length words
  pub v_in : v < length solution

-- v has the value that meets equation e
abbrev pub met : List ℕ → List ℕ → ℕ → ℕ → ℕ → ℕ → List ℕ → List ℕ
met numbers words n lengths e v solution =
    set solution v (bit_xor (get_or words e 0) (eval_vars (stretch (e * n) (get_or numbers (lengths + e) 0) numbers) solution))

-- k equations are solved
pub record FillAt (n m : ℕ) (layout : Layout) (sys : List Equation) (s : State) (k : ℕ) (numbers words : List ℕ) : Type 0 where
  pub laid : Laid n m layout sys s numbers
  pub words_are : words ≡ words_of sys s
  pub rising : Each (λ r. Rising 0 n r.vars) s.rows
  pub solved_in : Each (λ d. (d.equation < length sys) × (d.pivot < n)) s.solved
  pub k_is : k ≡ length s.solved

pub record FillReady (n m : ℕ) (layout : Layout) (k : ℕ) (numbers words solution : List ℕ) : Type 0 where
  pub sys : List Equation
  pub s : State
  pub at : FillAt n m layout sys s k numbers words
  pub long : length solution ≡ n

-- a unit can be done
pub record UnitAt (n m : ℕ) (layout : Layout) (sys : List Equation) (s : State) (stand : Stand) (numbers words solution : List ℕ) : Type 0 where
  pub stands : Stands n m layout sys s stand numbers words
  pub long : length solution ≡ n

pub record UnitReady (n m : ℕ) (layout : Layout) (stand : Stand) (numbers words solution : List ℕ) : Type 0 where
  pub sys : List Equation
  pub s : State
  pub at : UnitAt n m layout sys s stand numbers words solution
