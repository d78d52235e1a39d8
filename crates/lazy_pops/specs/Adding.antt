-- One equation added into others.
use Rattle.std.specs.Prelude.{◌≡◌, List, ℕ, ◌+◌, ◌≤◌, ◌<◌, length, get_or, set}
use Rattle.gf2.specs.Equation.{Equation, Each, Rising, sum}
use Rattle.gf2.specs.ByNumber.{row_of}
use Rattle.answers.specs.Sizes.{max_variables}
use Rattle.lazy.specs.Lazy.{State, listing}
use Rattle.lazy_setup.specs.declared.Layout.{Layout}
use Rattle.lazy_setup.specs.Area.{starts_from, words_of}
use Rattle.lazy_pops.specs.Laid.{Laid}

-- the state with other rows
unfoldable pub with_rows : List Equation → State → State
with_rows rows s = record {
  rows = rows;
  priority = s.priority;
  weight = s.weight;
  idle = s.idle;
  variables = s.variables;
  equations = s.equations;
  solved = s.solved;
  dense = s.dense;
  remaining = s.remaining;
  dense_done = s.dense_done;
}

-- equation e is added into equation f
unfoldable pub add_one : ℕ → ℕ → State → State
unfolding with_rows
add_one f e s = with_rows (set s.rows f (sum (row_of s.rows f) (row_of s.rows e))) s

-- what every sum of two rows relies on
pub record RowsAt (n m : ℕ) (layout : Layout) (sys : List Equation) (s : State) (numbers words : List ℕ) : Type 0 where
  pub laid : Laid n m layout sys s numbers
  pub words_are : words ≡ words_of sys s
  pub rising : Each (λ r. Rising 0 n r.vars) s.rows
  pub small : n ≤ max_variables

pub record AddAt (n m : ℕ) (layout : Layout) (sys : List Equation) (s : State) (f e : ℕ) (numbers words : List ℕ) : Type 0 where
  pub rows : RowsAt n m layout sys s numbers words
  pub f_in : f < m
  pub e_in : e < m

pub record AddReady (n m : ℕ) (layout : Layout) (f e : ℕ) (numbers words : List ℕ) : Type 0 where
  pub sys : List Equation
  pub s : State
  pub at : AddAt n m layout sys s f e numbers words

pub record AddDone (n m : ℕ) (layout : Layout) (sys : List Equation) (s' : State) (numbers' words' : List ℕ) : Type 0 where
  pub laid : Laid n m layout sys s' numbers'
  pub words_are : words' ≡ words_of sys s'
  pub rising : Each (λ r. Rising 0 n r.vars) s'.rows

-- the equations of variable v stand from `list` on
pub record AddsAt (n m : ℕ) (layout : Layout) (sys : List Equation) (s : State) (v list count e : ℕ) (numbers words : List ℕ) : Type 0 where
  pub rows : RowsAt n m layout sys s numbers words
  pub v_in : v < n
  pub e_in : e < m
  pub list_is : list ≡ layout.lists + get_or (starts_from sys 0 0 n) v 0
  pub count_is : count ≡ length (listing sys v)

pub record AddsReady (n m : ℕ) (layout : Layout) (list count e : ℕ) (numbers words : List ℕ) : Type 0 where
  pub sys : List Equation
  pub s : State
  pub v : ℕ
  pub at : AddsAt n m layout sys s v list count e numbers words

-- equation e can be added into the others that listed v
pub record OthersAt (n m : ℕ) (layout : Layout) (sys : List Equation) (s : State) (v e : ℕ) (numbers words : List ℕ) : Type 0 where
  pub laid : Laid n m layout sys s numbers
  pub words_are : words ≡ words_of sys s
  pub rising : Each (λ r. Rising 0 n r.vars) s.rows
  pub v_in : v < n
  pub e_in : e < m
  pub small : n ≤ max_variables

pub record OthersReady (n m : ℕ) (layout : Layout) (v e : ℕ) (numbers words : List ℕ) : Type 0 where
  pub sys : List Equation
  pub s : State
  pub at : OthersAt n m layout sys s v e numbers words
