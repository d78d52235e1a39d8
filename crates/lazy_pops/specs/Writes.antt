-- What a unit writes, one part of the state at a time.
use Rattle.std.specs.Prelude.{◌≡◌, List, [], ◌∷◌, ◌++◌, false, ℕ, ◌≤◌, ◌<◌, length, set}
use Rattle.gf2.specs.Equation.{Equation}
use Rattle.gf2.specs.ByNumber.{row_of}
use Rattle.lazy.specs.Lazy.{State, listing, lowered, pushed, added_into}
use Rattle.answers.specs.Sizes.{max_variables}
use Rattle.lazy_setup.specs.declared.Layout.{Layout}
use Rattle.lazy_setup.specs.Area.{words_of}
use Rattle.lazy_pops.specs.Laid.{Laid}
use Rattle.lazy_pops.specs.Lowering.{but, Lowers}

-- v becomes active
unfoldable pub activated : ℕ → State → State
activated v s = record {
  rows = s.rows;
  priority = s.priority;
  weight = s.weight;
  idle = set s.idle v false;
  variables = s.variables;
  equations = s.equations;
  solved = s.solved;
  dense = s.dense;
  remaining = s.remaining;
  dense_done = s.dense_done;
}

-- the equations es lose 1 in priority, and are pushed on reaching 1
unfoldable pub lower : List ℕ → State → State
lower es s = record {
  rows = s.rows;
  priority = lowered es s.priority;
  weight = s.weight;
  idle = s.idle;
  variables = s.variables;
  equations = pushed es s.priority s.equations;
  solved = s.solved;
  dense = s.dense;
  remaining = s.remaining;
  dense_done = s.dense_done;
}

-- the equations of variable v, but for one, can be lowered
pub record LowerAt (n m : ℕ) (layout : Layout) (sys : List Equation) (s : State) (v skip top : ℕ) (numbers : List ℕ) : Type 0 where
  pub laid : Laid n m layout sys s numbers
  pub v_in : v < n
  pub top_is : top ≡ length s.equations
  pub can : Lowers (but skip (listing sys v)) s.priority
  pub room : length (pushed (but skip (listing sys v)) s.priority s.equations) ≤ m

-- some system and state are shown so
pub record LowerReady (m : ℕ) (layout : Layout) (v skip top : ℕ) (numbers : List ℕ) : Type 0 where
  pub n : ℕ
  pub sys : List Equation
  pub s : State
  pub at : LowerAt n m layout sys s v skip top numbers

pub record LowerDone (n m : ℕ) (layout : Layout) (sys : List Equation) (s : State) (v skip : ℕ) (top' : ℕ) (numbers' : List ℕ) : Type 0 where
  pub laid : Laid n m layout sys (lower (but skip (listing sys v)) s) numbers'
  pub top_is : top' ≡ length (pushed (but skip (listing sys v)) s.priority s.equations)

-- the weight of v becomes 0
unfoldable pub weightless : ℕ → State → State
weightless v s = record {
  rows = s.rows;
  priority = s.priority;
  weight = set s.weight v 0;
  idle = s.idle;
  variables = s.variables;
  equations = s.equations;
  solved = s.solved;
  dense = s.dense;
  remaining = s.remaining;
  dense_done = s.dense_done;
}

-- equation e has solved v
unfoldable pub recorded : ℕ → ℕ → State → State
recorded e v s = record {
  rows = s.rows;
  priority = s.priority;
  weight = s.weight;
  idle = s.idle;
  variables = s.variables;
  equations = s.equations;
  solved = s.solved ++ (record { equation = e; pivot = v } ∷ []);
  dense = s.dense;
  remaining = s.remaining;
  dense_done = s.dense_done;
}

-- equation e is added into each of the equations fs
unfoldable pub add_to : List ℕ → ℕ → State → State
add_to fs e s = record {
  rows = added_into fs e s.rows;
  priority = s.priority;
  weight = s.weight;
  idle = s.idle;
  variables = s.variables;
  equations = s.equations;
  solved = s.solved;
  dense = s.dense;
  remaining = s.remaining;
  dense_done = s.dense_done;
}

-- equation e is copied to the dense part
unfoldable pub copied : ℕ → State → State
copied e s = record {
  rows = s.rows;
  priority = s.priority;
  weight = s.weight;
  idle = s.idle;
  variables = s.variables;
  equations = s.equations;
  solved = s.solved;
  dense = s.dense ++ (row_of s.rows e ∷ []);
  remaining = s.remaining;
  dense_done = s.dense_done;
}

-- equation e can be copied
pub record CopyAt (n m : ℕ) (layout : Layout) (sys : List Equation) (s : State) (e len d : ℕ) (numbers words : List ℕ) : Type 0 where
  pub laid : Laid n m layout sys s numbers
  pub words_are : words ≡ words_of sys s
  pub e_in : e < m
  pub size : len ≡ length (row_of s.rows e).vars
  pub d_is : d ≡ length s.dense
  pub d_in : d < m
  pub small : n ≤ max_variables

pub record CopyReady (n m : ℕ) (layout : Layout) (e len d : ℕ) (numbers words : List ℕ) : Type 0 where
  pub sys : List Equation
  pub s : State
  pub at : CopyAt n m layout sys s e len d numbers words

pub record CopyDone (n m : ℕ) (layout : Layout) (sys : List Equation) (s : State) (e : ℕ) (numbers' words' : List ℕ) : Type 0 where
  pub laid : Laid n m layout sys (copied e s) numbers'
  pub words_are : words' ≡ words_of sys (copied e s)

-- k equations are solved, and one more is to be recorded
pub record SolvedAt (n m : ℕ) (layout : Layout) (sys : List Equation) (s : State) (k v : ℕ) (numbers : List ℕ) : Type 0 where
  pub laid : Laid n m layout sys s numbers
  pub k_is : k ≡ length s.solved
  pub k_in : k < m
  pub v_in : v < n

pub record SolvedReady (layout : Layout) (k v : ℕ) (numbers : List ℕ) : Type 0 where
  pub n : ℕ
  pub m : ℕ
  pub sys : List Equation
  pub s : State
  pub at : SolvedAt n m layout sys s k v numbers
