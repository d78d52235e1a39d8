-- The areas before and after a pop.
use Rattle.std.specs.Prelude.{◌≡◌, List, [], ◌∷◌, ℕ, ◌≤◌, ◌<◌, get_or}
use Rattle.gf2.specs.Equation.{Equation}
use Rattle.gf2.specs.Result.{Result, unsolvable, ok}
use Rattle.answers.specs.Sizes.{max_variables}
use Rattle.lazy.specs.Invariant.{Lent, Inv}
use Rattle.lazy.specs.Lazy.{State, pass_over}
use Rattle.lazy_setup.specs.declared.Layout.{Layout}
use Rattle.lazy_setup.specs.declared.Stand.{Stand}
use Rattle.lazy_setup.specs.Area.{words_of}
use Rattle.lazy_setup.specs.Layout.{stand_of}
use Rattle.lazy_pops.specs.Step.{Step}
use Rattle.lazy_pops.specs.Step.{More, Solved, Unsolvable}
use Rattle.lazy_pops.specs.Laid.{Laid}

-- the numbers show the state, and the stand says how far its lists reach
pub record Shows (n m : ℕ) (layout : Layout) (sys : List Equation) (s : State) (stand : Stand) (numbers : List ℕ) : Type 0 where
  pub laid : Laid n m layout sys s numbers
  pub counted : stand ≡ stand_of s

-- .. and it is a state of the lazy rules in which equations remain
pub record Popping (n m : ℕ) (layout : Layout) (sys : List Equation) (s : State) (stand : Stand) (numbers : List ℕ) : Type 0 where
  pub shows : Shows n m layout sys s stand numbers
  pub lent : Lent n sys
  pub inv : Inv n sys s
  pub some : 0 < s.remaining

-- v is the next variable, and vs are left
pub record VariableAt (n m : ℕ) (layout : Layout) (sys : List Equation) (s : State) (v : ℕ) (vs : List ℕ) (stand : Stand) (numbers : List ℕ) : Type 0 where
  pub popping : Popping n m layout sys s stand numbers
  pub none : s.equations ≡ []
  pub next : s.variables ≡ v ∷ vs

pub record VariableReady (m : ℕ) (layout : Layout) (stand : Stand) (numbers : List ℕ) : Type 0 where
  pub n : ℕ
  pub sys : List Equation
  pub s : State
  pub v : ℕ
  pub vs : List ℕ
  pub at : VariableAt n m layout sys s v vs stand numbers

-- a pop that refuses leaves a picture of some state
pub record Stopped (n m : ℕ) (layout : Layout) (sys : List Equation) (numbers : List ℕ) : Type 0 where
  pub s : State
  pub laid : Laid n m layout sys s numbers

-- what a pop leaves
abbrev pub After : ℕ → ℕ → Layout → List Equation → Result State → Step → List ℕ → List ℕ → Type 0
After n m layout sys (ok s) (More stand) numbers words = Shows n m layout sys s stand numbers × (words ≡ words_of sys s)
After n m layout sys (ok s) Solved numbers words = ⊥
After n m layout sys (ok s) Unsolvable numbers words = ⊥
After n m layout sys unsolvable (More stand) numbers words = ⊥
After n m layout sys unsolvable Solved numbers words = ⊥
After n m layout sys unsolvable Unsolvable numbers words = Stopped n m layout sys numbers

-- equation e, of priority p, was popped in state s, and es are left
pub record EquationAt (n m : ℕ) (layout : Layout) (sys : List Equation) (s : State) (e : ℕ) (es : List ℕ) (p : ℕ) (stand : Stand) (numbers words : List ℕ) : Type 0 where
  pub shows : Shows n m layout sys (pass_over es s) stand numbers
  pub words_are : words ≡ words_of sys s
  pub lent : Lent n sys
  pub inv : Inv n sys s
  pub next : s.equations ≡ e ∷ es
  pub priority : get_or s.priority e 0 ≡ p
  pub small : n ≤ max_variables

pub record DenseReady (n m : ℕ) (layout : Layout) (stand : Stand) (e : ℕ) (numbers words : List ℕ) : Type 0 where
  pub sys : List Equation
  pub s : State
  pub es : List ℕ
  pub at : EquationAt n m layout sys s e es 0 stand numbers words

pub record SolveReady (n m : ℕ) (layout : Layout) (stand : Stand) (e : ℕ) (numbers words : List ℕ) : Type 0 where
  pub sys : List Equation
  pub s : State
  pub es : List ℕ
  pub at : EquationAt n m layout sys s e es 1 stand numbers words

pub record SolveDone (n m : ℕ) (layout : Layout) (sys : List Equation) (s' : State) (stand' : Stand) (numbers' words' : List ℕ) : Type 0 where
  pub shows : Shows n m layout sys s' stand' numbers'
  pub words_are : words' ≡ words_of sys s'

-- a pop can be made
pub record PopAt (n m : ℕ) (layout : Layout) (sys : List Equation) (s : State) (stand : Stand) (numbers words : List ℕ) : Type 0 where
  pub popping : Popping n m layout sys s stand numbers
  pub words_are : words ≡ words_of sys s
  pub small : n ≤ max_variables

pub record PopReady (n m : ℕ) (layout : Layout) (stand : Stand) (numbers words : List ℕ) : Type 0 where
  pub sys : List Equation
  pub s : State
  pub at : PopAt n m layout sys s stand numbers words
