-- The run as units.
use Rattle.std.specs.Prelude.{◌≡◌, List, ℕ, ◌+◌, ◌-◌, ◌<◌}
use Rattle.gf2.specs.Equation.{Equation}
use Rattle.gf2.specs.Result.{Result, unsolvable, ok}
use Rattle.answers.specs.Answers.{Answer}
use Rattle.answers.specs.Answers.{Solved, Unsolvable}
use Rattle.lazy.specs.Lazy.{State, more, after, answer_of}
use Rattle.lazy.specs.Cancelled.{after_cancels}
use Rattle.lazy_setup.specs.declared.Layout.{Layout}
use Rattle.lazy_setup.specs.declared.Stand.{Stand}
use Rattle.lazy_units.specs.Tidy.{Tidy}
use Rattle.lazy_units.specs.Units.{left}
use Rattle.lazy_units.specs.Ending.{UnitAt}

-- how many units a stand leaves at the most, but for the last one
abbrev pub left_of : Stand → ℕ
left_of stand = stand.remaining + stand.variables + (stand.remaining + (stand.dense - stand.done))

-- what a build answers, and what it leaves in the solution
abbrev pub Answers : Result (List ℕ) → Answer → List ℕ → List ℕ → Type 0
Answers unsolvable answer solution solution' = (answer ≡ Unsolvable) × (solution' ≡ solution)
Answers (ok x) answer solution solution' = (answer ≡ Solved) × (solution' ≡ x)

-- the build ended as the rules end it, with its rows padded
abbrev pub Ran : ℕ → ℕ → Layout → Stand → List ℕ → List ℕ → List ℕ → List ℕ → List ℕ → Answer → Type 0
Ran n m layout stand numbers words solution solution' numbers' answer =
    (sys : List Equation) (s : State) → UnitAt n m layout sys s stand numbers words solution
    → Tidy n m layout numbers' × ((k : ℕ) → left s < k → Answers (answer_of (after k n sys (more s))) answer solution solution')

-- .. and so many variables cancelled in the sums of all its units
abbrev pub RanCount : ℕ → ℕ → Layout → Stand → List ℕ → List ℕ → List ℕ → ℕ → Type 0
RanCount n m layout stand numbers words solution t =
    (sys : List Equation) (s : State) → UnitAt n m layout sys s stand numbers words solution
    → (k : ℕ) → left s < k → t ≡ after_cancels k n sys (more s)
