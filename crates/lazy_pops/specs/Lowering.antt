-- To lower priorities in one area: a list of equations, the priorities and the equation list stand in it, not touching.
use Rattle.std.specs.Prelude.{◌≡◌, List, [], ◌∷◌, reverse, not, cond, ℕ, pred, ◌+◌, ◌-◌, ◌≤◌, ◌<◌, length, get_or, set, eqb}
use Rattle.areas.specs.Stretch.{stretch, put}
use Rattle.gf2.specs.NumberLists.{keep}
use Rattle.lazy.specs.Lazy.{lowered, pushed}

-- the list without equation e
abbrev pub but : ℕ → List ℕ → List ℕ
but e es = keep (λ f. not (eqb f e)) es

-- each of the equations has a priority, and has 1 to lose when its turn comes
abbrev pub Lowers : List ℕ → List ℕ → Type 0
Lowers [] priority = Unit {0}
Lowers (e ∷ es) priority = (e < length priority) × (1 ≤ get_or priority e 0) × Lowers es (set priority e (pred (get_or priority e 0)))

-- what is lowered: the `count` equations from `list` on, without one
abbrev pub lowers_of : List ℕ → ℕ → ℕ → ℕ → List ℕ
lowers_of area list count skip = but skip (stretch list count area)

-- the equation list, its top first
abbrev pub stack_in : List ℕ → ℕ → ℕ → List ℕ
stack_in area stack top = reverse (stretch stack top area)

pub record LowerFits (area : List ℕ) (list count skip prio m stack top : ℕ) : Type 0 where
  pub list_first : list + count ≤ prio
  pub prio_next : prio + m ≤ stack
  pub stack_last : stack + m ≤ length area
  pub top_in : top ≤ m
  pub can : Lowers (lowers_of area list count skip) (stretch prio m area)
  pub room : length (pushed (lowers_of area list count skip) (stretch prio m area) (stack_in area stack top)) ≤ m

-- the priorities lowered, and what is on the equation list then
abbrev pub now_pushed : List ℕ → ℕ → ℕ → ℕ → ℕ → ℕ → ℕ → ℕ → List ℕ
now_pushed area list count skip prio m stack top = pushed (lowers_of area list count skip) (stretch prio m area) (stack_in area stack top)

abbrev pub lowered_in : List ℕ → ℕ → ℕ → ℕ → ℕ → ℕ → ℕ → ℕ → List ℕ
lowered_in area list count skip prio m stack top =
    put prio (lowered (lowers_of area list count skip) (stretch prio m area)) (put stack (reverse (now_pushed area list count skip prio m stack top)) area)

-- one equation of priority p loses 1, and is pushed on reaching 1
abbrev pub lower_one : List ℕ → ℕ → ℕ → ℕ → ℕ → List ℕ
lower_one area prio stack top e =
    let less = set area (prio + e) (get_or area (prio + e) 0 - 1) in
    cond (eqb (get_or area (prio + e) 0) 2) (set less (stack + top) e) less

abbrev pub top_after : List ℕ → ℕ → ℕ → ℕ → ℕ
top_after area prio top e = cond (eqb (get_or area (prio + e) 0) 2) (top + 1) top

pub record LowerOneFits (area : List ℕ) (prio stack top e : ℕ) : Type 0 where
  pub inside : prio + e < length area
  pub some : 1 ≤ get_or area (prio + e) 0
  pub place : get_or area (prio + e) 0 ≡ 2 → stack + top < length area
