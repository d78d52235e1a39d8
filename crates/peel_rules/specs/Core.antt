-- The core: the largest set of edges in which every vertex touched is touched twice or more.
use Rattle.std.specs.Prelude.{◌≡◌, List, [], ◌∷◌, Bool, true, cond, ℕ, ◌≤◌, ◌<◌, length}
use Rattle.peeling.specs.declared.numbers.Edge.{Edge}
use Rattle.peel_rules.specs.Edges.{degree}

-- every vertex touched is touched twice or more
abbrev pub Tight : List Edge → Type 0
Tight es = (w : ℕ) → 0 < degree w es → 2 ≤ degree w es

-- a set of edges: for each edge of the list, whether it is in
unfoldable pub pick : List Bool → List Edge → List Edge
pick [] es = []
pick (b ∷ bs) [] = []
pick (b ∷ bs) (e ∷ es) = cond b (e ∷ pick bs es) (pick bs es)

-- one set lies in another
abbrev pub Within : List Bool → List Bool → Type 0
Within [] [] = Unit {0}
Within [] (c ∷ cs) = ⊥
Within (b ∷ bs) [] = ⊥
Within (b ∷ bs) (c ∷ cs) = (b ≡ true → c ≡ true) × Within bs cs

-- the largest such set
pub record Core (es : List Edge) (core : List Bool) : Type 0 where
  pub size : length core ≡ length es
  pub tight : Tight (pick core es)
  pub largest : (bs : List Bool) → length bs ≡ length es → Tight (pick bs es) → Within bs core
