-- The picture of a small start, computed: {0,1} = 1, {0,2} = 2 over three variables.
use mathlib.Core.Path.{◌≡◌, refl}
use mathlib.Core.List.{[], ◌∷◌, ◌++◌}
use lib.ListN.{replicate}
use Rattle.gf2.specs.Equation.{eqn, lists}
use Rattle.gf2.specs.NumberLists.{up_from, down_from, keep}
use Rattle.areas.specs.Rows.{padded, laid}
use Rattle.areas.specs.Segments.{joined}
use Rattle.lazy.specs.Lazy.{start, listing, heaviest}
use Rattle.lazy_setup.specs.Area.{segments, numbers_of, words_of, lists_from, starts_from}

-- rows, lengths, lists, starts, weight, variables, idle, position, priority, equations, solved, pivots, count, dense part
pub numbers_P5 : numbers_of 3 (eqn (0 ∷ 1 ∷ []) 1 ∷ eqn (0 ∷ 2 ∷ []) 2 ∷ []) (start 3 (eqn (0 ∷ 1 ∷ []) 1 ∷ eqn (0 ∷ 2 ∷ []) 2 ∷ []))
    ≡ 0 ∷ 1 ∷ 0 ∷ 0 ∷ 2 ∷ 0 ∷ 2 ∷ 2 ∷ 0 ∷ 1 ∷ 0 ∷ 1 ∷ 0 ∷ 2 ∷ 3 ∷ 4 ∷ 2 ∷ 1 ∷ 1 ∷ 1 ∷ 2 ∷ 0 ∷ 1 ∷ 1 ∷ 1 ∷ replicate 3 0 ++ 2 ∷ 2 ∷ replicate 20 0
unfolding numbers_of joined segments start listing heaviest lists_from starts_from padded laid keep up_from down_from lists
numbers_P5 = refl

pub words_P5 : words_of (eqn (0 ∷ 1 ∷ []) 1 ∷ eqn (0 ∷ 2 ∷ []) 2 ∷ []) (start 3 (eqn (0 ∷ 1 ∷ []) 1 ∷ eqn (0 ∷ 2 ∷ []) 2 ∷ [])) ≡ 1 ∷ 2 ∷ 0 ∷ 0 ∷ []
unfolding words_of start padded
words_P5 = refl
