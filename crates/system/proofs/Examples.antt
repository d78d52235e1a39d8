-- The rules at the largest sizes and one past them, by computing.
use mathlib.Core.Path.{◌≡◌, refl}
use mathlib.Core.List.{[], ◌∷◌}
use Prim.Native.Nat.{◌+◌}
use lib.ListN.{replicate}
use Rattle.answers.specs.Sizes.{max_variables, max_equations, max_listed}
use Rattle.answers.specs.Answers.{TooLarge, BadShape}
use Rattle.answers.specs.Answers.{Kept, Broken}
use Rattle.system.specs.System.{equations_from, climbs, starts_kept, lowest_bad, sizes_fit, shape_kept, system_rules}

-- the largest n is kept, one more is 1; the largest m and t come to the shape, which is wrong here, one more of either is 1
pub largest : system_rules max_variables 0 (0 ∷ []) [] [] ∷ system_rules (max_variables + 1) 0 (0 ∷ []) [] []
    ∷ system_rules 0 max_equations [] [] [] ∷ system_rules 0 (max_equations + 1) [] [] []
    ∷ system_rules 0 0 [] (replicate max_listed 0) [] ∷ system_rules 0 0 [] (replicate (max_listed + 1) 0) [] ∷ []
    ≡ Kept ∷ Broken TooLarge ∷ Broken BadShape ∷ Broken TooLarge ∷ Broken BadShape ∷ Broken TooLarge ∷ []
unfolding system_rules sizes_fit shape_kept starts_kept climbs lowest_bad equations_from
largest = refl
