-- `check` on small systems, by computing.
use mathlib.Core.Path.{◌≡◌, refl}
use mathlib.Core.List.{List, [], ◌∷◌}
use Prim.Native.Nat.{ℕ, ◌+◌}
use Rattle.gf2.specs.Equation.{eval_vars, eqn}
use Rattle.areas.specs.Stretch.{stretch}
use Rattle.answers.specs.Sizes.{max_variables, max_equations}
use Rattle.answers.specs.Answers.{TooLarge, BadShape, BadEntry, WrongSolution}
use Rattle.system.specs.System.{equation_at, equations_from, equations, climbs, starts_kept, rises_below, lowest_bad, sizes_fit, shape_kept, system_rules}
use Rattle.system_check.specs.CheckCall.{Refused, Yes, No, all_met, check_call}

-- P3: {0,1} = 5, {1,2} = 3, {0,2} = 6
abbrev starts₃ : List ℕ
starts₃ = 0 ∷ 2 ∷ 4 ∷ 6 ∷ []

abbrev vars₃ : List ℕ
vars₃ = 0 ∷ 1 ∷ 1 ∷ 2 ∷ 0 ∷ 2 ∷ []

abbrev constants₃ : List ℕ
constants₃ = 5 ∷ 3 ∷ 6 ∷ []

read : equations 3 starts₃ vars₃ constants₃ ≡ eqn (0 ∷ 1 ∷ []) 5 ∷ eqn (1 ∷ 2 ∷ []) 3 ∷ eqn (0 ∷ 2 ∷ []) 6 ∷ []
unfolding equation_at equations_from stretch
read = refl

-- P3 with its solution, and with one value changed
p3 : check_call 3 3 starts₃ vars₃ constants₃ (6 ∷ 3 ∷ 0 ∷ []) ∷ check_call 3 3 starts₃ vars₃ constants₃ (6 ∷ 3 ∷ 1 ∷ []) ∷ [] ≡ Yes ∷ No ∷ []
unfolding equation_at equations_from stretch climbs starts_kept rises_below lowest_bad sizes_fit shape_kept system_rules all_met check_call eval_vars
p3 = refl

-- no equations; an empty equation with constant 0, and with constant 1
empty : check_call 2 0 (0 ∷ []) [] [] (7 ∷ 8 ∷ []) ∷ check_call 0 1 (0 ∷ 0 ∷ []) [] (0 ∷ []) [] ∷ check_call 0 1 (0 ∷ 0 ∷ []) [] (1 ∷ []) [] ∷ [] ≡ Yes ∷ Yes ∷ No ∷ []
unfolding equation_at equations_from stretch climbs starts_kept rises_below lowest_bad sizes_fit shape_kept system_rules all_met check_call eval_vars
empty = refl

-- 1, even where the shape is wrong too: n, then m
too_large : check_call (max_variables + 1) 2 [] [] [] [] ∷ check_call 0 (max_equations + 1) [] [] [] [] ∷ [] ≡ Refused TooLarge ∷ Refused TooLarge ∷ []
unfolding sizes_fit system_rules check_call
too_large = refl

-- 2: no start, a first start that is not 0, falling starts, a last start that is not t, a constant too few; even where an entry is wrong too
bad_shape : check_call 2 0 [] [] [] [] ∷ check_call 2 1 (1 ∷ 2 ∷ []) (0 ∷ 9 ∷ []) (5 ∷ []) [] ∷ check_call 2 2 (0 ∷ 3 ∷ 2 ∷ []) (0 ∷ 1 ∷ []) (5 ∷ 6 ∷ []) [] ∷ check_call 2 1 (0 ∷ 1 ∷ []) (0 ∷ 1 ∷ []) (5 ∷ []) [] ∷ check_call 2 1 (0 ∷ 2 ∷ []) (0 ∷ 1 ∷ []) [] [] ∷ [] ≡ Refused BadShape ∷ Refused BadShape ∷ Refused BadShape ∷ Refused BadShape ∷ Refused BadShape ∷ []
unfolding climbs starts_kept sizes_fit shape_kept system_rules check_call
bad_shape = refl

-- 3: a variable that is n in equation 1, equal neighbours there, falling ones there, and the lower of two; even where the solution is wrong too
bad_entry : check_call 3 2 (0 ∷ 2 ∷ 4 ∷ []) (0 ∷ 1 ∷ 1 ∷ 3 ∷ []) (5 ∷ 6 ∷ []) [] ∷ check_call 3 2 (0 ∷ 2 ∷ 4 ∷ []) (0 ∷ 1 ∷ 2 ∷ 2 ∷ []) (5 ∷ 6 ∷ []) [] ∷ check_call 3 2 (0 ∷ 2 ∷ 4 ∷ []) (0 ∷ 1 ∷ 2 ∷ 1 ∷ []) (5 ∷ 6 ∷ []) [] ∷ check_call 3 3 (0 ∷ 1 ∷ 2 ∷ 3 ∷ []) (0 ∷ 3 ∷ 9 ∷ []) (5 ∷ 6 ∷ 7 ∷ []) [] ∷ [] ≡ Refused (BadEntry 1) ∷ Refused (BadEntry 1) ∷ Refused (BadEntry 1) ∷ Refused (BadEntry 1) ∷ []
unfolding equation_at equations_from stretch climbs starts_kept rises_below lowest_bad sizes_fit shape_kept system_rules check_call
bad_entry = refl

-- 4: a solution that is too short, and one that is too long
wrong_solution : check_call 3 3 starts₃ vars₃ constants₃ (6 ∷ 3 ∷ []) ∷ check_call 3 3 starts₃ vars₃ constants₃ (6 ∷ 3 ∷ 0 ∷ 0 ∷ []) ∷ [] ≡ Refused WrongSolution ∷ Refused WrongSolution ∷ []
unfolding equation_at equations_from stretch climbs starts_kept rises_below lowest_bad sizes_fit shape_kept system_rules check_call
wrong_solution = refl
