-- The lazy call by computing: refusals in their order, the smallest systems, dirty areas; and isolation put to use on two builds.
use mathlib.Core.Path.{◌≡◌, refl}
use mathlib.Core.Logic.{inl, inr}
use mathlib.Core.Bool.{true}
use mathlib.Core.List.{[], ◌∷◌, ◌++◌}
use Prim.Native.Nat.{ℕ}
use lib.ListN.{get_or, replicate}
use Rattle.areas.specs.Stretch.{stretch, cleared}
use Rattle.gf2.specs.Equation.{eval_vars, lists, sym_diff}
use Rattle.gf2.specs.NumberLists.{up_from, down_from, keep, first_of}
use Rattle.gf2.specs.Ours.{any_ours, all_ours, our_part}
use Rattle.answers.specs.Calls.{refused}
use Rattle.answers.specs.Answers.{Solved, BadEntry, WrongSolution, ShortArea, Unsolvable}
use Rattle.system.specs.System.{equation_at, equations_from, climbs, starts_kept, rises_below, lowest_bad, sizes_fit, shape_kept, system_rules}
use Rattle.sparse_rules.specs.Eliminate.{summed, meeting, meet_row, outer_row, contradicted, pin, back_sub}
use Rattle.sparse_rules.proofs.CallExamples.{ours, one_build, other_build}
use Rattle.lazy.specs.Lazy.{lazy_elimination, whole_run, after, unit, pop, pop_equation, pop_variable, pop_dense, pass_over, copy, solve_for, skip, activate, lowered, pushed, added_into, dense_row, last_unit, fill, start, heaviest, listing, others}
use Rattle.lazy_calls.specs.LazyCall.{lazy_call}
use Rattle.lazy_calls.proofs.CallTheorems.{lazy_on, lazy_call_isolated}

-- equation 1 lists a variable twice: 3, though the solution and both areas are too short; without it 4; then a number and a word too few: 5
pub refusals : lazy_call 2 2 (0 ∷ 1 ∷ 3 ∷ []) (0 ∷ 1 ∷ 1 ∷ []) (5 ∷ 6 ∷ []) (8 ∷ []) [] []
    ∷ lazy_call 2 2 (0 ∷ 1 ∷ 2 ∷ []) (0 ∷ 1 ∷ []) (5 ∷ 6 ∷ []) (8 ∷ []) [] []
    ∷ lazy_call 3 2 (0 ∷ 3 ∷ 5 ∷ []) (0 ∷ 1 ∷ 2 ∷ 0 ∷ 1 ∷ []) (7 ∷ 1 ∷ []) (8 ∷ 8 ∷ 8 ∷ []) (replicate 50 9) (replicate 4 9)
    ∷ lazy_call 3 2 (0 ∷ 3 ∷ 5 ∷ []) (0 ∷ 1 ∷ 2 ∷ 0 ∷ 1 ∷ []) (7 ∷ 1 ∷ []) (8 ∷ 8 ∷ 8 ∷ []) (replicate 51 9) (replicate 3 9) ∷ []
    ≡ refused (BadEntry 1) (8 ∷ []) [] [] ∷ refused WrongSolution (8 ∷ []) [] [] ∷ refused ShortArea (8 ∷ 8 ∷ 8 ∷ []) (replicate 50 9) (replicate 4 9)
    ∷ refused ShortArea (8 ∷ 8 ∷ 8 ∷ []) (replicate 51 9) (replicate 3 9) ∷ []
unfolding lazy_call system_rules sizes_fit shape_kept starts_kept climbs rises_below lowest_bad equations_from equation_at stretch cleared lazy_elimination whole_run after unit pop pop_equation pop_variable pop_dense pass_over copy solve_for skip activate lowered pushed added_into dense_row last_unit fill start heaviest listing others up_from down_from keep first_of lists outer_row meet_row meeting summed contradicted back_sub pin sym_diff eval_vars
refusals = refl

-- neither variables nor equations: the room is two numbers; no equations: 6n + 2 of them
pub smallest : lazy_call 0 0 (0 ∷ []) [] [] [] (9 ∷ 9 ∷ 9 ∷ []) (9 ∷ []) ∷ lazy_call 2 0 (0 ∷ []) [] [] (8 ∷ 8 ∷ []) (replicate 15 9) (9 ∷ []) ∷ []
    ≡ record { answer = Solved; solution = []; numbers = 0 ∷ 0 ∷ 9 ∷ []; words = 9 ∷ [] }
    ∷ record { answer = Solved; solution = 0 ∷ 0 ∷ []; numbers = replicate 14 0 ++ (9 ∷ []); words = 9 ∷ [] } ∷ []
unfolding lazy_call system_rules sizes_fit shape_kept starts_kept climbs rises_below lowest_bad equations_from equation_at stretch cleared lazy_elimination whole_run after unit pop pop_equation pop_variable pop_dense pass_over copy solve_for skip activate lowered pushed added_into dense_row last_unit fill start heaviest listing others up_from down_from keep first_of lists outer_row meet_row meeting summed contradicted back_sub pin sym_diff eval_vars
smallest = refl

-- {0,1,2} = 7, {0,1} = 1 in exactly the room: 1 is taken, then 0 and 2 are solved
pub exact_room : lazy_call 3 2 (0 ∷ 3 ∷ 5 ∷ []) (0 ∷ 1 ∷ 2 ∷ 0 ∷ 1 ∷ []) (7 ∷ 1 ∷ []) (8 ∷ 8 ∷ 8 ∷ []) (replicate 51 9) (replicate 4 9) ≡ record { answer = Solved; solution = 1 ∷ 0 ∷ 6 ∷ []; numbers = replicate 51 0; words = replicate 4 0 }
unfolding lazy_call system_rules sizes_fit shape_kept starts_kept climbs rises_below lowest_bad equations_from equation_at stretch cleared lazy_elimination whole_run after unit pop pop_equation pop_variable pop_dense pass_over copy solve_for skip activate lowered pushed added_into dense_row last_unit fill start heaviest listing others up_from down_from keep first_of lists outer_row meet_row meeting summed contradicted back_sub pin sym_diff eval_vars
exact_room = refl

-- three empty equations, the last 0 = 4: 6, the room zero and the remainder untouched
pub dirty_unsolvable : lazy_call 0 3 (0 ∷ 0 ∷ 0 ∷ 0 ∷ []) [] (0 ∷ 0 ∷ 4 ∷ []) [] (replicate 24 9) (replicate 7 9)
    ≡ record { answer = Unsolvable; solution = []; numbers = replicate 23 0 ++ (9 ∷ []); words = replicate 6 0 ++ (9 ∷ []) }
unfolding lazy_call system_rules sizes_fit shape_kept starts_kept climbs rises_below lowest_bad equations_from equation_at stretch cleared lazy_elimination whole_run after unit pop pop_equation pop_variable pop_dense pass_over copy solve_for skip activate lowered pushed added_into dense_row last_unit fill start heaviest listing others up_from down_from keep first_of lists outer_row meet_row meeting summed contradicted back_sub pin sym_diff eval_vars
dirty_unsolvable = refl

-- isolation, put to use on the two builds of the sparse call's example
pub lazy_ours : (v : ℕ) → ours v ≡ true → get_or (lazy_on 4 one_build).solution v 0 ≡ get_or (lazy_on 4 other_build).solution v 0
unfolding any_ours all_ours our_part lazy_call system_rules sizes_fit shape_kept starts_kept climbs rises_below lowest_bad equations_from equation_at stretch cleared lazy_elimination whole_run after unit pop pop_equation pop_variable pop_dense pass_over copy solve_for skip activate lowered pushed added_into dense_row last_unit fill start heaviest listing others up_from down_from keep first_of lists outer_row meet_row meeting summed contradicted back_sub pin sym_diff eval_vars
lazy_ours = lazy_call_isolated ours 4 one_build other_build (inl refl, (inr refl, tt)) (inr refl, (inl refl, (inr refl, (inr refl, (inr refl, tt))))) refl refl refl
