-- The sparse call by computing: refusals in their order, the smallest systems, dirty areas; and isolation put to use on two builds.
use mathlib.Core.Path.{◌≡◌, refl}
use mathlib.Core.Logic.{inl, inr}
use mathlib.Core.List.{[], ◌∷◌}
use mathlib.Core.Bool.{Bool, true}
use Prim.Native.Nat.{ℕ}
use lib.ListN.{get_or, replicate}
use lib.Dec.{ltb}
use Rattle.areas.specs.Stretch.{stretch, cleared}
use Rattle.gf2.specs.Equation.{eval_vars, sym_diff}
use Rattle.gf2.specs.Ours.{any_ours, all_ours, our_part}
use Rattle.answers.specs.Calls.{refused}
use Rattle.answers.specs.Answers.{Solved, BadEntry, WrongSolution, ShortArea, Unsolvable}
use Rattle.system.specs.System.{equation_at, equations_from, climbs, starts_kept, rises_below, lowest_bad, sizes_fit, shape_kept, system_rules}
use Rattle.system.proofs.SolverCalls.{Lent}
use Rattle.sparse_rules.specs.Eliminate.{summed, meeting, meet_row, outer_row, outer_rows, echelon_form, contradicted, pin, back_sub, finish, gaussian_elimination}
use Rattle.sparse_rules.specs.SparseCall.{sparse_call}
use Rattle.sparse_rules.proofs.CallTheorems.{sparse_on, sparse_call_isolated}

-- equation 1 lists a variable twice: 3, though the solution and both areas are too short; without it 4; then a number and a word too few: 5
pub refusals : sparse_call 2 2 (0 ∷ 1 ∷ 3 ∷ []) (0 ∷ 1 ∷ 1 ∷ []) (5 ∷ 6 ∷ []) (8 ∷ []) [] []
    ∷ sparse_call 2 2 (0 ∷ 1 ∷ 2 ∷ []) (0 ∷ 1 ∷ []) (5 ∷ 6 ∷ []) (8 ∷ []) [] []
    ∷ sparse_call 2 2 (0 ∷ 1 ∷ 2 ∷ []) (0 ∷ 1 ∷ []) (5 ∷ 6 ∷ []) (8 ∷ 8 ∷ []) (replicate 7 9) (9 ∷ 9 ∷ [])
    ∷ sparse_call 2 2 (0 ∷ 1 ∷ 2 ∷ []) (0 ∷ 1 ∷ []) (5 ∷ 6 ∷ []) (8 ∷ 8 ∷ []) (replicate 8 9) (9 ∷ []) ∷ []
    ≡ refused (BadEntry 1) (8 ∷ []) [] [] ∷ refused WrongSolution (8 ∷ []) [] [] ∷ refused ShortArea (8 ∷ 8 ∷ []) (replicate 7 9) (9 ∷ 9 ∷ [])
    ∷ refused ShortArea (8 ∷ 8 ∷ []) (replicate 8 9) (9 ∷ []) ∷ []
unfolding sparse_call system_rules sizes_fit shape_kept starts_kept climbs rises_below lowest_bad equations_from equation_at stretch cleared gaussian_elimination echelon_form outer_rows outer_row meet_row meeting summed sym_diff contradicted finish back_sub pin eval_vars
refusals = refl

-- neither variables nor equations: the room is nothing, so nothing is written; no equations: n numbers
pub smallest : sparse_call 0 0 (0 ∷ []) [] [] [] (9 ∷ 9 ∷ []) (9 ∷ []) ∷ sparse_call 3 0 (0 ∷ []) [] [] (8 ∷ 8 ∷ 8 ∷ []) (9 ∷ 9 ∷ 9 ∷ 9 ∷ []) (9 ∷ []) ∷ []
    ≡ record { answer = Solved; solution = []; numbers = 9 ∷ 9 ∷ []; words = 9 ∷ [] }
    ∷ record { answer = Solved; solution = 0 ∷ 0 ∷ 0 ∷ []; numbers = 0 ∷ 0 ∷ 0 ∷ 9 ∷ []; words = 9 ∷ [] } ∷ []
unfolding sparse_call system_rules sizes_fit shape_kept starts_kept climbs rises_below lowest_bad equations_from equation_at stretch cleared gaussian_elimination echelon_form outer_rows outer_row meet_row meeting summed sym_diff contradicted finish back_sub pin eval_vars
smallest = refl

-- {0} = 5, {1} = 6 in exactly the room
pub exact_room : sparse_call 2 2 (0 ∷ 1 ∷ 2 ∷ []) (0 ∷ 1 ∷ []) (5 ∷ 6 ∷ []) (8 ∷ 8 ∷ []) (replicate 8 9) (9 ∷ 9 ∷ []) ≡ record { answer = Solved; solution = 5 ∷ 6 ∷ []; numbers = replicate 8 0; words = 0 ∷ 0 ∷ [] }
unfolding sparse_call system_rules sizes_fit shape_kept starts_kept climbs rises_below lowest_bad equations_from equation_at stretch cleared gaussian_elimination echelon_form outer_rows outer_row meet_row meeting summed sym_diff contradicted finish back_sub pin eval_vars
exact_room = refl

-- {0,1} = 5, {0} = 1, {1} = 1: 6, the solution as lent, the room zero and the remainder untouched
pub dirty_unsolvable : sparse_call 2 3 (0 ∷ 2 ∷ 3 ∷ 4 ∷ []) (0 ∷ 1 ∷ 0 ∷ 1 ∷ []) (5 ∷ 1 ∷ 1 ∷ []) (8 ∷ 7 ∷ []) (replicate 13 9) (replicate 5 9)
    ≡ record { answer = Unsolvable; solution = 8 ∷ 7 ∷ []; numbers = 0 ∷ 0 ∷ 0 ∷ 0 ∷ 0 ∷ 0 ∷ 0 ∷ 0 ∷ 0 ∷ 0 ∷ 0 ∷ 9 ∷ 9 ∷ []; words = 0 ∷ 0 ∷ 0 ∷ 9 ∷ 9 ∷ [] }
unfolding sparse_call system_rules sizes_fit shape_kept starts_kept climbs rises_below lowest_bad equations_from equation_at stretch cleared gaussian_elimination echelon_form outer_rows outer_row meet_row meeting summed sym_diff contradicted finish back_sub pin eval_vars
dirty_unsolvable = refl

-- ---- isolation, put to use

-- the variables 0 and 1 are ours
abbrev pub ours : ℕ → Bool
ours v = ltb v 2

-- ours: {0,1} = 5; behind it {2,3} = 1. The areas are enough for lazy elimination too
abbrev pub one_build : Lent
one_build = record {
  m = 2;
  starts = 0 ∷ 2 ∷ 4 ∷ [];
  vars = 0 ∷ 1 ∷ 2 ∷ 3 ∷ [];
  constants = 5 ∷ 1 ∷ [];
  solution = 8 ∷ 8 ∷ 8 ∷ 8 ∷ [];
  numbers = replicate 90 9;
  words = replicate 9 9;
}

-- the same equation of ours; before it {2} = 7, behind it {} = 0, {3} = 2 and {2,3} = 5
abbrev pub other_build : Lent
other_build = record {
  m = 5;
  starts = 0 ∷ 1 ∷ 3 ∷ 3 ∷ 4 ∷ 6 ∷ [];
  vars = 2 ∷ 0 ∷ 1 ∷ 3 ∷ 2 ∷ 3 ∷ [];
  constants = 7 ∷ 5 ∷ 0 ∷ 2 ∷ 5 ∷ [];
  solution = 7 ∷ 7 ∷ 7 ∷ 7 ∷ [];
  numbers = replicate 120 6;
  words = replicate 11 6;
}

pub sparse_ours : (v : ℕ) → ours v ≡ true → get_or (sparse_on 4 one_build).solution v 0 ≡ get_or (sparse_on 4 other_build).solution v 0
unfolding any_ours all_ours our_part sparse_call system_rules sizes_fit shape_kept starts_kept climbs rises_below lowest_bad equations_from equation_at stretch cleared gaussian_elimination echelon_form outer_rows outer_row meet_row meeting summed sym_diff contradicted finish back_sub pin eval_vars
sparse_ours = sparse_call_isolated ours 4 one_build other_build (inl refl, (inr refl, tt)) (inr refl, (inl refl, (inr refl, (inr refl, (inr refl, tt))))) refl refl refl
