-- Sums on the workbench, computed by the definition: what a call answers, and what it leaves in every lent cell; refusals in their order; and
-- isolation put to use on two builds.
use mathlib.Core.Path.{◌≡◌, refl}
use mathlib.Core.Logic.{inl, inr}
use mathlib.Core.Bool.{Bool, true}
use mathlib.Core.List.{[], ◌∷◌, ◌++◌}
use Prim.Native.Nat.{ℕ, ◌+◌, ◌-◌, ◌^◌}
use lib.ListN.{get_or, replicate}
use lib.Dec.{ltb}
use Rattle.areas.specs.Stretch.{stretch, put, cleared}
use Rattle.gf2.specs.Equation.{eval_vars}
use Rattle.gf2.specs.Ours.{any_ours, all_ours, our_part}
use Rattle.answers.specs.Calls.{refused}
use Rattle.answers.specs.Sizes.{max_variables, max_equations, max_row_words}
use Rattle.answers.specs.Answers.{Solved, TooLarge, BadShape, BadEntry, WrongSolution, ShortArea, Unsolvable}
use Rattle.answers.specs.Answers.{Kept, Broken}
use Rattle.dense_rows.specs.Bits.{bit_at, columns_from, empty_from, xor_words}
use Rattle.dense_rows.specs.Rows.{row_at, rows_from}
use Rattle.dense_rows.specs.Steps.{pivot_from, from_word, swap_rows, xor_from, clear_row}
use Rattle.dense_walk.specs.Eliminate.{topped, column, walk, residue, pin, back_sub, finish, dense_elimination}
use Rattle.dense_rows.specs.Rules.{row_rules, dense_rules}
use Rattle.dense.specs.Call.{dense_call}
use Rattle.dense.proofs.CallTheorems.{DenseLent, dense_on, dense_call_isolated}

-- P1: n 3, no equations
p1 : dense_call 3 0 1 [] [] (8 ∷ 8 ∷ 8 ∷ []) (9 ∷ []) (9 ∷ []) ≡ record { answer = Solved; solution = 0 ∷ 0 ∷ 0 ∷ []; numbers = 9 ∷ []; words = 9 ∷ [] }
unfolding stretch put cleared eval_vars bit_at columns_from empty_from xor_words row_at rows_from pivot_from from_word swap_rows xor_from clear_row topped column walk residue pin back_sub finish dense_elimination row_rules dense_rules dense_call
p1 = refl

-- P2: n 0, one empty equation, constant 0; a row of no words
p2_solved : dense_call 0 1 0 [] (0 ∷ []) [] (9 ∷ []) (9 ∷ 9 ∷ []) ≡ record { answer = Solved; solution = []; numbers = 0 ∷ []; words = 0 ∷ 9 ∷ [] }
unfolding stretch put cleared eval_vars bit_at columns_from empty_from xor_words row_at rows_from pivot_from from_word swap_rows xor_from clear_row topped column walk residue pin back_sub finish dense_elimination row_rules dense_rules dense_call
p2_solved = refl

-- P2 with constant 1
p2_refused : dense_call 0 1 0 [] (1 ∷ []) [] (9 ∷ []) (9 ∷ 9 ∷ []) ≡ record { answer = Unsolvable; solution = []; numbers = 0 ∷ []; words = 0 ∷ 9 ∷ [] }
unfolding stretch put cleared eval_vars bit_at columns_from empty_from xor_words row_at rows_from pivot_from from_word swap_rows xor_from clear_row topped column walk residue pin back_sub finish dense_elimination row_rules dense_rules dense_call
p2_refused = refl

-- P3: {0,1} = 5, {1,2} = 3, {0,2} = 6
p3 : dense_call 3 3 1 (3 ∷ 6 ∷ 5 ∷ []) (5 ∷ 3 ∷ 6 ∷ []) (8 ∷ 8 ∷ 8 ∷ []) (9 ∷ 9 ∷ 9 ∷ 9 ∷ []) (9 ∷ 9 ∷ 9 ∷ 9 ∷ 9 ∷ 9 ∷ 9 ∷ []) ≡ record { answer = Solved; solution = 6 ∷ 3 ∷ 0 ∷ []; numbers = 0 ∷ 0 ∷ 0 ∷ 9 ∷ []; words = 0 ∷ 0 ∷ 0 ∷ 0 ∷ 0 ∷ 0 ∷ 9 ∷ [] }
unfolding stretch put cleared eval_vars bit_at columns_from empty_from xor_words row_at rows_from pivot_from from_word swap_rows xor_from clear_row topped column walk residue pin back_sub finish dense_elimination row_rules dense_rules dense_call
p3 = refl

-- P4: the last constant 7; the solution stays as lent
p4 : dense_call 3 3 1 (3 ∷ 6 ∷ 5 ∷ []) (5 ∷ 3 ∷ 7 ∷ []) (8 ∷ 8 ∷ 8 ∷ []) (9 ∷ 9 ∷ 9 ∷ 9 ∷ []) (9 ∷ 9 ∷ 9 ∷ 9 ∷ 9 ∷ 9 ∷ 9 ∷ []) ≡ record { answer = Unsolvable; solution = 8 ∷ 8 ∷ 8 ∷ []; numbers = 0 ∷ 0 ∷ 0 ∷ 9 ∷ []; words = 0 ∷ 0 ∷ 0 ∷ 0 ∷ 0 ∷ 0 ∷ 9 ∷ [] }
unfolding stretch put cleared eval_vars bit_at columns_from empty_from xor_words row_at rows_from pivot_from from_word swap_rows xor_from clear_row topped column walk residue pin back_sub finish dense_elimination row_rules dense_rules dense_call
p4 = refl

-- P9: n 2, one row with the bits 0 and 1, constant 7
p9 : dense_call 2 1 1 (3 ∷ []) (7 ∷ []) (8 ∷ 8 ∷ []) (9 ∷ 9 ∷ []) (9 ∷ 9 ∷ 9 ∷ []) ≡ record { answer = Solved; solution = 7 ∷ 0 ∷ []; numbers = 0 ∷ 9 ∷ []; words = 0 ∷ 0 ∷ 9 ∷ [] }
unfolding stretch put cleared eval_vars bit_at columns_from empty_from xor_words row_at rows_from pivot_from from_word swap_rows xor_from clear_row topped column walk residue pin back_sub finish dense_elimination row_rules dense_rules dense_call
p9 = refl

-- n 64, w 1, bit 63, constant 9: x63 is 9
bit_63 : dense_call 64 1 1 (2 ^ 63 ∷ []) (9 ∷ []) (replicate 64 8) (9 ∷ []) (9 ∷ 9 ∷ []) ≡ record { answer = Solved; solution = replicate 63 0 ++ (9 ∷ []); numbers = 0 ∷ []; words = 0 ∷ 0 ∷ [] }
unfolding stretch put cleared eval_vars bit_at columns_from empty_from xor_words row_at rows_from pivot_from from_word swap_rows xor_from clear_row topped column walk residue pin back_sub finish dense_elimination row_rules dense_rules dense_call
bit_63 = refl

-- n 65, w 2, bit 64: x64 is 9
bit_64 : dense_call 65 1 2 (0 ∷ 1 ∷ []) (9 ∷ []) (replicate 65 8) (9 ∷ []) (9 ∷ 9 ∷ 9 ∷ []) ≡ record { answer = Solved; solution = replicate 64 0 ++ (9 ∷ []); numbers = 0 ∷ []; words = 0 ∷ 0 ∷ 0 ∷ [] }
unfolding stretch put cleared eval_vars bit_at columns_from empty_from xor_words row_at rows_from pivot_from from_word swap_rows xor_from clear_row topped column walk residue pin back_sub finish dense_elimination row_rules dense_rules dense_call
bit_64 = refl

-- the same row with n 64: 3, everything as lent
bit_at_n : dense_call 64 1 2 (0 ∷ 1 ∷ []) (9 ∷ []) (replicate 64 8) (9 ∷ []) (9 ∷ 9 ∷ 9 ∷ []) ≡ record { answer = BadEntry 0; solution = replicate 64 8; numbers = 9 ∷ []; words = 9 ∷ 9 ∷ 9 ∷ [] }
unfolding stretch put cleared eval_vars bit_at columns_from empty_from xor_words row_at rows_from pivot_from from_word swap_rows xor_from clear_row topped column walk residue pin back_sub finish dense_elimination row_rules dense_rules dense_call
bit_at_n = refl

-- rows of two words that change places: {64,65} = 1 and {0,65} = 2 have the pivots 0 and 64
second_word : dense_call 66 2 2 (0 ∷ 3 ∷ 1 ∷ 2 ∷ []) (1 ∷ 2 ∷ []) (replicate 66 8) (9 ∷ 9 ∷ []) (replicate 6 9) ≡ record { answer = Solved; solution = (2 ∷ []) ++ replicate 63 0 ++ (1 ∷ 0 ∷ []); numbers = 0 ∷ 0 ∷ []; words = replicate 6 0 }
unfolding stretch put cleared eval_vars bit_at columns_from empty_from xor_words row_at rows_from pivot_from from_word swap_rows xor_from clear_row topped column walk residue pin back_sub finish dense_elimination row_rules dense_rules dense_call
second_word = refl

-- ---- refusals and edges

-- the largest n, m and w, and one more of each; an n that the largest w holds, and one that a word less does not
largest : dense_rules max_variables max_equations max_row_words [] [] ∷ dense_rules (max_variables + 1) 0 max_row_words [] [] ∷ dense_rules 0 (max_equations + 1) 0 [] [] ∷ dense_rules 0 0 (max_row_words + 1) [] []
    ∷ dense_rules max_variables 0 max_row_words [] [] ∷ dense_rules max_variables 0 255 [] [] ∷ []
    ≡ Broken BadShape ∷ Broken TooLarge ∷ Broken TooLarge ∷ Broken TooLarge ∷ Kept ∷ Broken BadShape ∷ []
unfolding dense_rules row_rules rows_from row_at
largest = refl

-- 2, though row 0 has a bit at column n: a row's word too few, a constant too few
shapes : dense_rules 2 2 1 (4 ∷ []) (5 ∷ 6 ∷ []) ∷ dense_rules 2 2 1 (4 ∷ 1 ∷ []) (5 ∷ []) ∷ [] ≡ Broken BadShape ∷ Broken BadShape ∷ []
unfolding dense_rules
shapes = refl

-- row 1 has a bit at column n, and in a word past that column's: 3, though the solution and both areas are too short
bad_entries : dense_call 2 2 1 (3 ∷ 4 ∷ []) (5 ∷ 6 ∷ []) (8 ∷ []) [] [] ∷ dense_call 2 2 2 (3 ∷ 0 ∷ 1 ∷ 2 ^ 63 ∷ []) (5 ∷ 6 ∷ []) (8 ∷ []) [] [] ∷ []
    ≡ refused (BadEntry 1) (8 ∷ []) [] [] ∷ refused (BadEntry 1) (8 ∷ []) [] [] ∷ []
unfolding stretch put cleared eval_vars bit_at columns_from empty_from xor_words row_at rows_from pivot_from from_word swap_rows xor_from clear_row topped column walk residue pin back_sub finish dense_elimination row_rules dense_rules dense_call
bad_entries = refl

-- 4, though both areas are too short; 5 for a number too few, and for a word too few
short : dense_call 2 2 1 (3 ∷ 2 ∷ []) (5 ∷ 6 ∷ []) (8 ∷ []) [] [] ∷ dense_call 2 2 1 (3 ∷ 2 ∷ []) (5 ∷ 6 ∷ []) (8 ∷ 8 ∷ []) (9 ∷ []) (replicate 4 9)
    ∷ dense_call 2 2 1 (3 ∷ 2 ∷ []) (5 ∷ 6 ∷ []) (8 ∷ 8 ∷ []) (9 ∷ 9 ∷ []) (replicate 3 9) ∷ []
    ≡ refused WrongSolution (8 ∷ []) [] [] ∷ refused ShortArea (8 ∷ 8 ∷ []) (9 ∷ []) (replicate 4 9) ∷ refused ShortArea (8 ∷ 8 ∷ []) (9 ∷ 9 ∷ []) (replicate 3 9) ∷ []
unfolding stretch put cleared eval_vars bit_at columns_from empty_from xor_words row_at rows_from pivot_from from_word swap_rows xor_from clear_row topped column walk residue pin back_sub finish dense_elimination row_rules dense_rules dense_call
short = refl

-- words and constants past the first two rows are not read, though column n is set there; areas past the room stay
slack : dense_call 2 2 1 (3 ∷ 2 ∷ (2 ^ 64 - 1) ∷ 7 ∷ []) (5 ∷ 6 ∷ 77 ∷ []) (8 ∷ 8 ∷ []) (9 ∷ 9 ∷ 9 ∷ []) (replicate 6 9)
    ≡ record { answer = Solved; solution = 3 ∷ 6 ∷ []; numbers = 0 ∷ 0 ∷ 9 ∷ []; words = 0 ∷ 0 ∷ 0 ∷ 0 ∷ 9 ∷ 9 ∷ [] }
unfolding stretch put cleared eval_vars bit_at columns_from empty_from xor_words row_at rows_from pivot_from from_word swap_rows xor_from clear_row topped column walk residue pin back_sub finish dense_elimination row_rules dense_rules dense_call
slack = refl

-- n 0: rows without a bit are met, or clash; a bit at column 0 is 3
no_variables : dense_call 0 2 1 (0 ∷ 0 ∷ []) (0 ∷ 0 ∷ []) [] (9 ∷ 9 ∷ 9 ∷ []) (replicate 5 9) ∷ dense_call 0 2 1 (0 ∷ 0 ∷ []) (0 ∷ 3 ∷ []) [] (9 ∷ 9 ∷ 9 ∷ []) (replicate 5 9)
    ∷ dense_call 0 1 1 (1 ∷ []) (0 ∷ []) [] (9 ∷ []) (9 ∷ 9 ∷ []) ∷ []
    ≡ record { answer = Solved; solution = []; numbers = 0 ∷ 0 ∷ 9 ∷ []; words = 0 ∷ 0 ∷ 0 ∷ 0 ∷ 9 ∷ [] }
    ∷ record { answer = Unsolvable; solution = []; numbers = 0 ∷ 0 ∷ 9 ∷ []; words = 0 ∷ 0 ∷ 0 ∷ 0 ∷ 9 ∷ [] } ∷ refused (BadEntry 0) [] (9 ∷ []) (9 ∷ 9 ∷ []) ∷ []
unfolding stretch put cleared eval_vars bit_at columns_from empty_from xor_words row_at rows_from pivot_from from_word swap_rows xor_from clear_row topped column walk residue pin back_sub finish dense_elimination row_rules dense_rules dense_call
no_variables = refl

-- ---- isolation, put to use

-- the variables 0 and 1 are ours
abbrev ours : ℕ → Bool
ours v = ltb v 2

-- ours: {0,1} = 5; behind it {2,3} = 1
abbrev one_build : DenseLent
one_build = record { m = 2; w = 1; rows = 3 ∷ 12 ∷ []; constants = 5 ∷ 1 ∷ []; solution = 8 ∷ 8 ∷ 8 ∷ 8 ∷ []; numbers = 9 ∷ 9 ∷ []; words = replicate 4 9 }

-- the same equation of ours in rows of two words; before it {2} = 7, behind it {} = 0, {3} = 2 and {2,3} = 5
abbrev other_build : DenseLent
other_build = record {
  m = 5;
  w = 2;
  rows = 4 ∷ 0 ∷ 3 ∷ 0 ∷ 0 ∷ 0 ∷ 8 ∷ 0 ∷ 12 ∷ 0 ∷ [];
  constants = 7 ∷ 5 ∷ 0 ∷ 2 ∷ 5 ∷ [];
  solution = 7 ∷ 7 ∷ 7 ∷ 7 ∷ [];
  numbers = replicate 5 6;
  words = replicate 15 6;
}

pub dense_ours : (v : ℕ) → ours v ≡ true → get_or (dense_on 4 one_build).solution v 0 ≡ get_or (dense_on 4 other_build).solution v 0
unfolding any_ours all_ours our_part stretch put cleared eval_vars bit_at columns_from empty_from xor_words row_at rows_from pivot_from from_word swap_rows xor_from clear_row topped column walk residue pin back_sub finish dense_elimination row_rules dense_rules dense_call
dense_ours = dense_call_isolated ours 4 one_build other_build (inl refl, (inr refl, tt)) (inr refl, (inl refl, (inr refl, (inr refl, (inr refl, tt))))) refl refl refl
