-- The sums of the workbench on the sum of two equations, and its refusals in their order.
use mathlib.Core.Path.{◌≡◌, refl}
use mathlib.Core.List.{List, [], ◌∷◌}
use Prim.Native.Nat.{ℕ, ◌+◌}
use lib.ListN.{replicate}
use Rattle.gf2.specs.Equation.{sym_diff, lists}
use Rattle.gf2.specs.NumberLists.{count, one}
use Rattle.areas.specs.Stretch.{put}
use Rattle.areas.specs.Rows.{padded}
use Rattle.answers.specs.Sizes.{max_summed}
use Rattle.answers.specs.Answers.{Solved, TooLarge, BadEntry, ShortArea}
use Rattle.equation.specs.Increase.{rises, rises_from}
use Rattle.equation.specs.Sums.{sum_call, refused_sum}
use Rattle.gf2.specs.Common.{common}

-- {1,3,5} plus {3,4} is {1,4,5}; zeros up to five, and what lies past them is unchanged
pub plus : sum_call (1 ∷ 3 ∷ 5 ∷ []) (3 ∷ 4 ∷ []) 6 5 (9 ∷ 9 ∷ 9 ∷ 9 ∷ 9 ∷ 9 ∷ [])
    ≡ record { result = record { answer = Solved; len = 3; constant = 3; cancelled = 1 }; out = 1 ∷ 4 ∷ 5 ∷ 0 ∷ 0 ∷ 9 ∷ [] }
unfolding sum_call rises rises_from sym_diff put padded common count one lists
plus = refl

-- a list plus itself is empty
pub itself : sum_call (2 ∷ 7 ∷ []) (2 ∷ 7 ∷ []) 4 4 (9 ∷ 9 ∷ 9 ∷ 9 ∷ []) ≡ record { result = record { answer = Solved; len = 0; constant = 0; cancelled = 2 }; out = 0 ∷ 0 ∷ 0 ∷ 0 ∷ [] }
unfolding sum_call rises rises_from sym_diff put padded common count one lists
itself = refl

-- two empty lists: nothing is written; an empty right list: what lies past the left one's length is unchanged
pub empty : sum_call [] [] 5 6 (9 ∷ []) ∷ sum_call (0 ∷ 4 ∷ []) [] 1 0 (9 ∷ 9 ∷ 9 ∷ []) ∷ []
    ≡ record { result = record { answer = Solved; len = 0; constant = 3; cancelled = 0 }; out = 9 ∷ [] }
    ∷ record { result = record { answer = Solved; len = 2; constant = 1; cancelled = 0 }; out = 0 ∷ 4 ∷ 9 ∷ [] } ∷ []
unfolding sum_call rises rises_from sym_diff put padded common count one lists
empty = refl

-- a list that is too long, left or right: 1, though the other falls and `out` is short; at the limit, 3
pub too_long : sum_call (replicate (max_summed + 1) 0) (1 ∷ 0 ∷ []) 1 2 [] ∷ sum_call (1 ∷ 0 ∷ []) (replicate (max_summed + 1) 0) 1 2 [] ∷ sum_call (1 ∷ 0 ∷ []) (replicate max_summed 0) 1 2 [] ∷ []
    ≡ refused_sum TooLarge [] ∷ refused_sum TooLarge [] ∷ refused_sum (BadEntry 0) [] ∷ []
unfolding sum_call rises rises_from
too_long = refl

-- neither list increases and `out` is short: place 0
pub both_fall : (out : List ℕ) → sum_call (3 ∷ 3 ∷ []) (5 ∷ 4 ∷ []) 1 2 out ≡ refused_sum (BadEntry 0) out
unfolding sum_call rises rises_from
both_fall out = refl

pub right_falls : (out : List ℕ) → sum_call (3 ∷ 4 ∷ []) (5 ∷ 5 ∷ []) 1 2 out ≡ refused_sum (BadEntry 1) out
unfolding sum_call rises rises_from
right_falls out = refl

pub short : sum_call (3 ∷ 4 ∷ []) (5 ∷ []) 1 2 (8 ∷ 8 ∷ []) ≡ refused_sum ShortArea (8 ∷ 8 ∷ [])
unfolding sum_call rises rises_from
short = refl
