-- Rooms fit a usize, and split into the parts that the engines lay out.
use Prim.Native.Nat.{ℕ, ◌*◌, ◌≤◌}
use native.Mathlib.Nat.{mul-le-mul}
use Rattle.answers.specs.Sizes.{max_variables, max_equations, max_row_words}

-- m rows of n numbers: no more than the largest m times the largest n
pub cells_fit : (n m : ℕ) → n ≤ max_variables → m ≤ max_equations → m * n ≤ max_equations * max_variables
cells_fit n m hn hm = mul-le-mul hm hn

-- m rows of w words
pub row_words_fit : (m w : ℕ) → m ≤ max_equations → w ≤ max_row_words → m * w ≤ max_equations * max_row_words
row_words_fit m w hm hw = mul-le-mul hm hw
