-- An outer row of the dense part, at the end of the areas.
use Rattle.std.specs.Prelude.{◌≡◌, List, ℕ, ◌≤◌, ◌<◌, length, take, drop}
use Rattle.answers.specs.Sizes.{max_variables}
use Rattle.rows.specs.Picture.{Held}
use Rattle.sparse_rules.specs.Eliminate.{outer_row}
use Rattle.sparse_rows.specs.Reduce.{Reduces}
use Rattle.sparse_rows.specs.Reduction.{Reduction}

pub record ClearFits (dense n m d i : ℕ) (numbers words : List ℕ) : Type 0 where
  pub place : dense ≤ length numbers
  pub word_place : m ≤ length words
  pub held : Held n m (drop dense numbers) (drop m words)
  pub in_use : i < d
  pub within : d ≤ m
  pub small : n ≤ max_variables

pub record Cleared (dense n m d i : ℕ) (numbers words numbers' words' : List ℕ) (r : Reduction) : Type 0 where
  pub reduces : Reduces (outer_row i) n m d (drop dense numbers) (drop m words) (drop dense numbers') (drop m words') r
  pub numbers_kept : take dense numbers' ≡ take dense numbers
  pub words_kept : take m words' ≡ take m words
