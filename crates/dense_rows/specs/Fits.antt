-- What the rules 1 to 3 ask of a lent dense system, condition by condition.
use Rattle.std.specs.Prelude.{◌≡◌, false, List, ℕ, ◌*◌, ◌≤◌, ◌<◌, length}
use Rattle.areas.specs.Stretch.{stretch}
use Rattle.answers.specs.Sizes.{max_variables, max_equations, max_row_words}
use Rattle.dense_rows.specs.Bits.{bit_at}

pub record DenseFits (n m w : ℕ) (rows constants : List ℕ) : Type 0 where
  pub few_variables : n ≤ max_variables
  pub few_rows : m ≤ max_equations
  pub few_words : w ≤ max_row_words
  pub rows_there : m * w ≤ length rows
  pub constants_there : m ≤ length constants
  pub columns_there : n ≤ 64 * w
  -- the w words of each of the first m rows have no bit at column n or above
  pub no_bit : (i : ℕ) → i < m → (v : ℕ) → n ≤ v → bit_at v (stretch (i * w) w rows) ≡ false
