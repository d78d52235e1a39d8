-- The room of a peeler's areas, as they are lent and as they are left.
use Rattle.std.specs.Prelude.{◌≡◌, List, Bool, true, false, ℕ, ◌≤◌, length}
use Rattle.areas.specs.Stretch.{cleared}
use Rattle.answers.specs.Sizes.{max_variables, max_equations, peel_high_numbers, peel_high_bytes, peel_low_numbers, peel_low_bytes}

abbrev pub numbers_room : Bool → ℕ → ℕ → ℕ
numbers_room true n m = peel_high_numbers n m
numbers_room false n m = peel_low_numbers n

abbrev pub bytes_room : Bool → ℕ → ℕ → ℕ
bytes_room true n m = peel_high_bytes n m
bytes_room false n m = peel_low_bytes n

-- sizes that are not above the largest, and areas that have their room
pub record Lent (high : Bool) (n m : ℕ) (numbers bytes : List ℕ) : Type 0 where
  pub n_small : n ≤ max_variables
  pub m_small : m ≤ max_equations
  pub numbers_room : numbers_room high n m ≤ length numbers
  pub bytes_room : bytes_room high n m ≤ length bytes

-- the room is zero, the remainder untouched
pub record Left (high : Bool) (n m : ℕ) (numbers bytes numbers' bytes' : List ℕ) : Type 0 where
  pub numbers_left : numbers' ≡ cleared (numbers_room high n m) numbers
  pub bytes_left : bytes' ≡ cleared (bytes_room high n m) bytes
