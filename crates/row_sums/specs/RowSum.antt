-- What two rows of one area add up to.
use Rattle.std.specs.Prelude.{List, ℕ}
use Rattle.gf2.specs.Equation.{sym_diff}
use Rattle.areas.specs.Stretch.{stretch}

-- the sum of the li numbers at p and the lj numbers at q
abbrev pub row_sum : List ℕ → ℕ → ℕ → ℕ → ℕ → List ℕ
row_sum area p li q lj = sym_diff (stretch p li area) (stretch q lj area)
