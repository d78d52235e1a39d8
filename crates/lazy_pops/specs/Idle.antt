-- The first idle variable of a row.
use Rattle.std.specs.Prelude.{List, Bool, not, ℕ, ◌+◌, ◌≤◌, ◌<◌, length, get_or, eqb}
use Rattle.gf2.specs.Equation.{Each}
use Rattle.gf2.specs.NumberLists.{first_of}
use Rattle.areas.specs.Stretch.{stretch}

-- is variable v marked, where the marks stand from `idle` on?
abbrev pub marked : List ℕ → ℕ → ℕ → Bool
marked area idle v = not (eqb (get_or area (idle + v) 0) 0)

abbrev pub first_marked : List ℕ → ℕ → ℕ → ℕ → ℕ
first_marked area row count idle = first_of (marked area idle) (stretch row count area)

pub record RowFits (area : List ℕ) (row count idle : ℕ) : Type 0 where
  pub inside : row + count ≤ length area
  pub marks : Each (λ v. idle + v < length area) (stretch row count area)
