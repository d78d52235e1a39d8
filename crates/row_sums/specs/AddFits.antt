-- Two rows of an area that can be added: what the caller of `add_into` shows.
use Rattle.std.specs.Prelude.{◌≡◌, List, ℕ, ◌+◌, ◌≤◌, length, replicate}
use Rattle.gf2.specs.Equation.{Rising}
use Rattle.areas.specs.Stretch.{stretch}
use Rattle.areas.specs.Rows.{padded}

-- the row at p has li numbers and then zeros up to n, the row at q has lj, and a scratch row of n zeros lies past both, at s
pub record AddFits (area : List ℕ) (n p li q lj s : ℕ) : Type 0 where
  pub left_before : p + n ≤ s
  pub right_before : q + n ≤ s
  pub inside : s + n ≤ length area
  pub left_short : li ≤ n
  pub right_short : lj ≤ n
  pub left_rises : Rising 0 n (stretch p li area)
  pub right_rises : Rising 0 n (stretch q lj area)
  pub left_padded : stretch p n area ≡ padded n (stretch p li area)
  pub scratch : stretch s n area ≡ replicate n 0
