-- One outer row as a loop over an array of rows.
use Rattle.std.specs.Prelude.{◌≡◌, ◌≢◌, List, ℕ, zero, suc, ◌-◌, ◌≤◌, ◌<◌, length, set}
use Rattle.gf2.specs.Equation.{Equation}
use Rattle.gf2.specs.Result.{Result, unsolvable, ok}
use Rattle.rows.specs.Picture.{Drawn, row_at}
use Rattle.sparse_rules.specs.Eliminate.{clash, identity, both, meeting}

-- row i meets rows j and on, k of them
unfoldable pub meet_loop : ℕ → ℕ → ℕ → List Equation → Result (List Equation)
meet_loop zero i j rows = ok rows
meet_loop (suc k) i j rows =
    elim (meeting (row_at rows i) (row_at rows j)) [
      | clash ↦ unsolvable
      | identity i' ↦ ok (set rows i i')
      | both i' j' ↦ meet_loop k i (suc j) (set (set rows i i') j j')
    ]

-- the loop has come to row j of the first d, row i has variables, and what is left of the loop gives o
pub record StandsAt (n m d i : ℕ) (o : Result (List Equation)) (rest rest' numbers words : List ℕ) (j : ℕ) : Type 0 where
  pub rows : List Equation
  pub drawn : Drawn n m rows rest rest' numbers words
  pub i_below : i < j
  pub j_in : j ≤ d
  pub d_in : d ≤ m
  pub filled : length (row_at rows i).vars ≢ 0
  pub future : meet_loop (d - j) i j rows ≡ o
