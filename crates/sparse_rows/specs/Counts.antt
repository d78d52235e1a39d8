-- What cancels in the sums of one outer row, as a loop over an array of rows: beside `meet_loop`.
use Rattle.std.specs.Prelude.{List, ℕ, zero, suc, ◌+◌, ◌-◌, set}
use Rattle.gf2.specs.Equation.{Equation}
use Rattle.rows.specs.Picture.{rows_of, row_at}
use Rattle.sparse_rules.specs.Eliminate.{clash, identity, both, meeting}
use Rattle.sparse_rules.specs.Cancelled.{meeting_cancels}

unfoldable pub loop_cancels : ℕ → ℕ → ℕ → List Equation → ℕ
loop_cancels zero i j rows = 0
loop_cancels (suc k) i j rows =
    meeting_cancels (row_at rows i) (row_at rows j)
    + elim (meeting (row_at rows i) (row_at rows j)) [
      | clash ↦ 0
      | identity i' ↦ 0
      | both i' j' ↦ loop_cancels k i (suc j) (set (set rows i i') j j')
    ]

-- .. in what is left of row i's round, of the rows that the areas hold: it has come to row j of the first d
abbrev pub ahead : ℕ → ℕ → ℕ → ℕ → List ℕ → List ℕ → ℕ → ℕ
ahead n m d i numbers words j = loop_cancels (d - j) i j (rows_of n m numbers words)
