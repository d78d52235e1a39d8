-- How many variables cancel in the sums of sparse elimination: beside each rule what its sums cancel, of the rows that it makes.
use Rattle.std.specs.Prelude.{List, [], ◌∷◌, length}
use Prim.Native.Nat.{ℕ, zero, suc, pred, ◌+◌, compare, Ordering}
use Rattle.gf2.specs.Equation.{Equation}
use Rattle.gf2.specs.Result.{unsolvable, ok}
use Rattle.gf2.specs.Common.{common}
use Rattle.sparse_rules.specs.Eliminate.{clash, identity, both, meeting, outer_row}

-- equal first variables: the two are added
unfoldable pub meeting_cancels : Equation → Equation → ℕ
meeting_cancels i j =
    elim j.vars [
      | [] ↦ 0
      | v ∷ _ ↦
          elim i.vars [
            | [] ↦ 0
            | u ∷ _ ↦ elim (compare u v) [ Ordering.lt ↦ 0 | Ordering.eq ↦ common i.vars j.vars | Ordering.gt ↦ 0 ]
          ]
    ]

-- a sum that is refused was made
unfoldable pub meet_row_cancels : Equation → List Equation → ℕ
meet_row_cancels i [] = 0
meet_row_cancels i (j ∷ rest) = meeting_cancels i j + elim (meeting i j) [ clash ↦ 0 | identity i' ↦ 0 | both i' j' ↦ meet_row_cancels i' rest ]

unfoldable pub outer_row_cancels : ℕ → List Equation → ℕ
outer_row_cancels k [] = 0
outer_row_cancels zero (i ∷ rest) = elim i.vars [ [] ↦ 0 | _ ∷ _ ↦ meet_row_cancels i rest ]
outer_row_cancels (suc k) (i ∷ rest) = outer_row_cancels k rest

unfoldable pub outer_rows_cancel : ℕ → ℕ → List Equation → ℕ
outer_rows_cancel zero k rows = 0
outer_rows_cancel (suc count) k rows =
    outer_row_cancels k rows + elim (outer_row k rows) [ unsolvable ↦ 0 | ok rows' ↦ outer_rows_cancel count (suc k) rows' ]

-- the last checks and back substitution make no sum
unfoldable pub sparse_cancels : List Equation → ℕ
sparse_cancels es = outer_rows_cancel (pred (length es)) 0 es
