-- What the walk hands to back substitution: pivots that rise, each the first column of its row.
use Rattle.std.specs.Prelude.{◌≡◌, List, [], ◌∷◌, true, ℕ, suc, ◌*◌, ◌≤◌, ◌<◌, length}
use Rattle.gf2.specs.Equation.{Each}
use Rattle.dense_rows.specs.Bits.{Row, has_bit, Clear, columns}
use Rattle.dense_walk.specs.Eliminate.{walk}

-- the pivots rise from b on and stay below n; each is the first column of its row
abbrev pub Stairs : ℕ → ℕ → List ℕ → List Row → Type 0
Stairs n b [] [] = Unit {0}
Stairs n b [] (row ∷ rows) = ⊥
Stairs n b (p ∷ ps) [] = ⊥
Stairs n b (p ∷ ps) (row ∷ rows) = (b ≤ p) × (p < n) × Clear p row.words × (has_bit p row ≡ true) × Stairs n (suc p) ps rows

-- what back substitution asks for: stairs, in rows of w words without a column at n or above
pub record Ready (n w : ℕ) (pivots : List ℕ) (rows : List Row) : Type 0 where
  pub stairs : Stairs n 0 pivots rows
  pub wide_enough : n ≤ 64 * w
  pub fits : Each (λ row. Each (λ u. u < n) (columns (64 * w) row.words)) rows

-- rows of w words that list no column at n or above
abbrev pub FitRows : ℕ → ℕ → List Row → Type 0
FitRows n w rows = Each (λ row. length row.words ≡ w) rows × Each (λ row. Each (λ u. u < n) (columns (64 * w) row.words)) rows

-- the walk over n columns: the pivots, their rows, and the rows that are left
abbrev pub Walks : ℕ → List Row → List ℕ → List Row → List Row → Type 0
Walks n rows pivots tops left = walk n 0 rows ≡ record { pivots = pivots; rows = tops; left = left }
