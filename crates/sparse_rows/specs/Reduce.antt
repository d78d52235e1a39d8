-- What the steps of the elimination leave in areas that hold rows.
use Rattle.std.specs.Prelude.{◌≡◌, ◌≢◌, List, ◌++◌, ℕ, ◌+◌, ◌-◌, ◌*◌, ◌≤◌, ◌<◌, length, get_or, set, take, drop}
use Rattle.gf2.specs.Equation.{Equation}
use Rattle.gf2.specs.Result.{Result, unsolvable, ok}
use Rattle.answers.specs.Sizes.{row_numbers, row_words}
use Rattle.rows.specs.Picture.{Drawn, Kept, rows_of, row_at}
use Rattle.sparse_rules.specs.Eliminate.{Meeting, clash, identity, both, meeting}
use Rattle.sparse_rows.specs.Loop.{meet_loop, StandsAt}
use Rattle.sparse_rows.specs.declared.echelon.Met.{Met}
use Rattle.sparse_rows.specs.declared.echelon.Met.TheVariants.{Clash, Identity, Both, Summed}
use Rattle.sparse_rows.specs.Reduction.{Reduction}
use Rattle.sparse_rows.specs.Reduction.{Unsolvable, Reduced}

-- rows i and j met, and o came of it; where both are left, row i has variables; a row i that begins above row j is to meet it again, and gives o then
pub data MetBy (n m i j : ℕ) (rows : List Equation) (rest rest' : List ℕ) (o : Meeting) (numbers words : List ℕ) : Met → Type 0 where
  clashed : o ≡ clash → Kept n m rest rest' numbers words → MetBy n m i j rows rest rest' o numbers words Clash
  vanished : (i' : Equation) → o ≡ identity i' → Drawn n m (set rows i i') rest rest' numbers words → MetBy n m i j rows rest rest' o numbers words Identity
  paired : (i' j' : Equation) → o ≡ both i' j' → length i'.vars ≢ 0 → Drawn n m (set (set rows i i') j j') rest rest' numbers words → MetBy n m i j rows rest rest' o numbers words Both
  again : (i' : Equation) → o ≡ meeting i' (row_at rows j) → length i'.vars ≢ 0 → length (row_at rows j).vars ≢ 0 → get_or (row_at rows j).vars 0 0 < get_or i'.vars 0 0
      → Drawn n m (set rows i i') rest rest' numbers words → MetBy n m i j rows rest rest' o numbers words Summed

-- the first d rows came to o, and the others are as they were
pub data ReducedBy (n m d : ℕ) (rows : List Equation) (rest rest' : List ℕ) (o : Result (List Equation)) (numbers words : List ℕ) : Reduction → Type 0 where
  refused : o ≡ unsolvable → Kept n m rest rest' numbers words → ReducedBy n m d rows rest rest' o numbers words Unsolvable
  reduced : (rows' : List Equation) → o ≡ ok rows' → Drawn n m (rows' ++ drop d rows) rest rest' numbers words → ReducedBy n m d rows rest rest' o numbers words Reduced

-- the values that were solved for, or the vector as it was
pub data FinishedBy (o : Result (List ℕ)) (x x' : List ℕ) : Reduction → Type 0 where
  left : o ≡ unsolvable → x' ≡ x → FinishedBy o x x' Unsolvable
  filled : o ≡ ok x' → FinishedBy o x x' Reduced

-- ---- of areas, at entry and at exit

-- row i has variables, and row j has none or begins as row i does
pub record Alike (n m i j : ℕ) (numbers : List ℕ) : Type 0 where
  pub filled : get_or numbers (m * n + n + i) 0 ≢ 0
  pub same : get_or numbers (m * n + n + j) 0 ≢ 0 → get_or numbers (i * n) 0 ≡ get_or numbers (j * n) 0

-- row i has met the rows from j up to r, and what is left of its round gives what all of it gave; where r is j, nothing was written
pub record Passes (n m d i j : ℕ) (numbers words numbers' words' : List ℕ) (r : ℕ) : Type 0 where
  pub from : j ≤ r
  pub still : r ≡ j → numbers' ≡ numbers
  pub alike : r < d → Alike n m i r numbers'
  pub stands : StandsAt n m d i (meet_loop (d - j) i j (rows_of n m numbers words)) (drop (row_numbers n m) numbers) (drop (row_words m) words) numbers' words' r

abbrev pub MeetsRows : (Equation → Equation → Meeting) → ℕ → ℕ → ℕ → ℕ → List ℕ → List ℕ → List ℕ → List ℕ → Met → Type 0
MeetsRows f n m i j numbers words numbers' words' r =
    MetBy n m i j (rows_of n m numbers words) (drop (row_numbers n m) numbers) (drop (row_words m) words)
    (f (row_at (rows_of n m numbers words) i) (row_at (rows_of n m numbers words) j)) numbers' words' r

abbrev pub Reduces : (List Equation → Result (List Equation)) → ℕ → ℕ → ℕ → List ℕ → List ℕ → List ℕ → List ℕ → Reduction → Type 0
Reduces f n m d numbers words numbers' words' r =
    ReducedBy n m d (rows_of n m numbers words) (drop (row_numbers n m) numbers) (drop (row_words m) words)
    (f (take d (rows_of n m numbers words))) numbers' words' r
