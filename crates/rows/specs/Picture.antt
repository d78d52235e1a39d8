-- A system's rows in lent memory: the picture of the rows in the numbers, their constants in the words, and the rows that an area holds.
use Rattle.std.specs.Prelude.{◌≡◌, List, [], ◌∷◌, ◌++◌, map, ℕ, zero, suc, ◌+◌, ◌*◌, ◌≤◌, length, get_or, set, drop, replicate}
use Rattle.areas.specs.Stretch.{stretch}
use Rattle.areas.specs.Rows.{laid}
use Rattle.answers.specs.Sizes.{row_numbers, row_words}
use Rattle.gf2.specs.Equation.{Each, Equation, eqn, Rising, sum}

-- ---- the picture

abbrev pub vars_of : Equation → List ℕ
vars_of e = e.vars

abbrev pub length_of : Equation → ℕ
length_of e = length e.vars

abbrev pub constant_of : Equation → ℕ
constant_of e = e.c

-- the rows, each padded to n numbers; the scratch row, which is zero between steps; the rows' lengths
unfoldable pub picture : ℕ → List Equation → List ℕ
picture n rows = laid n (map vars_of rows) ++ (replicate n 0 ++ map length_of rows)

-- where the lengths begin
abbrev pub lengths_at : ℕ → ℕ → ℕ
lengths_at n m = m * n + n

-- The areas hold these m rows, each strictly increasing and below n; past the room stand rest and rest'.
pub record Drawn (n m : ℕ) (rows : List Equation) (rest rest' numbers words : List ℕ) : Type 0 where
  pub numbers_are : numbers ≡ picture n rows ++ rest
  pub words_are : words ≡ map constant_of rows ++ rest'
  pub rising : Each (λ e. Rising 0 n e.vars) rows
  pub count : length rows ≡ m
  pub numbers_room : m * n + n + m ≤ length numbers
  pub words_room : m ≤ length words

-- ---- the rows that an area holds

-- f of the k numbers from i on
abbrev pub tab : (ℕ → Equation) → ℕ → ℕ → List Equation
tab f i zero = []
tab f i (suc k) = f i ∷ tab f (suc i) k

abbrev pub slot : ℕ → ℕ → List ℕ → List ℕ → ℕ → Equation
slot n m numbers words i = eqn (stretch (i * n) (get_or numbers (lengths_at n m + i) 0) numbers) (get_or words i 0)

unfoldable pub rows_of : ℕ → ℕ → List ℕ → List ℕ → List Equation
rows_of n m numbers words = tab (slot n m numbers words) 0 m

-- the areas hold m rows, whichever they are
abbrev pub Held : ℕ → ℕ → List ℕ → List ℕ → Type 0
Held n m numbers words = Drawn n m (rows_of n m numbers words) (drop (row_numbers n m) numbers) (drop (row_words m) words) numbers words

-- .. and past the room they are rest and rest'
pub record Kept (n m : ℕ) (rest rest' numbers words : List ℕ) : Type 0 where
  pub held : Held n m numbers words
  pub numbers_kept : drop (row_numbers n m) numbers ≡ rest
  pub words_kept : drop (row_words m) words ≡ rest'

-- the areas that held rows hold these rows now, and the rest is as it was
abbrev pub Became : ℕ → ℕ → List ℕ → List ℕ → List Equation → List ℕ → List ℕ → Type 0
Became n m numbers words rows numbers' words' = Drawn n m rows (drop (row_numbers n m) numbers) (drop (row_words m) words) numbers' words'

-- ---- what the operations on rows leave

abbrev pub row_at : List Equation → ℕ → Equation
row_at rows i = get_or rows i (eqn [] 0)

-- rows i and j have changed places
abbrev pub swapped : ℕ → ℕ → List Equation → List Equation
swapped i j rows = set (set rows i (row_at rows j)) j (row_at rows i)

-- row j is added into row i
abbrev pub added : ℕ → ℕ → List Equation → List Equation
added i j rows = set rows i (sum (row_at rows i) (row_at rows j))
