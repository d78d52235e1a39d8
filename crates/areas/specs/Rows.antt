-- Rows of n numbers, one after the other, each padded with zeros.
use Rattle.std.specs.Prelude.{List, [], ◌∷◌, ◌++◌, ℕ, ◌-◌, ◌<◌, ◌≤◌, length, get_or, set, replicate}

-- the list, then zeros up to n elements
unfoldable pub padded : ℕ → List ℕ → List ℕ
padded n vs = vs ++ replicate (n - length vs) 0

-- the rows, one after the other
unfoldable pub laid : ℕ → List (List ℕ) → List ℕ
laid n [] = []
laid n (vs ∷ rows) = padded n vs ++ laid n rows

-- each row has at most n numbers
abbrev pub Narrow : ℕ → List (List ℕ) → Type 0
Narrow n rows = (i : ℕ) → i < length rows → length (get_or rows i []) ≤ n

-- row i and row j have changed places
abbrev pub swapped : ℕ → ℕ → List (List ℕ) → List (List ℕ)
swapped i j rows = set (set rows j (get_or rows i [])) i (get_or rows j [])
