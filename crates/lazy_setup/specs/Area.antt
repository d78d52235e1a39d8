-- The work areas of lazy elimination as pictures of a state: fourteen segments of numbers, two of words.
use Rattle.std.specs.Prelude.{List, [], ◌∷◌, ◌++◌, map, reverse, Bool, true, false, ℕ, zero, suc, ◌+◌, ◌*◌, length, replicate}
use Rattle.gf2.specs.Equation.{Equation}
use Rattle.areas.specs.Rows.{padded, laid}
use Rattle.areas.specs.Segments.{joined}
use Rattle.lazy.specs.Lazy.{State, listing}

-- an idle variable is marked by 1
abbrev pub mark : Bool → ℕ
mark true = 1
mark false = 0

-- the equations of variable k, of variable k + 1, .. of n variables, one list after the other
unfoldable pub lists_from : List Equation → ℕ → ℕ → List ℕ
lists_from sys k zero = []
lists_from sys k (suc n) = listing sys k ++ lists_from sys (suc k) n

-- where the list of variable k begins, and of each later one, and where the last one ends
unfoldable pub starts_from : List Equation → ℕ → ℕ → ℕ → List ℕ
starts_from sys at k zero = at ∷ []
starts_from sys at k (suc n) = at ∷ starts_from sys (at + length (listing sys k)) (suc k) n

abbrev pub lengths : List Equation → List ℕ
lengths rows = map (λ r. length r.vars) rows

abbrev pub rows_of : ℕ → List Equation → List ℕ
rows_of n rows = laid n (map (λ r. r.vars) rows)

-- the dense part as sparse elimination has it: m rows of n numbers, the scratch row, m lengths
abbrev pub dense_part : ℕ → ℕ → List Equation → List ℕ
dense_part n m dense = padded (m * n) (rows_of n dense) ++ (replicate n 0 ++ padded m (lengths dense))

-- the numbers, in the order in which they stand; between units position and count are zero
unfoldable pub segments : ℕ → List Equation → State → List (List ℕ)
segments n sys s =
    let m = length sys in
    rows_of n s.rows
    ∷ lengths s.rows
    ∷ lists_from sys 0 n
    ∷ starts_from sys 0 0 n
    ∷ s.weight
    ∷ padded n (reverse s.variables)
    ∷ map mark s.idle
    ∷ replicate n 0
    ∷ s.priority
    ∷ padded m (reverse s.equations)
    ∷ padded m (map (λ d. d.equation) s.solved)
    ∷ padded m (map (λ d. d.pivot) s.solved)
    ∷ replicate (m + 1) 0
    ∷ dense_part n m s.dense
    ∷ []

unfoldable pub numbers_of : ℕ → List Equation → State → List ℕ
numbers_of n sys s = joined (segments n sys s)

-- the words: the constants, and those of the dense part
unfoldable pub words_of : List Equation → State → List ℕ
words_of sys s = map (λ r. r.c) s.rows ++ padded (length sys) (map (λ r. r.c) s.dense)
