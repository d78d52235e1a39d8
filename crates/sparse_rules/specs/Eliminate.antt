-- Sparse elimination on a list of equations: the rules, one outer row at a time, and back substitution.
use Rattle.std.specs.Prelude.{List, [], ◌∷◌, Bool, true, false, length, set, replicate}
use Prim.Native.Nat.{ℕ, zero, suc, pred, compare, Ordering}
use Rattle.std.specs.Int.Bits.{bit_xor}
use Rattle.gf2.specs.Equation.{Equation, eval_vars, sum}
use Rattle.gf2.specs.Result.{Result, unsolvable, ok}

-- ---- row i meets a later row j

pub data Meeting : Type 0 where
  -- an equation without variables whose constant is not 0
  clash : Meeting
  -- row i has become 0 = 0, and row j is as it was
  identity : Equation → Meeting
  -- row i and row j from here on
  both : Equation → Equation → Meeting

-- i is the sum, and v the first variable that j had: above it, the two change places
unfoldable pub summed : Equation → ℕ → Equation → Meeting
summed i v j =
    elim i.vars [
      | [] ↦ elim i.c [ zero ↦ identity i | suc _ ↦ clash ]
      | u ∷ _ ↦ elim (compare u v) [ Ordering.lt ↦ both i j | Ordering.eq ↦ both i j | Ordering.gt ↦ both j i ]
    ]

-- an empty equation is refused or passed over; equal first variables: j is added into i
unfoldable pub meeting : Equation → Equation → Meeting
meeting i j =
    elim j.vars [
      | [] ↦ elim j.c [ zero ↦ both i j | suc _ ↦ clash ]
      | v ∷ _ ↦
          elim i.vars [
            | [] ↦ both i j
            | u ∷ _ ↦ elim (compare u v) [ Ordering.lt ↦ both i j | Ordering.eq ↦ summed (sum i j) v j | Ordering.gt ↦ both j i ]
          ]
    ]

-- ---- row i meets each later row

pub record Pass : Type 0 where
  pub row : Equation
  pub later : List Equation

-- row j, as its meeting left it, stands before the rows that come after it
abbrev pub behind : Equation → Result Pass → Result Pass
behind j unsolvable = unsolvable
behind j (ok p) = ok (record { row = p.row; later = j ∷ p.later })

-- an identity ends the row's round
unfoldable pub meet_row : Equation → List Equation → Result Pass
meet_row i [] = ok (record { row = i; later = [] })
meet_row i (j ∷ rest) =
    elim (meeting i j) [
      | clash ↦ unsolvable
      | identity i' ↦ ok (record { row = i'; later = j ∷ rest })
      | both i' j' ↦ behind j' (meet_row i' rest)
    ]

-- one outer row: the first k rows stay, and the row after them meets those that follow it
unfoldable pub outer_row : ℕ → List Equation → Result (List Equation)
outer_row k [] = ok []
outer_row zero (i ∷ rest) =
    elim i.vars [
      | [] ↦ elim i.c [ zero ↦ ok (i ∷ rest) | suc _ ↦ unsolvable ]
      | _ ∷ _ ↦ elim (meet_row i rest) [ unsolvable ↦ unsolvable | ok p ↦ ok (p.row ∷ p.later) ]
    ]
outer_row (suc k) (i ∷ rest) = elim (outer_row k rest) [ unsolvable ↦ unsolvable | ok rows ↦ ok (i ∷ rows) ]

-- ---- the whole

-- the rows from k on, `count` of them, one after the other
unfoldable pub outer_rows : ℕ → ℕ → List Equation → Result (List Equation)
outer_rows zero k rows = ok rows
outer_rows (suc count) k rows = elim (outer_row k rows) [ unsolvable ↦ unsolvable | ok rows' ↦ outer_rows count (suc k) rows' ]

-- every row but the last
unfoldable pub echelon_form : List Equation → Result (List Equation)
echelon_form rows = outer_rows (pred (length rows)) 0 rows

-- is there an equation that no values meet?
unfoldable pub contradicted : List Equation → Bool
contradicted [] = false
contradicted (i ∷ rest) = elim i.vars [ [] ↦ elim i.c [ zero ↦ contradicted rest | suc _ ↦ true ] | _ ∷ _ ↦ contradicted rest ]

-- the first variable of an equation gets the value that meets it
unfoldable pub pin : Equation → List ℕ → List ℕ
pin i x = elim i.vars [ [] ↦ x | v ∷ _ ↦ set x v (bit_xor i.c (eval_vars i.vars x)) ]

-- from the last equation to the first
unfoldable pub back_sub : List Equation → List ℕ → List ℕ
back_sub [] x = x
back_sub (i ∷ rest) x = pin i (back_sub rest x)

-- what is left is checked, and then solved; unpinned variables are 0
unfoldable pub finish : ℕ → List Equation → Result (List ℕ)
finish n rows = elim (contradicted rows) [ true ↦ unsolvable | false ↦ ok (back_sub rows (replicate n 0)) ]

unfoldable pub gaussian_elimination : ℕ → List Equation → Result (List ℕ)
gaussian_elimination n es = elim (echelon_form es) [ unsolvable ↦ unsolvable | ok rows ↦ finish n rows ]
