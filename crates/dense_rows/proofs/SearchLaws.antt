-- The pivot search: where it ends, and how it counts.
use mathlib.Core.Path.{◌≡◌, refl}
use mathlib.Core.List.{List, [], ◌∷◌}
use mathlib.Core.Bool.{Bool, true, false}
use Prim.Native.Nat.{ℕ, zero, suc, ◌+◌, ◌<◌}
use native.Mathlib.Nat.{add-suc}
use native.Mathlib.Omega.{arith}
use lib.ListN.{length, get_or}
use Rattle.gf2.specs.Equation.{Each}
use Rattle.dense_rows.specs.Bits.{Row, has_bit}
use Rattle.dense_rows.specs.Steps.{pivot_from, no_row}
use Rattle.std.specs.Prelude.{Option, Some, None}

pub pivot_here : (c i : ℕ) (row : Row) (rows : List Row) → has_bit c row ≡ true → pivot_from c i (row ∷ rows) ≡ Some i
unfolding pivot_from
pivot_here c i row rows e = rw (e, pivot_from)

pub pivot_later : (c i : ℕ) (row : Row) (rows : List Row) → has_bit c row ≡ false → pivot_from c i (row ∷ rows) ≡ pivot_from c (suc i) rows
unfolding pivot_from
pivot_later c i row rows e = rw (e, pivot_from)

-- what the search found: a row that has the column, or that none has it
pub data Found (c i : ℕ) (rows : List Row) : Option ℕ → Type 0 where
  at : (j : ℕ) → j < length rows → has_bit c (get_or rows j no_row) ≡ true → {r : ℕ} → r ≡ i + j → Found c i rows (Some r)
  nowhere : Each (λ row. has_bit c row ≡ false) rows → Found c i rows None

pub found : (c i : ℕ) (rows : List Row) → Found c i rows (pivot_from c i rows)
unfolding pivot_from
found c i [] = nowhere tt
found c i (row ∷ rows) = go (has_bit c row) refl (pivot_from c (suc i) rows) (found c (suc i) rows)
  where
    go : (b : Bool) → has_bit c row ≡ b → (o : Option ℕ) → Found c (suc i) rows o → Found c i (row ∷ rows) (elim b [ true ↦ Some i | false ↦ o ])
    go true e o f = at zero (omega arith) e {r = i} (omega arith)
    go false e o (at j h p {r = r} q) = at (suc j) (omega arith) p {r = r} (omega arith)
    go false e o (nowhere f) = nowhere (e, f)

-- counting from b on
abbrev pub moved : ℕ → Option ℕ → Option ℕ
moved b (Some r) = Some (b + r)
moved b None = None

pub pivot_moved : (c b i : ℕ) (rows : List Row) → pivot_from c (b + i) rows ≡ moved b (pivot_from c i rows)
unfolding pivot_from
pivot_moved c b i [] = refl
pivot_moved c b i (row ∷ rows) = go (has_bit c row) (rw (add-suc b i) at (pivot_moved c b (suc i) rows))
  where
    go : (d : Bool) → pivot_from c (suc (b + i)) rows ≡ moved b (pivot_from c (suc i) rows)
        → elim d [ true ↦ Some (b + i) | false ↦ pivot_from c (suc (b + i)) rows ] ≡ moved b (elim d [ true ↦ Some i | false ↦ pivot_from c (suc i) rows ])
    go true ih = refl
    go false ih = ih
