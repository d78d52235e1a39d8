-- Back substitution over stairs: it meets every pivot row, and is 0 where no row begins.
use mathlib.Core.Path.{◌≡◌, refl, ap, ◌∙◌}
use mathlib.Core.Logic.{◌≢◌, ◌⊎◌, inl, inr}
use mathlib.Core.List.{List, [], ◌∷◌}
use mathlib.Core.Bool.{true}
use Prim.Native.Nat.{ℕ, zero, suc, ◌-◌, ◌<◌}
use native.Mathlib.Omega.{arith}
use lib.ListN.{length, get_or, set, length-set}
use lib.Seq.{get_or-set_other}
use lib.Bits.{bit_xor}
use Rattle.gf2.specs.Equation.{Equation, Each, Above, eval_vars, MeetsAll}
use Rattle.gf2.specs.Canonical.{Lead}
use Rattle.gf2.proofs.Tests.{Tri, less, same, more, tri}
use Rattle.gf2.proofs.Order.{rising_above}
use Rattle.gf2.proofs.Values.{meets_all_set, meets_set_lead}
use Rattle.dense_rows.specs.Bits.{Row, Clear, has_bit, columns_from, columns, equation_of, equations_of}
use Rattle.dense_rows.proofs.ColumnLaws.{columns_lead, rising_columns}
use Rattle.dense_walk.specs.Eliminate.{pin, back_sub}
use Rattle.dense_walk.specs.Stairs.{Stairs}

-- the columns of a pivot's row: the pivot, then columns above it
tail : ℕ → ℕ → Row → List ℕ
tail n p row = columns_from (n - suc p) (suc p) row.words

tail_above : (n p : ℕ) (row : Row) → p < n → Above p (tail n p row)
unfolding tail
tail_above n p row h = rising_above p n (columns_from (n - suc p) (suc p) row.words) (rising_columns (n - suc p) (suc p) n row.words (omega arith))

first_column : (n p : ℕ) (row : Row) → p < n → Clear p row.words → has_bit p row ≡ true → columns n row.words ≡ p ∷ tail n p row
unfolding tail
first_column n p row h f e = columns_lead n p row.words h f e

stairs_above : (n b : ℕ) (ps : List ℕ) (rows : List Row) → Stairs n (suc b) ps rows → Each (λ e. Above b e.vars) (equations_of n rows)
stairs_above n b [] [] s = tt
stairs_above n b [] (r ∷ rs) s = absurd s
stairs_above n b (p ∷ ps) [] s = absurd s
stairs_above n b (p ∷ ps) (r ∷ rs) s = (rw (first_column n p r s.1 s.2 s.3) (s.0, rest (tail n p r) (tail_above n p r s.1)), lower (equations_of n rs) (stairs_above n p ps rs s.4))
  where
    rest : (us : List ℕ) → Above p us → Above b us
    rest [] h = tt
    rest (u ∷ us) h = (omega arith, rest us h.1)

    lower : (es : List Equation) → Each (λ e. Above p e.vars) es → Each (λ e. Above b e.vars) es
    lower [] h = tt
    lower (e ∷ es) h = (rest e.vars h.0, lower es h.1)

module _ (n : ℕ) (x₀ : List ℕ) where
  pub back_length : (ps : List ℕ) (rows : List Row) → length (back_sub n ps rows x₀) ≡ length x₀
  unfolding back_sub pin
  back_length [] rows = refl
  back_length (p ∷ ps) [] = refl
  back_length (p ∷ ps) (r ∷ rs) = simp length-set (back_length ps rs)

  module _ (zeros : (v : ℕ) → get_or x₀ v 0 ≡ 0) (size : length x₀ ≡ n) where
    -- what is below the first pivot is as it was
    back_low : (b : ℕ) (ps : List ℕ) (rows : List Row) → Stairs n b ps rows → (v : ℕ) → v < b → get_or (back_sub n ps rows x₀) v 0 ≡ 0
    unfolding back_sub pin
    back_low b [] rows s v h = zeros v
    back_low b (p ∷ ps) [] s v h = zeros v
    back_low b (p ∷ ps) (r ∷ rs) s v h =
        let y = back_sub n ps rs x₀ in
        get_or-set_other y p v (bit_xor r.c (eval_vars (columns n r.words) y)) 0 (omega arith) ∙ back_low (suc p) ps rs s.4 v (omega arith)

    -- the value that is written, by the columns above the pivot
    pinned : (p : ℕ) (row : Row) (y : List ℕ) → p < n → Clear p row.words → has_bit p row ≡ true → get_or y p 0 ≡ 0 → eval_vars (columns n row.words) y ≡ eval_vars (tail n p row) y
    unfolding eval_vars
    pinned p row y h f e z = rw (first_column n p row h f e) (ap (λ (a : ℕ). bit_xor a (eval_vars (tail n p row) y)) z)

    pub back_meets : (b : ℕ) (ps : List ℕ) (rows : List Row) → Stairs n b ps rows → MeetsAll (back_sub n ps rows x₀) (equations_of n rows)
    unfolding back_sub pin
    back_meets b [] [] s = tt
    back_meets b [] (r ∷ rs) s = absurd s
    back_meets b (p ∷ ps) [] s = absurd s
    back_meets b (p ∷ ps) (r ∷ rs) s = (
      rw (pinned p r y s.1 s.2 s.3 low, first_column n p r s.1 s.2 s.3) (meets_set_lead p r.c (tail n p r) y (rw (back_length ps rs, size) s.1) (tail_above n p r s.1)),
      meets_all_set p (bit_xor r.c (eval_vars (columns n r.words) y)) (equations_of n rs) y (stairs_above n p ps rs s.4) (back_meets (suc p) ps rs s.4),
    )
      where
        y : List ℕ
        y = back_sub n ps rs x₀

        low : get_or y p 0 ≡ 0
        low = back_low (suc p) ps rs s.4 p (omega arith)

    -- a value is 0, or belongs to the first column of a row
    pub back_lead : (b : ℕ) (ps : List ℕ) (rows : List Row) (d : Equation) → Stairs n b ps rows → (v : ℕ)
        → (get_or (back_sub n ps rows x₀) v 0 ≡ 0) ⊎ ((i : ℕ) × (i < length (equations_of n rows)) × Lead v (get_or (equations_of n rows) i d).vars)
    unfolding back_sub pin
    back_lead b [] rows d s v = inl (zeros v)
    back_lead b (p ∷ ps) [] d s v = inl (zeros v)
    back_lead b (p ∷ ps) (r ∷ rs) d s v = go (tri v p) (back_lead (suc p) ps rs d s.4 v)
      where
        y : List ℕ
        y = back_sub n ps rs x₀

        Goal : Type 0
        Goal = (get_or (set y p (bit_xor r.c (eval_vars (columns n r.words) y))) v 0 ≡ 0) ⊎ ((i : ℕ) × (i < suc (length (equations_of n rs))) × Lead v (get_or (equation_of n r ∷ equations_of n rs) i d).vars)

        other : v ≢ p → (get_or y v 0 ≡ 0) ⊎ ((i : ℕ) × (i < length (equations_of n rs)) × Lead v (get_or (equations_of n rs) i d).vars) → Goal
        other ne (inl z) = inl (get_or-set_other y p v (bit_xor r.c (eval_vars (columns n r.words) y)) 0 ne ∙ z)
        other ne (inr t) = inr (suc t.0, omega (arith, t.1), t.2)

        go : Tri v p → (get_or y v 0 ≡ 0) ⊎ ((i : ℕ) × (i < length (equations_of n rs)) × Lead v (get_or (equations_of n rs) i d).vars) → Goal
        go (less l) ih = other (omega arith) ih
        go (more l) ih = other (omega arith) ih
        go (same e) ih = inr (zero, omega arith, rw (first_column n p r s.1 s.2 s.3) e)
