-- Elimination on rows of w words: its answer is canonical, and it refuses exactly where the rows' equations cancel.
use mathlib.Core.Path.{◌≡◌, refl, sym, ap₂, ◌∙◌, subst}
use mathlib.Core.Logic.{◌≢◌}
use mathlib.Core.List.{List, [], ◌∷◌}
use mathlib.Core.Bool.{Bool, true, false, true≢false, false≢true}
use Prim.Native.Nat.{ℕ, zero, suc, ◌*◌, ◌<◌, ◌≤◌}
use native.Mathlib.Nat.{zero-add}
use native.Mathlib.Omega.{arith}
use lib.ListN.{length, get_or, replicate, length-replicate}
use Rattle.gf2.specs.Equation.{Equation, eqn, Each, Sorted, sum}
use Rattle.gf2.specs.Span.{Cancels, InSpan}
use Rattle.gf2.specs.Canonical.{Canonical}
use Rattle.gf2.specs.Result.{Result, unsolvable, ok}
use Rattle.gf2.proofs.Each.{each_at, each_map}
use Rattle.gf2.proofs.EachMap.{each_of_map, each_both}
use Rattle.gf2.proofs.Spans.{span_zero, span_sum, span_each, solved_not_cancels, empty_row_cancels}
use Rattle.gf2.proofs.Elimination.{sum_twice}
use Rattle.gf2.proofs.Canon.{canonical_from_rows}
use Rattle.dense_rows.specs.Bits.{Row, Clear, equation_of, equations_of}
use Rattle.dense_rows.specs.Steps.{no_row}
use Rattle.dense_rows.proofs.ColumnLaws.{increasing_columns, columns_clear}
use Rattle.dense_rows.proofs.StepLaws.{Wide}
use Rattle.dense_walk.specs.Eliminate.{Walk, walk, residue, back_sub, finish, dense_elimination}
use Rattle.dense_walk.specs.Stairs.{Stairs}
use Rattle.dense_walk.proofs.ColumnStep.{Good}
use Rattle.dense_walk.proofs.WalkLaws.{Walked, walked, walked_stairs, walked_left, walked_ahead, walked_behind}
use Rattle.dense_walk.proofs.BackLaws.{back_length, back_meets, back_lead}
use Rattle.gf2.proofs.OneValue.{zeros_at}

-- ---- the constants that are left

pub residue_none : (rows : List Row) → residue rows ≡ false → Each (λ row. row.c ≡ 0) rows
unfolding residue
residue_none [] e = tt
residue_none (row ∷ rows) e = go row.c refl e (residue_none rows)
  where
    go : (d : ℕ) → row.c ≡ d → elim d [ zero ↦ residue rows | suc _ ↦ true ] ≡ false → (residue rows ≡ false → Each (λ r. r.c ≡ 0) rows) → Each (λ r. r.c ≡ 0) (row ∷ rows)
    go zero p e ih = (p, ih e)
    go (suc d) p e ih = absurd (true≢false e)

pub residue_some : (rows : List Row) → residue rows ≡ true → (i : ℕ) × (i < length rows) × ((get_or rows i no_row).c ≢ 0)
unfolding residue
residue_some [] e = absurd (false≢true e)
residue_some (row ∷ rows) e = go row.c refl e (residue_some rows)
  where
    go : (d : ℕ) → row.c ≡ d → elim d [ zero ↦ residue rows | suc _ ↦ true ] ≡ true → (residue rows ≡ true → (i : ℕ) × (i < length rows) × ((get_or rows i no_row).c ≢ 0))
        → (i : ℕ) × (i < suc (length rows)) × ((get_or (row ∷ rows) i no_row).c ≢ 0)
    go zero p e ih = let t = ih e in (suc t.0, omega (arith, t.1), t.2)
    go (suc d) p e ih = (zero, omega arith, λ z. omega arith)

-- ---- on rows of w words

pub sorted_rows : (n : ℕ) (rows : List Row) → Sorted (equations_of n rows)
sorted_rows n [] = tt
sorted_rows n (row ∷ rows) = (increasing_columns n row.words, sorted_rows n rows)

pub wide_good : (w : ℕ) (rows : List Row) → Each (Wide w) rows → Each (Good w 0) rows
wide_good w rows h = each_map rows (λ row e. (e, λ v l. absurd (omega arith))) h

module _ (n w : ℕ) (rows : List Row) (wide : Each (Wide w) rows) (hn : n ≤ 64 * w) where
  end : Walk
  end = walk n 0 rows

  good : Each (Good w 0) rows
  good = wide_good w rows wide

  ends : Walked n 0 rows end
  unfolding end
  ends = walked n 0 rows

  stairs : Stairs n 0 end.pivots end.rows
  stairs = walked_stairs n w hn ends (zero-add n) good

  left_clear : Each (λ row. Clear n row.words) end.left
  left_clear = walked_left n w hn ends (zero-add n) good

  spanned : Each (λ row. InSpan (equations_of n rows) (equation_of n row)) end.rows × Each (λ row. InSpan (equations_of n rows) (equation_of n row)) end.left
  spanned = walked_ahead n w hn n (InSpan (equations_of n rows)) (span_sum (equations_of n rows)) ends (zero-add n) good (unmap rows (span_each (equations_of n rows) (sorted_rows n rows)))
    where
      unmap : (l : List Row) → Each (InSpan (equations_of n rows)) (equations_of n l) → Each (λ row. InSpan (equations_of n rows) (equation_of n row)) l
      unmap [] h = tt
      unmap (r ∷ l) h = (h.0, unmap l h.1)

  as_equations : (P : Equation → Type 0) (l : List Row) → Each (λ row. P (equation_of n row)) l → Each P (equations_of n l)
  as_equations P l h = each_of_map (equation_of n) (λ row. P (equation_of n row)) P l (λ row p. p) h

  -- the rows are in the span of the pivot rows, where no constant is left
  spans : residue end.left ≡ false → Each (InSpan (equations_of n end.rows)) (equations_of n rows)
  spans e =
      as_equations (InSpan rs) rows
      (walked_behind n w hn n (InSpan rs) back ends (zero-add n) good (own end.rows (span_each rs (sorted_rows n end.rows)))
      (each_map end.left none (each_both (λ row. Clear n row.words) (λ row. row.c ≡ 0) end.left left_clear (residue_none end.left e))))
    where
      rs : List Equation
      rs = equations_of n end.rows

      back : (x y : Row) → InSpan rs (sum (equation_of n x) (equation_of n y)) → InSpan rs (equation_of n y) → InSpan rs (equation_of n x)
      back x y p q =
          subst (InSpan rs) (sum_twice (equation_of n x) (equation_of n y) (increasing_columns n x.words) (increasing_columns n y.words))
          (span_sum rs (sum (equation_of n x) (equation_of n y)) (equation_of n y) p q)

      own : (l : List Row) → Each (InSpan rs) (equations_of n l) → Each (λ row. InSpan rs (equation_of n row)) l
      own [] h = tt
      own (r ∷ l) h = (h.0, own l h.1)

      none : (row : Row) → Clear n row.words × (row.c ≡ 0) → InSpan rs (equation_of n row)
      none row h = subst (InSpan rs) (sym (ap₂ eqn (columns_clear n row.words h.0) h.1)) (span_zero rs)

  canonical_end : residue end.left ≡ false → Canonical n (equations_of n rows) (back_sub n end.pivots end.rows (replicate n 0))
  canonical_end e =
      canonical_from_rows n (equations_of n rows) (equations_of n end.rows) (eqn [] 0) (back_sub n end.pivots end.rows (replicate n 0))
      (sorted_rows n end.rows) (as_equations (InSpan (equations_of n rows)) end.rows spanned.0) (spans e)
      (back_length n (replicate n 0) end.pivots end.rows ∙ length-replicate n 0)
      (back_meets n (replicate n 0) (zeros_at n) (length-replicate n 0) 0 end.pivots end.rows stairs)
      (λ v _. back_lead n (replicate n 0) (zeros_at n) (length-replicate n 0) 0 end.pivots end.rows (eqn [] 0) stairs v)

  pub rows_canonical : (x : List ℕ) → dense_elimination n rows ≡ ok x → Canonical n (equations_of n rows) x
  unfolding dense_elimination finish end
  rows_canonical x e = go (residue end.left) refl e
    where
      go : (b : Bool) → residue end.left ≡ b → ◌≡◌ {A = Result (List ℕ)} (elim b [ true ↦ unsolvable | false ↦ ok (back_sub n end.pivots end.rows (replicate n 0)) ]) (ok x) → Canonical n (equations_of n rows) x
      go true p q = absurd (let z : ◌≡◌ {A = ℕ} 0 1 = cc in omega arith)
      go false p q = let s : back_sub n end.pivots end.rows (replicate n 0) ≡ x = cc in subst (Canonical n (equations_of n rows)) s (canonical_end p)

  pub rows_cancel : dense_elimination n rows ≡ unsolvable → (mask : List Bool) × Cancels mask (equations_of n rows)
  unfolding dense_elimination finish end
  rows_cancel e = go (residue end.left) refl e
    where
      go : (b : Bool) → residue end.left ≡ b → ◌≡◌ {A = Result (List ℕ)} (elim b [ true ↦ unsolvable | false ↦ ok (back_sub n end.pivots end.rows (replicate n 0)) ]) unsolvable → (mask : List Bool) × Cancels mask (equations_of n rows)
      go false p q = absurd (let z : ◌≡◌ {A = ℕ} 0 1 = cc in omega arith)
      go true p q =
          let t = residue_some end.left p in
          let row = get_or end.left t.0 no_row in
          let s = each_at (λ r. InSpan (equations_of n rows) (equation_of n r)) end.left no_row t.0 t.1 spanned.1 in
          let c = each_at (λ r. Clear n r.words) end.left no_row t.0 t.1 left_clear in
          (s.mask, empty_row_cancels (equations_of n rows) (equation_of n row) s (columns_clear n row.words c) t.2)

  pub rows_refused : (mask : List Bool) → Cancels mask (equations_of n rows) → dense_elimination n rows ≡ unsolvable
  rows_refused mask k = go (dense_elimination n rows) refl
    where
      go : (r : Result (List ℕ)) → dense_elimination n rows ≡ r → r ≡ unsolvable
      go unsolvable e = refl
      go (ok x) e = absurd (solved_not_cancels (equations_of n rows) x mask (sorted_rows n rows) (rows_canonical x e).meets k)
