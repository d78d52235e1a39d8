-- Dense elimination solves, refuses exactly where the equations cancel, and its answer is canonical, isolated and narrow.
use mathlib.Core.Path.{◌≡◌}
use mathlib.Core.Logic.{◌↔◌}
use mathlib.Core.List.{List}
use mathlib.Core.Bool.{Bool, true}
use Prim.Native.Nat.{ℕ, ◌^◌, ◌<◌}
use native.Mathlib.Omega.{arith}
use lib.ListN.{length, get_or}
use Rattle.gf2.specs.Equation.{Each, MeetsAll}
use Rattle.gf2.specs.Span.{Cancels}
use Rattle.gf2.specs.Canonical.{Canonical}
use Rattle.gf2.specs.Ours.{Apart, our_part}
use Rattle.gf2.specs.Result.{unsolvable, ok}
use Rattle.gf2.proofs.EachMap.{each_of_map}
use Rattle.gf2.proofs.Canon.{isolated, canonical_lt}
use Rattle.answers.specs.Answers.{Kept}
use Rattle.dense_rows.specs.Bits.{equation_of}
use Rattle.dense_rows.specs.Rows.{row_at, rows_of}
use Rattle.dense_rows.proofs.StepLaws.{Wide}
use Rattle.dense_rows.proofs.HeldLaws.{rows_wide, rows_each}
use Rattle.dense_walk.specs.Eliminate.{dense_elimination}
use Rattle.dense_rows.specs.Rules.{dense_rules}
use Rattle.dense.specs.Call.{dense_equations}
use Rattle.dense_rows.specs.Fits.{DenseFits}
use Rattle.dense_rows.proofs.Lending.{dense_kept_sound}
use Rattle.dense_walk.proofs.RowTheorems.{sorted_rows, rows_canonical, rows_cancel, rows_refused}

module _ (n m w : ℕ) (rows constants : List ℕ) (kept : dense_rules n m w rows constants ≡ Kept) where
  lent : DenseFits n m w rows constants
  lent = dense_kept_sound n m w rows constants kept

  wide : Each (Wide w) (rows_of m w rows constants)
  wide = rows_wide m w rows constants lent.rows_there

  pub dense_canonical : (x : List ℕ) → dense_elimination n (rows_of m w rows constants) ≡ ok x → Canonical n (dense_equations n m w rows constants) x
  dense_canonical = rows_canonical n w (rows_of m w rows constants) wide lent.columns_there

  pub dense_solves : (x : List ℕ) → dense_elimination n (rows_of m w rows constants) ≡ ok x → (length x ≡ n) × MeetsAll x (dense_equations n m w rows constants)
  dense_solves x e = ((dense_canonical x e).size, (dense_canonical x e).meets)

  pub dense_refuses : dense_elimination n (rows_of m w rows constants) ≡ unsolvable → (mask : List Bool) × Cancels mask (dense_equations n m w rows constants)
  dense_refuses = rows_cancel n w (rows_of m w rows constants) wide lent.columns_there

  pub dense_exact : (dense_elimination n (rows_of m w rows constants) ≡ unsolvable) ↔ ((mask : List Bool) × Cancels mask (dense_equations n m w rows constants))
  dense_exact = (dense_refuses, λ t. rows_refused n w (rows_of m w rows constants) wide lent.columns_there t.0 t.1)

  pub dense_narrow : (k : ℕ) → ((i : ℕ) → i < m → get_or constants i 0 < 2 ^ k) → (x : List ℕ) → dense_elimination n (rows_of m w rows constants) ≡ ok x → (v : ℕ) → get_or x v 0 < 2 ^ k
  unfolding row_at
  dense_narrow k h x e =
      canonical_lt k n (dense_equations n m w rows constants) x (sorted_rows n (rows_of m w rows constants))
      (each_of_map (equation_of n) (λ row. row.c < 2 ^ k) (λ q. q.c < 2 ^ k) (rows_of m w rows constants) (λ row p. p)
      (rows_each (λ row. row.c < 2 ^ k) m w 0 rows constants (λ j _ l. h j (omega arith)))) (dense_canonical x e)

-- Two systems over n cells with the same equations of ours, in the same order: the answers agree at our cells, whatever
-- the other equations, their number and their places.
pub dense_isolated : (P : ℕ → Bool) (n m w m' w' : ℕ) (rows constants rows' constants' : List ℕ) → dense_rules n m w rows constants ≡ Kept → dense_rules n m' w' rows' constants' ≡ Kept
    → Apart P (dense_equations n m w rows constants) → Apart P (dense_equations n m' w' rows' constants')
    → our_part P (dense_equations n m w rows constants) ≡ our_part P (dense_equations n m' w' rows' constants')
    → (x y : List ℕ) → dense_elimination n (rows_of m w rows constants) ≡ ok x → dense_elimination n (rows_of m' w' rows' constants') ≡ ok y
    → (v : ℕ) → P v ≡ true → get_or x v 0 ≡ get_or y v 0
dense_isolated P n m w m' w' rows constants rows' constants' k k' a a' same x y e e' =
    isolated P n n (dense_equations n m w rows constants) (dense_equations n m' w' rows' constants') x y
    (sorted_rows n (rows_of m w rows constants)) (sorted_rows n (rows_of m' w' rows' constants')) a a' same
    (dense_canonical n m w rows constants k x e) (dense_canonical n m' w' rows' constants' k' y e')
