-- The last unit.
use mathlib.Core.Path.{◌≡◌, refl, sym, ap}
use mathlib.Core.List.{List}
use mathlib.Core.Bool.{Bool, true, false}
use Prim.Native.Nat.{ℕ, ◌-◌, ◌≤◌}
use native.Mathlib.Omega.{arith}
use lib.ListN.{length, take, drop, replicate}
use Rattle.gf2.specs.Equation.{Equation}
use Rattle.gf2.specs.Result.{Result, unsolvable, ok}
use Rattle.gf2.proofs.Results.{unsolvable≢ok, ok_same}
use Rattle.rows.specs.Picture.{Held, rows_of}
use Rattle.rows.proofs.Holding.{held, carried}
use Rattle.sparse_rules.specs.Eliminate.{contradicted, back_sub, finish}
use Rattle.sparse_rows.specs.Reduce.{FinishedBy, left, filled}
use Rattle.sparse_rows.specs.Reduction.{Reduction}
use Rattle.sparse_rows.specs.Reduction as reduction
use Rattle.lazy.specs.Lazy.{State, fill, last_unit}
use Rattle.lazy_setup.specs.declared.Layout.{Layout}
use Rattle.lazy_setup.specs.declared.Stand.{Stand}
use Rattle.lazy_setup.specs.Layout.{stand_of}
use Rattle.lazy_pops.specs.Step as step
use Rattle.lazy_pops.proofs.Places.{places}
use Rattle.lazy_units.specs.Units.{Stands, Over}
use Rattle.lazy_units.specs.Ending.{FillAt, UnitAt}
use Rattle.lazy_units.proofs.DensePart as part
use Rattle.lazy_units.proofs.ClearRow.{dense_count, dense_low, dense_there, words_long}
use Rattle.lazy_units.proofs.Tails.{tail_is}

last_refused : (n : ℕ) (s : State) → finish n s.dense ≡ unsolvable → last_unit n s ≡ unsolvable
unfolding finish last_unit
last_refused n s = go (contradicted s.dense)
  where
    go : (b : Bool) → ◌≡◌ {A = Result (List ℕ)} (elim b [ true ↦ unsolvable | false ↦ ok (back_sub s.dense (replicate n 0)) ]) unsolvable
        → ◌≡◌ {A = Result (List ℕ)} (elim b [ true ↦ unsolvable | false ↦ ok (fill s.rows s.solved (back_sub s.dense (replicate n 0))) ]) unsolvable
    go true e = refl
    go false e = absurd (unsolvable≢ok (sym e))

last_solved : (n : ℕ) (s : State) (x : List ℕ) → finish n s.dense ≡ ok x → last_unit n s ≡ ok (fill s.rows s.solved x)
unfolding finish last_unit
last_solved n s x = go (contradicted s.dense)
  where
    go : (b : Bool) → ◌≡◌ {A = Result (List ℕ)} (elim b [ true ↦ unsolvable | false ↦ ok (back_sub s.dense (replicate n 0)) ]) (ok x)
        → ◌≡◌ {A = Result (List ℕ)} (elim b [ true ↦ unsolvable | false ↦ ok (fill s.rows s.solved (back_sub s.dense (replicate n 0))) ]) (ok (fill s.rows s.solved x))
    go true e = absurd (unsolvable≢ok e)
    go false e = ap (λ (y : List ℕ). ok (fill s.rows s.solved y)) (ok_same e)

module _ {o : Result (List ℕ)} {x x' : List ℕ} where
  left_is : {r : Reduction} → FinishedBy o x x' r → r ≡ reduction.Unsolvable → (o ≡ unsolvable) × (x' ≡ x)
  left_is (left e k) q = (e, k)
  left_is (filled e) q = let z : ◌≡◌ {A = ℕ} 0 1 = cc in absurd (omega arith)

  filled_is : {r : Reduction} → FinishedBy o x x' r → r ≡ reduction.Reduced → o ≡ ok x'
  filled_is (left e k) q = let z : ◌≡◌ {A = ℕ} 0 1 = cc in absurd (omega arith)
  filled_is (filled e) q = e

pub record LastCells (n m : ℕ) (layout : Layout) (stand : Stand) (numbers words solution : List ℕ) : Type 0 where
  pub place : layout.dense ≤ length numbers
  pub word_place : m ≤ length words
  pub asks : Held n m (take (length numbers - layout.dense) (drop layout.dense numbers)) (take (length words - m) (drop m words)) × (stand.dense ≤ m) × (length solution ≡ n)

module _ {n m : ℕ} {layout : Layout} {sys : List Equation} {s : State} {stand : Stand} {numbers words solution : List ℕ} (a : UnitAt n m layout sys s stand numbers words solution) where
  abbrev st : Stands n m layout sys s stand numbers words
  st = a.stands

  pub last_cells : LastCells n m layout stand numbers words solution
  last_cells =
      let p = places st.shows.laid in let w = words_long st in let c = dense_count st in let l = dense_low st in
      record {
        place = omega arith;
        word_place = omega arith;
        asks = (rw (tail_is layout.dense numbers, tail_is m words) (held (dense_there st)), omega arith, a.long);
      }

  module _ {x : List ℕ} {r : Reduction}
      (q : FinishedBy (finish n (take stand.dense (rows_of n m (take (length numbers - layout.dense) (drop layout.dense numbers)) (take (length words - m) (drop m words))))) solution x r) where
    came : FinishedBy (finish n s.dense) solution x r
    came =
        let c = carried (dense_there st) (λ rows rest rest'. FinishedBy (finish n (take stand.dense rows)) solution x r) (rw (tail_is layout.dense numbers, tail_is m words) at q) in
        let u : take stand.dense (part.filled m s.dense) ≡ s.dense = rw (dense_count st) (part.in_use m s.dense) in
        rw u at c

    pub finish_refused : r ≡ reduction.Unsolvable → Over (last_unit n s) step.Unsolvable solution x
    finish_refused e = rw (last_refused n s (left_is came e).0) (left_is came e).1

    pub finish_solved : r ≡ reduction.Reduced → {x' : List ℕ} → x' ≡ fill s.rows s.solved x → Over (last_unit n s) step.Solved solution x'
    finish_solved e f = rw (last_solved n s x (filled_is came e)) f

  pub fill_at : FillAt n m layout sys s stand.solved numbers words
  unfolding stand_of
  fill_at = record {
    laid = st.shows.laid;
    words_are = st.words_are;
    rising = st.fit.rising;
    solved_in = st.fit.solved_in;
    k_is = ap (λ (x : Stand). x.solved) st.shows.counted;
  }
