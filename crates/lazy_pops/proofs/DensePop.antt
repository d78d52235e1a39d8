-- An equation of priority 0 is popped.
use mathlib.Core.Path.{◌≡◌, refl, sym, ap, ◌∙◌}
use mathlib.Core.Logic.{◌≢◌}
use mathlib.Core.List.{List, [], ◌∷◌}
use Prim.Native.Nat.{ℕ, zero, suc, pred, ◌+◌, ◌<◌}
use native.Mathlib.Omega.{arith}
use lib.ListN.{length, get_or, length-append}
use Rattle.gf2.specs.Equation.{Equation, lists}
use Rattle.gf2.specs.ByNumber.{row_of}
use Rattle.gf2.specs.Result.{Result, unsolvable, ok}
use Rattle.gf2.proofs.Members.{head_listed}
use Rattle.lazy.specs.Lazy.{State, pass_over, copy, pop_dense}
use Rattle.lazy_setup.specs.declared.Layout.{Layout}
use Rattle.lazy_setup.specs.declared.Stand.{Stand}
use Rattle.lazy_setup.specs.Area.{words_of}
use Rattle.lazy_setup.specs.Layout.{stand_of}
use Rattle.lazy_pops.specs.Step.{More, Unsolvable}
use Rattle.lazy_pops.specs.Writes.{copied, CopyAt, CopyDone}
use Rattle.lazy_pops.specs.Pops.{EquationAt, After}
use Rattle.lazy_pops.proofs.Places.{places}
use Rattle.lazy_pops.proofs.Reading.{read_length}
use Rattle.lazy_pops.proofs.DenseWriting.{word_is, words_long}

-- ---- the three cases

pub dense_copy : (e : ℕ) (es : List ℕ) (s : State) → length (row_of s.rows e).vars ≢ 0 → pop_dense e es s ≡ ok (copy e es s)
unfolding pop_dense
dense_copy e es s h = go (row_of s.rows e).vars h
  where
    go : (vs : List ℕ) → length vs ≢ 0
        → ◌≡◌ {A = Result State} (elim vs [ [] ↦ elim (row_of s.rows e).c [ zero ↦ ok (pass_over es s) | suc _ ↦ unsolvable ] | _ ∷ _ ↦ ok (copy e es s) ]) (ok (copy e es s))
    go [] k = absurd (k refl)
    go (v ∷ vs) k = refl

pub dense_clash : (e : ℕ) (es : List ℕ) (s : State) → length (row_of s.rows e).vars ≡ 0 → (row_of s.rows e).c ≢ 0 → pop_dense e es s ≡ unsolvable
unfolding pop_dense
dense_clash e es s h g = go (row_of s.rows e).vars (row_of s.rows e).c h g
  where
    go : (vs : List ℕ) (c : ℕ) → length vs ≡ 0 → c ≢ 0
        → ◌≡◌ {A = Result State} (elim vs [ [] ↦ elim c [ zero ↦ ok (pass_over es s) | suc _ ↦ unsolvable ] | _ ∷ _ ↦ ok (copy e es s) ]) unsolvable
    go [] zero k l = absurd (l refl)
    go [] (suc c) k l = refl
    go (v ∷ vs) c k l = absurd (omega arith)

pub dense_identity : (e : ℕ) (es : List ℕ) (s : State) → length (row_of s.rows e).vars ≡ 0 → (row_of s.rows e).c ≡ 0 → pop_dense e es s ≡ ok (pass_over es s)
unfolding pop_dense
dense_identity e es s h g = go (row_of s.rows e).vars (row_of s.rows e).c h g
  where
    go : (vs : List ℕ) (c : ℕ) → length vs ≡ 0 → c ≡ 0
        → ◌≡◌ {A = Result State} (elim vs [ [] ↦ elim c [ zero ↦ ok (pass_over es s) | suc _ ↦ unsolvable ] | _ ∷ _ ↦ ok (copy e es s) ]) (ok (pass_over es s))
    go [] zero k l = refl
    go [] (suc c) k l = absurd (omega arith)
    go (v ∷ vs) c k l = absurd (omega arith)

-- ---- on the areas

pub record EquationCells (layout : Layout) (e m : ℕ) (stand : Stand) (numbers words : List ℕ) : Type 0 where
  pub low : e < m
  pub cell : layout.lengths + e < length numbers
  pub word : e < length words
  pub room : stand.dense < m

module _ {n m : ℕ} {layout : Layout} {sys : List Equation} {s : State} {e : ℕ} {es : List ℕ} {p : ℕ} {stand : Stand} {numbers words : List ℕ}
    (a : EquationAt n m layout sys s e es p stand numbers words) where
  pub e_low : e < m
  e_low = rw a.shows.laid.many (a.inv.in_stack.below e (ap (lists e) a.next ∙ head_listed e es))

  pub left_over : 0 < s.remaining
  left_over = let t = a.inv.in_stack.total in let q = ap (λ (l : List ℕ). length l) a.next in omega arith

  dense_is : stand.dense ≡ length s.dense
  unfolding stand_of pass_over
  dense_is = ap (λ (x : Stand). x.dense) a.shows.counted

  dense_low : stand.dense < m
  dense_low = let r = a.inv.in_units.room in let q = dense_is in let l = left_over in omega (arith, a.shows.laid.many)

  pub size_is : get_or numbers (layout.lengths + e) 0 ≡ length (row_of s.rows e).vars
  unfolding pass_over
  size_is = read_length a.shows.laid e e_low

  pub copy_at : CopyAt n m layout sys (pass_over es s) e (get_or numbers (layout.lengths + e) 0) stand.dense numbers words
  unfolding pass_over words_of
  copy_at = record { laid = a.shows.laid; words_are = a.words_are; e_in = e_low; size = size_is; d_is = dense_is; d_in = dense_low; small = a.small }

  pub equation_cells : EquationCells layout e m stand numbers words
  equation_cells =
      let p = places a.shows.laid in let l = e_low in let w = words_long copy_at in let d = dense_low in
      record { low = l; cell = omega arith; word = omega arith; room = d }

  constant_is : get_or words e 0 ≡ (row_of s.rows e).c
  unfolding pass_over
  constant_is = word_is copy_at

  pub pop_copied : {numbers' words' : List ℕ} → get_or numbers (layout.lengths + e) 0 ≢ 0 → CopyDone n m layout sys (pass_over es s) e numbers' words'
      → After n m layout sys (pop_dense e es s) (More (record {
        variables = stand.variables;
        equations = stand.equations;
        solved = stand.solved;
        dense = stand.dense + 1;
        remaining = stand.remaining;
        done = stand.done;
      })) numbers' words'
  unfolding pass_over copied copy stand_of
  pop_copied h q =
      rw (dense_copy e es s (λ z. h (size_is ∙ z))) (
        record {
          laid = q.laid;
          counted = rw a.shows.counted (ap (λ (x : ℕ). record {
            variables = length s.variables;
            equations = length es;
            solved = length s.solved;
            dense = x;
            remaining = pred s.remaining;
            done = s.dense_done;
          }) (sym (length-append s.dense (row_of s.rows e ∷ []))));
        },
        q.words_are,
      )

  pub pop_clash : get_or numbers (layout.lengths + e) 0 ≡ 0 → get_or words e 0 ≢ 0 → After n m layout sys (pop_dense e es s) Unsolvable numbers words
  pop_clash h g = rw (dense_clash e es s (sym size_is ∙ h) (λ z. g (constant_is ∙ z))) (record { s = pass_over es s; laid = a.shows.laid })

  pub pop_identity : get_or numbers (layout.lengths + e) 0 ≡ 0 → get_or words e 0 ≡ 0 → After n m layout sys (pop_dense e es s) (More stand) numbers words
  unfolding pass_over words_of
  pop_identity h g = rw (dense_identity e es s (sym size_is ∙ h) (sym constant_is ∙ g)) (a.shows, a.words_are)
