-- The definitions on small systems, by computing.
use mathlib.Core.Path.{◌≡◌, refl}
use mathlib.Core.Logic.{◌⊎◌, inl, inr}
use mathlib.Core.List.{List, [], ◌∷◌}
use mathlib.Core.Bool.{true}
use Prim.Native.Nat.{ℕ, zero, suc, ◌<◌}
use native.Mathlib.Omega.{arith}
use lib.ListN.{get_or}
use lib.Dec.{lit<}
use Rattle.gf2.specs.Equation.{Equation, eqn, Sorted, eval_vars, sym_diff}
use Rattle.gf2.specs.Span.{const_of, Cancels}
use Rattle.gf2.specs.Canonical.{Canonical, HasLead}
use Rattle.gf2.proofs.Spans.{sum_vars, sum_cancels, span_each}

merged : sym_diff (1 ∷ 3 ∷ 4 ∷ []) (0 ∷ 3 ∷ 5 ∷ []) ≡ 0 ∷ 1 ∷ 4 ∷ 5 ∷ []
unfolding sym_diff
merged = refl

-- x0 + x1 = 5, x1 + x2 = 3, x0 + x2 = 7: the sum of the three is 0 = 1
bad : List Equation
bad = eqn (0 ∷ 1 ∷ []) 5 ∷ eqn (1 ∷ 2 ∷ []) 3 ∷ eqn (0 ∷ 2 ∷ []) 7 ∷ []

bad_sorted : Sorted bad
unfolding bad
bad_sorted = (((lit< tt, tt), (tt, tt)), (((lit< tt, tt), (tt, tt)), (((lit< tt, tt), (tt, tt)), tt)))

bad_cancels : Cancels (true ∷ true ∷ true ∷ []) bad
unfolding bad sum_vars const_of sym_diff
bad_cancels = sum_cancels (true ∷ true ∷ true ∷ []) bad bad_sorted refl (λ e. omega arith)

-- x0 + x1 = 5, x1 + x2 = 3: x2 is free, so 0; x1 = 3, x0 = 6
good : List Equation
good = eqn (0 ∷ 1 ∷ []) 5 ∷ eqn (1 ∷ 2 ∷ []) 3 ∷ []

good_sorted : Sorted good
unfolding good
good_sorted = (((lit< tt, tt), (tt, tt)), (((lit< tt, tt), (tt, tt)), tt))

good_canonical : Canonical 3 good (6 ∷ 3 ∷ 0 ∷ [])
unfolding good eval_vars
good_canonical = record { size = refl; meets = (refl, (refl, tt)); zero_or_lead = go }
  where
    go : (v : ℕ) → v < 3 → (◌≡◌ {A = ℕ} (get_or (6 ∷ 3 ∷ 0 ∷ []) v 0) 0) ⊎ HasLead v good
    go zero l = inr (record { row = eqn (0 ∷ 1 ∷ []) 5; spanned = (span_each good good_sorted).0; lead = refl })
    go (suc zero) l = inr (record { row = eqn (1 ∷ 2 ∷ []) 3; spanned = (span_each good good_sorted).1.0; lead = refl })
    go (suc (suc zero)) l = inl refl
    go (suc (suc (suc v))) l = absurd (omega arith)
