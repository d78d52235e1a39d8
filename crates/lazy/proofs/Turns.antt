-- However the units are cut, the build is the same, and so are its counts.
use mathlib.Core.Path.{◌≡◌, refl, sym, ap, ◌∙◌}
use mathlib.Core.Logic.{◌⊎◌, inl, inr}
use mathlib.Core.List.{List}
use Prim.Native.Nat.{ℕ, zero, suc, ◌+◌, ◌≤◌}
use native.Mathlib.Omega.{arith}
use native.Mathlib.Nat.{add_assoc, suc-add, zero-add}
use lib.ListN.{length}
use Rattle.gf2.specs.Equation.{Equation}
use Rattle.gf2.specs.Result.{Result}
use Rattle.lazy.specs.Lazy.{Build, more, ended, unit, after, start, whole_run, used}
use Rattle.lazy.specs.Cancelled.{unit_cancels, after_cancels}

module _ (n : ℕ) (sys : List Equation) where
  pub after_end : (k : ℕ) (r : Result (List ℕ)) → after k n sys (ended r) ≡ ended r
  unfolding after
  after_end zero r = refl
  after_end (suc k) r = refl

  pub used_end : (k : ℕ) (r : Result (List ℕ)) → used k n sys (ended r) ≡ 0
  unfolding used
  used_end zero r = refl
  used_end (suc k) r = refl

  -- two turns are one
  pub after_add : (j k : ℕ) (b : Build) → after (j + k) n sys b ≡ after k n sys (after j n sys b)
  unfolding after
  after_add zero k b = ap (λ i. after i n sys b) (zero-add k)
  after_add (suc j) k (more s) = ap (λ i. after i n sys (more s)) (suc-add j k) ∙ after_add j k (unit n sys s)
  after_add (suc j) k (ended r) = after_end (suc j + k) r ∙ sym (after_end k r)

  pub used_add : (j k : ℕ) (b : Build) → used (j + k) n sys b ≡ used j n sys b + used k n sys (after j n sys b)
  unfolding after used
  used_add zero k b = ap (λ i. used i n sys b) (zero-add k) ∙ sym (zero-add (used k n sys b))
  used_add (suc j) k (more s) =
      ap (λ i. used i n sys (more s)) (suc-add j k) ∙ ap suc (used_add j k (unit n sys s))
      ∙ sym (suc-add (used j n sys (unit n sys s)) (used k n sys (after j n sys (unit n sys s))))
  used_add (suc j) k (ended r) = used_end (suc j + k) r ∙ sym (used_end k r) ∙ sym (zero-add (used k n sys (ended r)))

  pub cancels_end : (k : ℕ) (r : Result (List ℕ)) → after_cancels k n sys (ended r) ≡ 0
  unfolding after_cancels
  cancels_end zero r = refl
  cancels_end (suc k) r = refl

  -- what two turns cancel adds up
  pub cancels_add : (j k : ℕ) (b : Build) → after_cancels (j + k) n sys b ≡ after_cancels j n sys b + after_cancels k n sys (after j n sys b)
  unfolding after after_cancels
  cancels_add zero k b = ap (λ i. after_cancels i n sys b) (zero-add k) ∙ sym (zero-add (after_cancels k n sys b))
  cancels_add (suc j) k (more s) =
      ap (λ i. after_cancels i n sys (more s)) (suc-add j k) ∙ ap (λ (c : ℕ). unit_cancels sys s + c) (cancels_add j k (unit n sys s))
      ∙ sym (add_assoc (unit_cancels sys s) (after_cancels j n sys (unit n sys s)) (after_cancels k n sys (after j n sys (unit n sys s))))
  cancels_add (suc j) k (ended r) = cancels_end (suc j + k) r ∙ sym (cancels_end k r) ∙ sym (zero-add (after_cancels k n sys (ended r)))

  pub used_le : (k : ℕ) (b : Build) → used k n sys b ≤ k
  unfolding used
  used_le zero b = omega arith
  used_le (suc k) (more s) = let h = used_le k (unit n sys s) in omega arith
  used_le (suc k) (ended r) = omega arith

  -- a turn uses all its units, or the build has ended
  pub used_all : (k : ℕ) (b : Build) → (used k n sys b ≡ k) ⊎ ((r : Result (List ℕ)) × (after k n sys b ≡ ended r))
  unfolding used after
  used_all zero b = inl refl
  used_all (suc k) (more s) = go (used_all k (unit n sys s))
    where
      go : (used k n sys (unit n sys s) ≡ k) ⊎ ((r : Result (List ℕ)) × (after k n sys (unit n sys s) ≡ ended r))
          → (suc (used k n sys (unit n sys s)) ≡ suc k) ⊎ ((r : Result (List ℕ)) × (after k n sys (unit n sys s) ≡ ended r))
      go (inl e) = inl (ap suc e)
      go (inr e) = inr e
  used_all (suc k) (ended r) = inr (r, refl)

  -- the whole, cut anyhow: turns of j units and then of the rest
  pub whole : (j k : ℕ) → j + k ≡ length sys + length sys + n + 1 → after k n sys (after j n sys (more (start n sys))) ≡ whole_run n sys
  unfolding whole_run
  whole j k h = sym (after_add j k (more (start n sys))) ∙ ap (λ i. after i n sys (more (start n sys))) h
