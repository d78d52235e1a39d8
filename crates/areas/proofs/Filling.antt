-- One value written over a stretch, a cell at a time.
use mathlib.Core.Path.{◌≡◌, sym, ap, ◌∙◌}
use mathlib.Core.List.{List}
use Prim.Native.Nat.{ℕ, ◌+◌, ◌-◌, ◌<◌, ◌≤◌}
use native.Mathlib.Nat.{sub_self}
use native.Mathlib.Omega.{arith}
use lib.ListN.{length, set, replicate, length-replicate}
use Rattle.std.proofs.lemmas.List.{replicate_more}
use Rattle.areas.specs.Stretch.{put}
use Rattle.areas.proofs.Stretch.{put_none, put_more}

module _ {A : Type 0} where
  pub filled_none : (from : ℕ) (v : A) (l : List A) → l ≡ put from (replicate (from - from) v) l
  filled_none from v l = sym (rw sub_self (put_none from l))

  pub filled_more : (from k : ℕ) (v : A) (l : List A) → from ≤ k → k < length l
      → set (put from (replicate (k - from) v) l) k v ≡ put from (replicate (k + 1 - from) v) l
  filled_more from k v l h g =
      let n = length-replicate (k - from) v in
      let e : from + length (replicate (k - from) v) ≡ k = omega arith in
      let f : (k - from) + 1 ≡ k + 1 - from = omega arith in
      ap (λ (j : ℕ). set (put from (replicate (k - from) v) l) j v) (sym e)
      ∙ put_more from v (replicate (k - from) v) l (omega arith)
      ∙ ap (λ (s : List A). put from s l) (replicate_more (k - from) v ∙ ap (λ (j : ℕ). replicate j v) f)
