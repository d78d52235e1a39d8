-- The end of a run: the answer, and the rooms zeroed.
use mathlib.Core.Path.{◌≡◌, ap, ◌∙◌}
use mathlib.Core.List.{List, ◌++◌}
use Prim.Native.Nat.{ℕ, ◌-◌, ◌≤◌}
use native.Mathlib.Nat.{sub-zero}
use native.Mathlib.Omega.{arith}
use lib.ListN.{length, take, drop, replicate, length-replicate}
use lib.Seq.{length-take-le}
use Rattle.gf2.specs.Result.{Result, unsolvable, ok}
use Rattle.areas.specs.Stretch.{put, cleared}
use Rattle.areas.proofs.Stretch.{put_all}
use Rattle.answers.specs.Calls.{ran}
use Rattle.answers.specs.Answers.{Answer}
use Rattle.lazy_units.specs.Running.{Answers}

-- the part that was lent is zero, and what lies past it is as it was
pub room_zero : (r kn : ℕ) (b l : List ℕ) → r ≡ kn → kn ≤ length l → b ≡ replicate (length (take r l)) 0 → b ++ drop r l ≡ cleared kn l
unfolding cleared
room_zero r kn b l e h q = let t = length-take-le r l (omega arith) in rw (q, t, e)

-- the words, from their first to their last
pub words_zero : (k size : ℕ) (l l' : List ℕ) → l' ≡ put 0 (replicate (k - 0) 0) l → k ≡ length l → length l ≡ size → l' ≡ replicate size 0
words_zero k size l l' e h g = e ∙ rw (sub-zero k, h) (put_all (replicate (length l) 0) l (length-replicate (length l) 0)) ∙ ap (λ (j : ℕ). replicate j 0) g

module _ (kn kw : ℕ) (solution solution' numbers words numbers' words' : List ℕ) (zn : numbers' ≡ cleared kn numbers) (zw : words' ≡ cleared kw words) where
  abbrev Leaves : Answer → Result (List ℕ) → Type 0
  Leaves a x =
      (a ≡ (ran kn kw x solution numbers words).answer)
      × ((solution' ≡ (ran kn kw x solution numbers words).solution) × ((numbers' ≡ (ran kn kw x solution numbers words).numbers) × (words' ≡ (ran kn kw x solution numbers words).words)))

  pub ends : (x : Result (List ℕ)) (a : Answer) → Answers x a solution solution' → Leaves a x
  ends unsolvable a o = (o.0, (o.1, (zn, zw)))
  ends (ok y) a o = (o.0, (o.1, (zn, zw)))
