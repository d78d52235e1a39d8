-- What is left once the sum stands in one piece: zeros behind it.
use mathlib.Core.Path.{◌≡◌}
use mathlib.Core.List.{List}
use Prim.Native.Nat.{ℕ, ◌+◌, ◌-◌, ◌≤◌}
use native.Mathlib.Nat.{zero-add}
use native.Mathlib.Omega.{arith}
use lib.ListN.{length, replicate}
use Rattle.areas.specs.Stretch.{put, zeroed}
use Rattle.areas.specs.Rows.{padded}
use Rattle.areas.proofs.Stretch.{put_then}

-- zeros behind a list that was written: it stands there padded
pub zeroed_behind : (b n : ℕ) (vs area : List ℕ) → b + length vs ≤ length area → zeroed (b + length vs) (b + n) (put b vs area) ≡ put b (padded n vs) area
unfolding padded
zeroed_behind b n vs area h =
    let k : b + n - (b + length vs) ≡ n - length vs = omega arith in
    rw k (put_then b vs (replicate (n - length vs) 0) area h)

-- the same of a list at the front, from the equations of the calls
pub settle_front : (vs before : List ℕ) (n : ℕ) {o₁ o₂ : List ℕ} {len : ℕ} → length vs ≤ length before → len ≡ length vs → o₁ ≡ put 0 vs before → o₂ ≡ zeroed len n o₁
    → o₂ ≡ put 0 (padded n vs) before
settle_front vs before n room size e₁ e₂ = rw (e₂, e₁, size) (rw (zero-add (length vs), zero-add n) at (zeroed_behind 0 n vs before (omega arith)))
