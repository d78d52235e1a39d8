-- The merge and the two copies that follow it: the sum stands in one piece.
use mathlib.Core.Path.{◌≡◌, sym, ap, ap₂, ◌∙◌}
use mathlib.Core.List.{List}
use Prim.Native.Nat.{ℕ, ◌+◌, ◌-◌, ◌≤◌}
use native.Mathlib.Nat.{le_of_eq}
use native.Mathlib.Omega.{arith}
use lib.ListN.{length, take, drop, length-drop, take-append-drop}
use lib.Seq.{take_all, length-take-le}
use Rattle.gf2.specs.Equation.{sym_diff}
use Rattle.areas.specs.Stretch.{put}
use Rattle.areas.proofs.Stretch.{length-put, put_then}
use Rattle.equation.specs.Merging.{Ended}

-- the part of a slice from i on, as a loan of it is stated
pub part_from : (l : List ℕ) (i : ℕ) → take (length l - i) (drop i l) ≡ drop i l
part_from l i = take_all (length l - i) (drop i l) (le_of_eq (length-drop i l))

-- what is left of l is written at a, behind the first d variables of the sum, and what is left of r at b, behind that
pub gather : (before : List ℕ) (s : ℕ) {l r o₁ o₂ o₃ x y : List ℕ} {i j d a b : ℕ} → Ended l r i j d → s + length (sym_diff l r) ≤ length before
    → o₁ ≡ put s (take d (sym_diff l r)) before → x ≡ drop i l → a ≡ s + d → o₂ ≡ put a x o₁ → y ≡ drop j r → b ≡ a + (length l - i) → o₃ ≡ put b y o₂
    → o₃ ≡ put s (sym_diff l r) before
gather before s {l} {r} {i = i} {j} {d} e room e₁ ex ea e₂ ey eb e₃ =
    let size = e.size in
    let left : length (drop i l) ≡ length l - i = length-drop i l in
    let done : length (take d (sym_diff l r)) ≡ d = length-take-le d (sym_diff l r) (omega arith) in
    let first : List ℕ = put s (take d (sym_diff l r)) before in
    let long : length (put s (take d (sym_diff l r)) before) ≡ length before = length-put s (take d (sym_diff l r)) before (omega arith) in
    rw (e₃, e₂, e₁, ex, ey, eb, ea)
    (ap (λ (k : ℕ). put (s + d + k) (drop j r) (put (s + d) (drop i l) first)) (sym left)
    ∙ put_then (s + d) (drop i l) (drop j r) first (omega arith)
    ∙ ap₂ (λ (k : ℕ) (z : List ℕ). put (s + k) z first) (sym done) e.rest
    ∙ put_then s (take d (sym_diff l r)) (drop d (sym_diff l r)) before (omega arith)
    ∙ ap (λ (z : List ℕ). put s z before) (take-append-drop d (sym_diff l r)))
