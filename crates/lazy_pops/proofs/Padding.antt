-- The first cell past a list that is padded with zeros.
use mathlib.Core.Path.{◌≡◌, refl, sym, ap, ◌∙◌}
use mathlib.Core.List.{List, [], ◌∷◌, ◌++◌, append_assoc, reverse, reverse-cons}
use Prim.Native.Nat.{ℕ, suc, ◌+◌, ◌-◌, ◌≤◌, ◌<◌}
use native.Mathlib.Nat.{add-zero, sub-zero}
use native.Mathlib.Omega.{arith}
use lib.ListN.{length, set, replicate, length-append, length-replicate, length-reverse, replicate-append-replicate}
use lib.Seq.{set_at}
use Rattle.areas.specs.Stretch.{put}
use Rattle.areas.specs.Rows.{padded}
use Rattle.areas.proofs.Stretch.{put_all, put-append_left, put-append_right}

pub padded_here : (n : ℕ) (l : List ℕ) → length l < n → padded n l ≡ l ++ (0 ∷ replicate (n - (length l + 1)) 0)
unfolding padded
padded_here n l h = let e : n - length l ≡ suc (n - (length l + 1)) = omega arith in rw e

pub padded_snoc : (n : ℕ) (l : List ℕ) (x : ℕ) → padded n (l ++ (x ∷ [])) ≡ l ++ (x ∷ replicate (n - (length l + 1)) 0)
unfolding padded
padded_snoc n l x = rw (length-append l (x ∷ []), append_assoc l (x ∷ []) (replicate (n - (length l + 1)) 0))

-- one more
pub push_padded : (n : ℕ) (l : List ℕ) (x : ℕ) → length l < n → set (padded n l) (length l) x ≡ padded n (l ++ (x ∷ []))
push_padded n l x h = rw (padded_here n l h, padded_snoc n l x) (set_at l 0 (replicate (n - (length l + 1)) 0) x (length l) refl)

-- one less
pub pop_padded : (n : ℕ) (v : ℕ) (vs : List ℕ) → length vs < n → set (padded n (reverse (v ∷ vs))) (length vs) 0 ≡ padded n (reverse vs)
pop_padded n v vs h =
    let r = length-reverse vs in
    rw (reverse-cons v vs, padded_snoc n (reverse vs) v, padded_here n (reverse vs) (omega arith))
    (set_at (reverse vs) v (replicate (n - (length (reverse vs) + 1)) 0) 0 (length vs) r)

-- a longer list over a shorter one
pub over_padded : (n : ℕ) (s l : List ℕ) → length l ≤ length s → length s ≤ n → put 0 s (padded n l) ≡ padded n s
unfolding padded
over_padded n s l h g =
    let a : ℕ = length s - length l in
    let e : n - length l ≡ a + (n - length s) = omega arith in
    let z : List ℕ = l ++ replicate a 0 in
    let lz : length z ≡ length s = length-append l (replicate a 0) ∙ rw (length-replicate {A = ℕ} a 0) (omega arith) in
    rw (e, ← (replicate-append-replicate {A = ℕ} a (n - length s) 0), ← (append_assoc l (replicate a 0) (replicate (n - length s) 0)))
    (put-append_left 0 s z (replicate (n - length s) 0) (omega arith) ∙ ap (λ (t : List ℕ). t ++ replicate (n - length s) 0) (put_all s z (sym lz)))

-- several more
pub push_many : (k : ℕ) (l s : List ℕ) → length l + length s ≤ k → put (length l) s (padded k l) ≡ padded k (l ++ s)
unfolding padded
push_many k l s h =
    let z : List ℕ = replicate (k - length l) 0 in
    let e : k - (length l + length s) ≡ k - length l - length s = omega arith in
    let o : put 0 s (replicate (k - length l) 0) ≡ s ++ replicate (k - length l - length s) 0 =
    rw sub-zero at (over_padded (k - length l) s [] (omega arith) (omega arith)) in
    ap (λ (b : ℕ). put b s (l ++ z)) (sym (add-zero (length l))) ∙ put-append_right 0 s l z
    ∙ rw (length-append l s, e, append_assoc l s (replicate (k - length l - length s) 0)) (ap (λ (t : List ℕ). l ++ t) o)
