-- A stack in a stretch of an area: a push there, said of the whole area.
use mathlib.Core.Path.{◌≡◌, refl, ap, ◌∙◌}
use mathlib.Core.List.{List}
use Prim.Native.Nat.{ℕ, ◌+◌, ◌-◌, ◌≤◌, ◌<◌}
use native.Mathlib.Omega.{arith}
use lib.ListN.{length, set}
use lib.Dec.{leb, le→leb}
use borrow.Rule.Slice.PartMut.{mid_of, put_mid, mid_len, set_mid_at}
use Rattle.gf2.proofs.Tests.{ltb_yes, T→true}
use Rattle.stack_steps.specs.declared.Head.{Head}
use Rattle.stack_steps.specs.Stacks.{PushCall, pushed, fast_push, push_upper}

-- ---- a stack that is not full

fast_pushes : (s : List ℕ) (h : Head) (v : ℕ) → h.lower < length s → fast_push s h v ≡ pushed (set s h.lower v) (h.lower + 1) h.upper
fast_pushes s h v free = rw (ltb_yes h.lower (length s) free) refl

upper_pushes : (s : List ℕ) (h : Head) (v : ℕ) → h.upper ≤ length s → h.lower < h.upper
    → push_upper s h v ≡ pushed (set s (h.upper - 1) v) h.lower (h.upper - 1)
upper_pushes s h v fits free = rw (T→true (leb h.upper (length s)) (le→leb h.upper (length s) fits)) (rw (ltb_yes h.lower h.upper free) refl)

-- ---- one that begins at n

inside : (xs : List ℕ) (n k : ℕ) → n + k < length xs → k < length (mid_of n (length xs - n) xs)
inside xs n k l =
    let size : length (mid_of n (length xs - n) xs) ≡ length xs - n = mid_len n (length xs) xs (omega arith) in
    omega arith

pub push_from : (xs ys : List ℕ) (h : Head) (n v : ℕ) → n + h.lower < length xs → ys ≡ (fast_push (mid_of n (length xs - n) xs) h v).stack
    → put_mid n (length xs - n) xs ys ≡ set xs (n + h.lower) v
push_from xs ys h n v l e =
    ap (λ z. put_mid n (length xs - n) xs z) (e ∙ ap (λ (p : PushCall). p.stack) (fast_pushes (mid_of n (length xs - n) xs) h v (inside xs n h.lower l)))
    ∙ set_mid_at n (length xs - n) h.lower xs v (inside xs n h.lower l)

-- ---- the upper one of two in the n cells from n on, with k pushed before

pub push_upper_from : (xs ys : List ℕ) (h : Head) (n k v : ℕ) → k < n → n + n ≤ length xs → h.lower ≡ 0 → h.upper ≡ n - k
    → ys ≡ (push_upper (mid_of n (n + n - n) xs) h v).stack → put_mid n (n + n - n) xs ys ≡ set xs (n + n - (k + 1)) v
push_upper_from xs ys h n k v few long low up e =
    let size : length (mid_of n (n + n - n) xs) ≡ n + n - n = mid_len n (n + n) xs long in
    let fits : h.upper ≤ length (mid_of n (n + n - n) xs) = omega arith in
    let free : h.lower < h.upper = omega arith in
    let here : h.upper - 1 < length (mid_of n (n + n - n) xs) = omega arith in
    let at : n + (h.upper - 1) ≡ n + n - (k + 1) = omega arith in
    ap (λ z. put_mid n (n + n - n) xs z) (e ∙ ap (λ (p : PushCall). p.stack) (upper_pushes (mid_of n (n + n - n) xs) h v fits free))
    ∙ (set_mid_at n (n + n - n) (h.upper - 1) xs v here ∙ ap (λ i. set xs i v) at)
