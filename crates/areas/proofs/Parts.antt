-- What std's methods on slices leave, as writes: a part that was lent and changed, a copy within, the halves of an exchange.
use mathlib.Core.Path.{◌≡◌, sym, ap, ap₂, ◌∙◌}
use mathlib.Core.List.{List, ◌++◌, append_assoc}
use Prim.Native.Nat.{ℕ, ◌+◌, ◌-◌, ◌≤◌}
use native.Mathlib.Nat.{zero-add}
use native.Mathlib.Omega.{arith}
use lib.ListN.{length, take, drop, length-drop, take-append-drop}
use lib.Seq.{length-take-le, drop-drop}
use Rattle.std.specs.List.{copy_within}
use borrow.Rule.Slice.PartMut.{put_mid}
use Rattle.areas.specs.Stretch.{stretch, put, exchanged}
use Rattle.areas.proofs.Stretch.{put-append_left, put-append_right, stretch-take, length-stretch}

module _ {A : Type 0} where
  pub put_mid_is_put : (b k : ℕ) (l s : List A) → length s ≡ k → put_mid b k l s ≡ put b s l
  unfolding put
  put_mid_is_put b k l s h = ap (λ (d : List A). take b l ++ (s ++ d)) (drop-drop k b l ∙ ap (λ (n : ℕ). drop (b + n) l) (sym h))

  pub copy_within_is_put : (l : List A) (from n to : ℕ) → from + n ≤ length l → copy_within l from (from + n) to ≡ put to (stretch from n l) l
  unfolding put stretch
  copy_within_is_put l from n to h =
      let e : from + n - from ≡ n = omega arith in
      let f = length-drop from l in
      let k : length (take n (drop from l)) ≡ n = length-take-le n (drop from l) (omega arith) in
      rw (e, k) (simp append_assoc)

  -- halves that were cut at q, after a stretch of the one and the first elements of the other have changed places
  pub exchanged_halves : (p q n : ℕ) (l front back s t : List A) → front ≡ take q l → back ≡ drop q l → s ≡ take n back → t ≡ take (p + n - p) (drop p front)
      → p + n ≤ q → q + n ≤ length l → put_mid p (p + n - p) front s ++ (t ++ drop n back) ≡ exchanged p q n l
  unfolding put stretch
  exchanged_halves p q n l front back s t hf hb hs ht h g =
      let a : length front ≡ q = ap length hf ∙ length-take-le q l (omega arith) in
      let at-q : length front + 0 ≡ q = omega arith in
      let e : p + n - p ≡ n = omega arith in
      let es : s ≡ stretch q n l = hs ∙ ap (λ (d : List A). take n d) hb in
      let et : t ≡ stretch p n l = ht ∙ ap₂ (λ (k : ℕ) (d : List A). take k (drop p d)) e hf ∙ stretch-take p n q l h in
      let ms : length s ≡ n = ap length es ∙ length-stretch q n l g in
      let mt : length t ≡ n = ap length et ∙ length-stretch p n l (omega arith) in
      let joined : front ++ back ≡ l = ap₂ (λ (x y : List A). x ++ y) hf hb ∙ take-append-drop q l in
      let left : put_mid p (p + n - p) front s ≡ put p s front = put_mid_is_put p (p + n - p) front s (ms ∙ sym e) in
      let right : t ++ drop n back ≡ put 0 t back = ap (λ (k : ℕ). t ++ drop k back) (sym (zero-add (length t) ∙ mt)) in
      ap₂ (λ (x y : List A). x ++ y) left right
      ∙ sym (put-append_left p s front (put 0 t back) (omega arith))
      ∙ ap (put p s) (sym (put-append_right 0 t front back))
      ∙ ap₂ (λ (k : ℕ) (x : List A). put p s (put k t x)) at-q joined
      ∙ ap₂ (λ (x y : List A). put p x (put q y l)) es et
