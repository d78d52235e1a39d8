-- A loop that XORs one stretch of an area into another, one word a turn.
use mathlib.Core.Path.{◌≡◌, refl, sym, ap, ap₂, ◌∙◌}
use mathlib.Core.Logic.{◌⊎◌, ⊎_elim}
use mathlib.Core.List.{List, [], ◌∷◌, ◌++◌}
use Prim.Native.Nat.{ℕ, ◌+◌, ◌<◌, ◌≤◌}
use native.Mathlib.Omega.{arith}
use lib.ListN.{length, get_or, set, length-set}
use lib.Bits.{bit_xor}
use Rattle.areas.specs.Stretch.{stretch, put}
use Rattle.areas.proofs.Stretch.{length-stretch, stretch_none, stretch_snoc, put_none, put_more, get_or-put_before, get_or-put_after}
use Rattle.dense_rows.specs.Bits.{xor_words}
use Rattle.dense_rows.proofs.StepLaws.{length-xor_words}

xor_words_snoc : (a b : List ℕ) (x y : ℕ) → length a ≡ length b → xor_words (a ++ (x ∷ [])) (b ++ (y ∷ [])) ≡ xor_words a b ++ (bit_xor x y ∷ [])
unfolding xor_words
xor_words_snoc [] [] x y e = refl
xor_words_snoc [] (v ∷ b) x y e = absurd (omega arith)
xor_words_snoc (u ∷ a) [] x y e = absurd (omega arith)
xor_words_snoc (u ∷ a) (v ∷ b) x y e = ap (λ (l : List ℕ). bit_xor u v ∷ l) (xor_words_snoc a b x y (omega arith))

-- the first k words
pub record Xoring (d : List ℕ) (from to n k : ℕ) (out : List ℕ) : Type 0 where
  pub within : k ≤ n
  pub apart : (from + n ≤ to) ⊎ (to + n ≤ from)
  pub from_room : from + n ≤ length d
  pub room : to + n ≤ length d
  pub long : length out ≡ length d
  pub so_far : out ≡ put to (xor_words (stretch to k d) (stretch from k d)) d

pub xoring_begin : (d : List ℕ) (from to n : ℕ) → (from + n ≤ to) ⊎ (to + n ≤ from) → from + n ≤ length d → to + n ≤ length d → Xoring d from to n 0 d
unfolding xor_words
xoring_begin d from to n h f g = record {
  within = omega arith;
  apart = h;
  from_room = f;
  room = g;
  long = refl;
  so_far = sym (rw (stretch_none to d, stretch_none from d) (put_none to d));
}

pub xoring_turn : {d : List ℕ} {from to n k : ℕ} {out : List ℕ} → Xoring d from to n k out → k < n
    → Xoring d from to n (k + 1) (set out (to + k) (bit_xor (get_or out (to + k) 0) (get_or out (from + k) 0)))
xoring_turn {d} {from} {to} {n} {k} {out} x h =
    let f = x.from_room in
    let g = x.room in
    let s : List ℕ = stretch to k d in
    let t : List ℕ = stretch from k d in
    let es : length s ≡ k = length-stretch to k d (omega arith) in
    let et : length t ≡ k = length-stretch from k d (omega arith) in
    let ex : length (xor_words s t) ≡ k = length-xor_words s t (es ∙ sym et) ∙ es in
    let at-to : get_or out (to + k) 0 ≡ get_or d (to + k) 0 =
    ap (λ (l : List ℕ). get_or l (to + k) 0) x.so_far ∙ get_or-put_after to (to + k) 0 (xor_words s t) d (omega arith) (omega arith) in
    let at_from : get_or out (from + k) 0 ≡ get_or d (from + k) 0 =
    ap (λ (l : List ℕ). get_or l (from + k) 0) x.so_far
    ∙ ⊎_elim (λ z. get_or-put_before to (from + k) 0 (xor_words s t) d (omega arith) (omega arith)) (λ z. get_or-put_after to (from + k) 0 (xor_words s t) d (omega arith) (omega arith)) x.apart in
    let v : ℕ = bit_xor (get_or d (to + k) 0) (get_or d (from + k) 0) in
    let more : set (put to (xor_words s t) d) (to + k) v ≡ put to (xor_words s t ++ (v ∷ [])) d =
    ap (λ (j : ℕ). set (put to (xor_words s t) d) (to + j) v) (sym ex) ∙ put_more to v (xor_words s t) d (omega arith) in
    record {
      within = omega arith;
      apart = x.apart;
      from_room = f;
      room = g;
      long = simp length-set x.long;
      so_far =
          ap₂ (λ (a b : ℕ). set out (to + k) (bit_xor a b)) at-to at_from
          ∙ ap (λ (l : List ℕ). set l (to + k) v) x.so_far
          ∙ more
          ∙ ap (λ (l : List ℕ). put to l d) (sym (xor_words_snoc s t (get_or d (to + k) 0) (get_or d (from + k) 0) (es ∙ sym et)))
          ∙ ap₂ (λ (a b : List ℕ). put to (xor_words a b) d) (sym (stretch_snoc to k d (omega arith))) (sym (stretch_snoc from k d (omega arith)));
    }

pub xoring_end : {d : List ℕ} {from to n k : ℕ} {out : List ℕ} → Xoring d from to n k out → n ≤ k → out ≡ put to (xor_words (stretch to n d) (stretch from n d)) d
xoring_end {d} {from} {to} {n} {k} x h =
    let w = x.within in
    let e : k ≡ n = omega arith in
    rw e at x.so_far
