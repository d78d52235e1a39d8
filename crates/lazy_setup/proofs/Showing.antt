-- An area that shows segments of the layout's lengths: reading and writing one of them.
use mathlib.Core.Path.{◌≡◌, refl, sym, ap, ap₂, ◌∙◌}
use mathlib.Core.List.{List, [], ◌∷◌, ◌++◌, map}
use Prim.Native.Nat.{ℕ, zero, suc, ◌+◌, ◌-◌, ◌≤◌}
use native.Mathlib.Nat.{add-zero, zero-add, sub-zero}
use native.Mathlib.Omega.{arith}
use lib.ListN.{length, drop, get_or, set, replicate, length-append, length-replicate, replicate-append-replicate}
use lib.Seq.{set-get_or}
use Rattle.answers.specs.Sizes.{lazy_numbers}
use Rattle.areas.specs.Rows.{padded}
use Rattle.areas.specs.Stretch.{stretch, put}
use Rattle.areas.specs.Segments.{joined, offset}
use Rattle.std.proofs.lemmas.List.{drop-replicate}
use Rattle.areas.proofs.Rows.{length-padded}
use Rattle.areas.proofs.Segments.{stretch_segment, put_segment, put_joined, inside_joined}
use Rattle.lazy_setup.specs.Layout.{sizes, Shaped}
use Rattle.lazy_setup.specs.Tables.{total}
use Rattle.lazy_setup.proofs.Offsets.{long}

pub record Shows (n m t : ℕ) (rest : List ℕ) (segs : List (List ℕ)) (area : List ℕ) : Type 0 where
  pub shape : Shaped n m t segs
  pub shown : area ≡ joined segs ++ rest

pub zeros_left : (x : ℕ) (s : List ℕ) → length s ≤ x → put 0 s (replicate x 0) ≡ padded x s
unfolding put padded
zeros_left x s h = ap (λ (l : List ℕ). s ++ l) (rw zero-add (drop-replicate (length s) x 0))

map-set : (segs : List (List ℕ)) (k : ℕ) (s : List ℕ) → map (λ s. length s) (set segs k s) ≡ set (map (λ s. length s) segs) k (length s)
map-set [] k s = refl
map-set (a ∷ segs) zero s = refl
map-set (a ∷ segs) (suc k) s = ap (λ (l : List ℕ). length a ∷ l) (map-set segs k s)

module _ {n m t : ℕ} {rest : List ℕ} {segs : List (List ℕ)} {area : List ℕ} (w : Shows n m t rest segs area) where
  set_shape : (k : ℕ) (s : List ℕ) → length s ≡ get_or (sizes n m t) k 0 → Shaped n m t (set segs k s)
  set_shape k s h = map-set segs k s ∙ ap₂ (λ (l : List ℕ) (x : ℕ). set l k x) w.shape h ∙ set-get_or (sizes n m t) k 0

  pub shows_read : (k p x : ℕ) → p ≡ offset k segs → x ≡ get_or (sizes n m t) k 0 → stretch p x area ≡ get_or segs k []
  shows_read k p x e h =
      ap₂ (λ (q : ℕ) (a : List ℕ). stretch q x a) e w.shown ∙ stretch_segment k segs rest x (long n m t segs w.shape k ∙ sym h)

  -- the whole of segment k is written
  pub shows_put : (k p : ℕ) (s : List ℕ) → p ≡ offset k segs → length s ≡ get_or (sizes n m t) k 0 → Shows n m t rest (set segs k s) (put p s area)
  shows_put k p s e h =
      record {
        shape = set_shape k s h;
        shown = ap₂ (λ (q : ℕ) (a : List ℕ). put q s a) e w.shown ∙ put_segment k segs rest s (h ∙ sym (long n m t segs w.shape k));
      }

  -- a list is written into segment k, which holds zeros
  pub shows_fill : (k p : ℕ) (s : List ℕ) → p ≡ offset k segs → get_or segs k [] ≡ replicate (get_or (sizes n m t) k 0) 0 → length s ≤ get_or (sizes n m t) k 0
      → Shows n m t rest (set segs k (padded (get_or (sizes n m t) k 0) s)) (put p s area)
  shows_fill k p s e z h =
      record {
        shape = set_shape k (padded (get_or (sizes n m t) k 0) s) (length-padded (get_or (sizes n m t) k 0) s h);
        shown =
            let y = long n m t segs w.shape k in
            ap₂ (λ (q : ℕ) (a : List ℕ). put q s a) (e ∙ sym (add-zero (offset k segs))) w.shown ∙ put_joined k segs rest 0 s (omega arith)
            ∙ ap (λ (a : List ℕ). joined (set segs k a) ++ rest) (ap (put 0 s) z ∙ zeros_left (get_or (sizes n m t) k 0) s h);
      }

  pub shows_inside : (k p : ℕ) → p ≡ offset k segs → p + get_or (sizes n m t) k 0 ≤ length area
  shows_inside k p e =
      let y = long n m t segs w.shape k in
      let i = inside_joined k segs (get_or (sizes n m t) k 0) (omega arith) in
      let a = ap (λ (l : List ℕ). length l) w.shown ∙ length-append (joined segs) rest in omega arith

-- ---- an area whose room is zeros

total_zeros : (ks : List ℕ) → joined (map (λ k. replicate k 0) ks) ≡ replicate (total ks) 0
unfolding joined total
total_zeros [] = refl
total_zeros (k ∷ ks) = ap (λ (l : List ℕ). replicate k 0 ++ l) (total_zeros ks) ∙ replicate-append-replicate k (total ks) 0

unfoldable pub blanks : ℕ → ℕ → ℕ → List (List ℕ)
blanks n m t = map (λ k. replicate k 0) (sizes n m t)

pub shows_blank : (n m t : ℕ) (l : List ℕ) → lazy_numbers n m t ≤ length l → Shows n m t (drop (lazy_numbers n m t) l) (blanks n m t) (put 0 (replicate (lazy_numbers n m t - 0) 0) l)
unfolding blanks total put
shows_blank n m t l h =
    record {
      shape = lengths_blank (sizes n m t);
      shown =
          let e : total (sizes n m t) ≡ lazy_numbers n m t = omega arith in
          let d : 0 + length (replicate {A = ℕ} (lazy_numbers n m t) 0) ≡ lazy_numbers n m t = zero-add (length (replicate {A = ℕ} (lazy_numbers n m t) 0)) ∙ length-replicate (lazy_numbers n m t) 0 in
          rw (sub-zero, d) (ap (λ (s : List ℕ). s ++ drop (lazy_numbers n m t) l) (sym (total_zeros (sizes n m t) ∙ ap (λ (k : ℕ). replicate k 0) e)));
    }
  where
    lengths_blank : (ks : List ℕ) → map (λ s. length s) (map (λ k. replicate {A = ℕ} k 0) ks) ≡ ks
    lengths_blank [] = refl
    lengths_blank (k ∷ ks) = ap₂ (λ (x : ℕ) (l : List ℕ). x ∷ l) (length-replicate k 0) (lengths_blank ks)
