-- Segments read and written at their places.
use mathlib.Core.Path.{◌≡◌, sym, ◌∙◌}
use mathlib.Core.List.{List, [], ◌++◌, append-nil}
use Prim.Native.Nat.{ℕ, ◌+◌, ◌<◌, ◌≤◌}
use lib.ListN.{length, get_or, set, length-set}
use lib.Seq.{map-set_same}
use Rattle.areas.specs.Segments.{joined, offset}
use Rattle.areas.specs.Stretch.{stretch, put}
use Rattle.areas.proofs.Segments.{get_or_joined, stretch_joined, put_joined, set_joined}
use Rattle.areas.proofs.Stretch.{length-put}
use Rattle.lazy_setup.specs.Layout.{Shaped}

-- an area that is nothing but segments of the layout's lengths
pub record Segmented (n m t : ℕ) (segs : List (List ℕ)) (numbers : List ℕ) : Type 0 where
  pub shape : Shaped n m t segs
  pub shown : numbers ≡ joined segs

module _ {n m t : ℕ} {segs : List (List ℕ)} {numbers : List ℕ} (g : Segmented n m t segs numbers) (k a : ℕ) (place : offset k segs ≡ a) where
  as_appended : numbers ≡ joined segs ++ []
  as_appended = g.shown ∙ sym (append-nil (joined segs))

  pub read_cell : (b : ℕ) → b < length (get_or segs k []) → get_or numbers (a + b) 0 ≡ get_or (get_or segs k []) b 0
  read_cell b h = rw (as_appended, ← place) (get_or_joined k segs [] b 0 h)

  pub read_part : (b l : ℕ) → b + l ≤ length (get_or segs k []) → stretch (a + b) l numbers ≡ stretch b l (get_or segs k [])
  read_part b l h = rw (as_appended, ← place) (stretch_joined k segs [] b l h)

  reshaped : (s : List ℕ) → length s ≡ length (get_or segs k []) → Shaped n m t (set segs k s)
  reshaped s h = map-set_same (λ l. length l) segs k s [] h ∙ g.shape

  pub write_cell : (b x : ℕ) → b < length (get_or segs k []) → Segmented n m t (set segs k (set (get_or segs k []) b x)) (set numbers (a + b) x)
  write_cell b x h = record {
    shape = reshaped (set (get_or segs k []) b x) (length-set (get_or segs k []) b x);
    shown = rw (as_appended, ← place) (set_joined k segs [] b x h ∙ append-nil (joined (set segs k (set (get_or segs k []) b x))));
  }

  pub write_part : (b : ℕ) (s : List ℕ) → b + length s ≤ length (get_or segs k []) → Segmented n m t (set segs k (put b s (get_or segs k []))) (put (a + b) s numbers)
  write_part b s h = record {
    shape = reshaped (put b s (get_or segs k [])) (length-put b s (get_or segs k []) h);
    shown = rw (as_appended, ← place) (put_joined k segs [] b s h ∙ append-nil (joined (set segs k (put b s (get_or segs k [])))));
  }
