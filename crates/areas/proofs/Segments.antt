-- The laws of an area that is segments, one after the other: a read or a write inside segment k is one in that segment alone.
use mathlib.Core.Path.{◌≡◌, refl, sym, ap, ◌∙◌}
use mathlib.Core.List.{List, [], ◌∷◌, ◌++◌, append_assoc}
use Prim.Native.Nat.{ℕ, zero, suc, ◌+◌, ◌<◌, ◌≤◌}
use native.Mathlib.Nat.{add-zero, zero-add, suc-add, add_assoc}
use native.Mathlib.Omega.{arith}
use lib.ListN.{length, get_or, set, length-append, get_or-append}
use lib.Seq.{get_or-append-add, set-append_left}
use Rattle.areas.specs.Stretch.{stretch, put}
use Rattle.areas.specs.Segments.{joined, offset}
use Rattle.areas.proofs.Stretch.{stretch_none, stretch-append_left, stretch-append_right, stretch_whole, put_none, put_all, put-append_left, put-append_right}

-- ---- lengths and offsets

pub length_joined : (segs : List (List ℕ)) → length (joined segs) ≡ offset (length segs) segs
unfolding joined offset
length_joined [] = refl
length_joined (s ∷ segs) = length-append s (joined segs) ∙ ap (λ (n : ℕ). length s + n) (length_joined segs)

-- what lies inside segment k lies inside the area
pub inside_joined : (k : ℕ) (segs : List (List ℕ)) (b : ℕ) → b ≤ length (get_or segs k []) → offset k segs + b ≤ length (joined segs)
unfolding joined offset
inside_joined zero [] b h = omega arith
inside_joined zero (s ∷ segs) b h = rw (zero-add, length-append) (omega arith)
inside_joined (suc k) [] b h = omega arith
inside_joined (suc k) (s ∷ segs) b h = let ih = inside_joined k segs b h in rw length-append (omega arith)

-- segment k + 1 begins where segment k ends
pub offset_next : (k : ℕ) (segs : List (List ℕ)) → offset (suc k) segs ≡ offset k segs + length (get_or segs k [])
unfolding offset
offset_next zero [] = refl
offset_next zero (s ∷ segs) = rw (add-zero, zero-add)
offset_next (suc k) [] = refl
offset_next (suc k) (s ∷ segs) = rw (offset_next k segs, add_assoc)

-- a segment that keeps its length moves no other
pub offset_set : (j k : ℕ) (s : List ℕ) (segs : List (List ℕ)) → length s ≡ length (get_or segs k []) → offset j (set segs k s) ≡ offset j segs
unfolding offset
offset_set j k s [] h = refl
offset_set zero zero s (a ∷ segs) h = refl
offset_set (suc j) zero s (a ∷ segs) h = rw h
offset_set zero (suc k) s (a ∷ segs) h = refl
offset_set (suc j) (suc k) s (a ∷ segs) h = rw (offset_set j k s segs h)

-- ---- reading

pub stretch_joined : (k : ℕ) (segs : List (List ℕ)) (rest : List ℕ) (b n : ℕ) → b + n ≤ length (get_or segs k [])
    → stretch (offset k segs + b) n (joined segs ++ rest) ≡ stretch b n (get_or segs k [])
unfolding joined offset
stretch_joined zero [] rest b zero h = stretch_none _ rest ∙ sym (stretch_none _ [])
stretch_joined zero [] rest b (suc n) h = absurd (omega arith)
stretch_joined zero (s ∷ segs) rest b n h = rw (zero-add, append_assoc) (stretch-append_left b n s (joined segs ++ rest) h)
stretch_joined (suc k) [] rest b zero h = stretch_none _ rest ∙ sym (stretch_none _ [])
stretch_joined (suc k) [] rest b (suc n) h = absurd (omega arith)
stretch_joined (suc k) (s ∷ segs) rest b n h =
    rw (add_assoc, append_assoc) (stretch-append_right (offset k segs + b) n s (joined segs ++ rest) ∙ stretch_joined k segs rest b n h)

pub get_or_joined : (k : ℕ) (segs : List (List ℕ)) (rest : List ℕ) (b d : ℕ) → b < length (get_or segs k [])
    → get_or (joined segs ++ rest) (offset k segs + b) d ≡ get_or (get_or segs k []) b d
unfolding joined offset
get_or_joined zero [] rest b d h = absurd (omega arith)
get_or_joined zero (s ∷ segs) rest b d h = rw (zero-add, append_assoc) (get_or-append s (joined segs ++ rest) d b h)
get_or_joined (suc k) [] rest b d h = absurd (omega arith)
get_or_joined (suc k) (s ∷ segs) rest b d h =
    rw (add_assoc, append_assoc) (get_or-append-add s (joined segs ++ rest) (offset k segs + b) d ∙ get_or_joined k segs rest b d h)

-- ---- writing

pub put_joined : (k : ℕ) (segs : List (List ℕ)) (rest : List ℕ) (b : ℕ) (s : List ℕ) → b + length s ≤ length (get_or segs k [])
    → put (offset k segs + b) s (joined segs ++ rest) ≡ joined (set segs k (put b s (get_or segs k []))) ++ rest
unfolding joined offset
put_joined zero [] rest b [] h = put_none _ rest
put_joined zero [] rest b (x ∷ s) h = absurd (omega arith)
put_joined zero (a ∷ segs) rest b s h = rw (zero-add, append_assoc, append_assoc) (put-append_left b s a (joined segs ++ rest) h)
put_joined (suc k) [] rest b [] h = put_none _ rest
put_joined (suc k) [] rest b (x ∷ s) h = absurd (omega arith)
put_joined (suc k) (a ∷ segs) rest b s h =
    rw (add_assoc, append_assoc, append_assoc)
    (put-append_right (offset k segs + b) s a (joined segs ++ rest) ∙ ap (λ (l : List ℕ). a ++ l) (put_joined k segs rest b s h))

set_append_right : (a l : List ℕ) (i x : ℕ) → set (a ++ l) (length a + i) x ≡ a ++ set l i x
set_append_right [] l i x = rw zero-add
set_append_right (y ∷ a) l i x = rw suc-add (ap (λ (r : List ℕ). y ∷ r) (set_append_right a l i x))

pub set_joined : (k : ℕ) (segs : List (List ℕ)) (rest : List ℕ) (b x : ℕ) → b < length (get_or segs k [])
    → set (joined segs ++ rest) (offset k segs + b) x ≡ joined (set segs k (set (get_or segs k []) b x)) ++ rest
unfolding joined offset
set_joined zero [] rest b x h = absurd (omega arith)
set_joined zero (a ∷ segs) rest b x h = rw (zero-add, append_assoc, append_assoc) (set-append_left a (joined segs ++ rest) b x h)
set_joined (suc k) [] rest b x h = absurd (omega arith)
set_joined (suc k) (a ∷ segs) rest b x h =
    rw (add_assoc, append_assoc, append_assoc)
    (set_append_right a (joined segs ++ rest) (offset k segs + b) x ∙ ap (λ (l : List ℕ). a ++ l) (set_joined k segs rest b x h))

-- ---- a whole segment, and one cell

pub stretch_segment : (k : ℕ) (segs : List (List ℕ)) (rest : List ℕ) (n : ℕ) → length (get_or segs k []) ≡ n
    → stretch (offset k segs) n (joined segs ++ rest) ≡ get_or segs k []
stretch_segment k segs rest n h =
    ap (λ (o : ℕ). stretch o n (joined segs ++ rest)) (sym (add-zero (offset k segs)))
    ∙ stretch_joined k segs rest 0 n (omega arith) ∙ rw (← h) (stretch_whole (get_or segs k []))

pub put_segment : (k : ℕ) (segs : List (List ℕ)) (rest s : List ℕ) → length s ≡ length (get_or segs k [])
    → put (offset k segs) s (joined segs ++ rest) ≡ joined (set segs k s) ++ rest
put_segment k segs rest s h =
    ap (λ (o : ℕ). put o s (joined segs ++ rest)) (sym (add-zero (offset k segs)))
    ∙ put_joined k segs rest 0 s (omega arith) ∙ rw (put_all s (get_or segs k []) h)
