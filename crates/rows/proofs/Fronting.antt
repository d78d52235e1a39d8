-- Fronts of two stretches that change places, some elements a turn.
use mathlib.Core.Path.{◌≡◌, sym, ap, ap₂, ◌∙◌}
use mathlib.Core.List.{List, [], ◌∷◌, ◌++◌}
use Prim.Native.Nat.{ℕ, ◌+◌, ◌-◌, ◌*◌, ◌<◌, ◌≤◌}
use native.Mathlib.Nat.{add-zero}
use native.Mathlib.Omega.{arith}
use lib.ListN.{length, get_or, set}
use Rattle.areas.specs.Stretch.{stretch, put, exchanged}
use Rattle.areas.proofs.Stretch.{put_none, put_then, put_comm, put_more, set_is_put, length-put, length-stretch, stretch_none, stretch_snoc, stretch_split, stretch-put_before, stretch-put_after}
use Rattle.rows.specs.Front.{Exchanged}

-- i of each, and then w of each behind them
pub exchanged_then : (d : List ℕ) (p q i w : ℕ) → p + (i + w) ≤ q → q + (i + w) ≤ length d → exchanged (p + i) (q + i) w (exchanged p q i d) ≡ exchanged p q (i + w) d
exchanged_then d p q i w h g =
    let s : List ℕ = stretch q i d in
    let t : List ℕ = stretch p i d in
    let s' : List ℕ = stretch (q + i) w d in
    let t' : List ℕ = stretch (p + i) w d in
    let es : length s ≡ i = length-stretch q i d (omega arith) in
    let et : length t ≡ i = length-stretch p i d (omega arith) in
    let et' : length t' ≡ w = length-stretch (p + i) w d (omega arith) in
    let e : length (put q t d) ≡ length d = length-put q t d (omega arith) in
    let e' : length (put q (t ++ t') d) ≡ length d = ap length (sym (behind q t t' d et (omega arith))) ∙ length-put (q + i) t' (put q t d) (omega arith) ∙ e in
    let at-q : stretch (q + i) w (put p s (put q t d)) ≡ s' =
    stretch-put_after (q + i) w p s (put q t d) (omega arith) (omega arith) ∙ stretch-put_after (q + i) w q t d (omega arith) (omega arith) in
    let at_p : stretch (p + i) w (put p s (put q t d)) ≡ t' =
    stretch-put_after (p + i) w p s (put q t d) (omega arith) (omega arith) ∙ stretch-put_before (p + i) w q t d (omega arith) (omega arith) in
    ap₂ (λ (x y : List ℕ). put (p + i) x (put (q + i) y (put p s (put q t d)))) at-q at_p
    ∙ ap (λ (x : List ℕ). put (p + i) s' x) (sym (put_comm p (q + i) s t' (put q t d) (omega arith) (omega arith)))
    ∙ ap (λ (x : List ℕ). put (p + i) s' (put p s x)) (behind q t t' d et (omega arith))
    ∙ behind p s s' (put q (t ++ t') d) es (omega arith)
    ∙ sym (ap₂ (λ (x y : List ℕ). put p x (put q y d)) (stretch_split q i w d) (stretch_split p i w d))
  where
    behind : (b : ℕ) (a c l : List ℕ) → length a ≡ i → b + i ≤ length l → put (b + i) c (put b a l) ≡ put b (a ++ c) l
    behind b a c l k f = ap (λ (m : ℕ). put (b + m) c (put b a l)) (sym k) ∙ put_then b a c l (omega arith)

-- none of each
pub exchanged_none : (d : List ℕ) (p q : ℕ) → d ≡ exchanged p q 0 d
exchanged_none d p q = sym (rw (stretch_none p d, stretch_none q d, put_none q d) (put_none p d))

-- r more of each, behind i
pub front_turn : (d : List ℕ) (p q n i r : ℕ) (out out' : List ℕ) → p + n ≤ q → q + n ≤ length d → i < n → out ≡ exchanged p q i d → Exchanged out (p + i) (q + i) 1 (n - i) out' r
    → (i + r ≤ n) × (out' ≡ exchanged p q (i + r) d)
front_turn d p q n i r out out' h g l e x =
    let w = x.within in
    (omega arith, x.done ∙ ap (exchanged (p + i) (q + i) r) e ∙ exchanged_then d p q i r (omega arith) (omega arith))

-- ---- four of each, read before one is written

abbrev pub four : ℕ → List ℕ → List ℕ
four b l = get_or l b 0 ∷ get_or l (b + 1) 0 ∷ get_or l (b + 2) 0 ∷ get_or l (b + 3) 0 ∷ []

four_read : (b : ℕ) (l : List ℕ) → b + 4 ≤ length l → stretch b 4 l ≡ four b l
four_read b l h =
    rw (stretch_snoc b 3 l (omega arith), stretch_snoc b 2 l (omega arith), stretch_snoc b 1 l (omega arith), stretch_snoc b 0 l (omega arith), stretch_none b l, add-zero b)

four_set : (b x y z w : ℕ) (l : List ℕ) → b + 4 ≤ length l → set (set (set (set l b x) (b + 1) y) (b + 2) z) (b + 3) w ≡ put b (x ∷ y ∷ z ∷ w ∷ []) l
four_set b x y z w l h =
    rw (set_is_put b x l (omega arith))
    (ap (λ (o : List ℕ). set (set o (b + 2) z) (b + 3) w) (put_more b y (x ∷ []) l (omega arith))
    ∙ ap (λ (o : List ℕ). set o (b + 3) w) (put_more b z (x ∷ y ∷ []) l (omega arith))
    ∙ put_more b w (x ∷ y ∷ z ∷ []) l (omega arith))

pub four_done : (d : List ℕ) (p q : ℕ) → p + 4 ≤ q → q + 4 ≤ length d
    → set (set (set (set (set (set (set (set d q (get_or d p 0)) (q + 1) (get_or d (p + 1) 0)) (q + 2) (get_or d (p + 2) 0)) (q + 3) (get_or d (p + 3) 0))
    p (get_or d q 0)) (p + 1) (get_or d (q + 1) 0)) (p + 2) (get_or d (q + 2) 0)) (p + 3) (get_or d (q + 3) 0) ≡ exchanged p q 4 d
four_done d p q h g =
    ap (λ (o : List ℕ). set (set (set (set o p (get_or d q 0)) (p + 1) (get_or d (q + 1) 0)) (p + 2) (get_or d (q + 2) 0)) (p + 3) (get_or d (q + 3) 0))
    (four_set q (get_or d p 0) (get_or d (p + 1) 0) (get_or d (p + 2) 0) (get_or d (p + 3) 0) d g)
    ∙ four_set p (get_or d q 0) (get_or d (q + 1) 0) (get_or d (q + 2) 0) (get_or d (q + 3) 0) (put q (four p d) d) (omega (arith, length-put q (four p d) d g))
    ∙ ap₂ (λ (x y : List ℕ). put p x (put q y d)) (sym (four_read q d g)) (sym (four_read p d (omega arith)))

-- .. and four more, behind k fours
pub one_more_four : (d e f : List ℕ) (p q k n : ℕ) → k < n → p + 4 * n ≤ q → q + 4 * n ≤ length d → e ≡ exchanged p q (4 * k) d → f ≡ exchanged (p + 4 * k) (q + 4 * k) 4 e
    → f ≡ exchanged p q (4 * (k + 1)) d
one_more_four d e f p q k n l h g ee ef =
    let next : 4 * k + 4 ≡ 4 * (k + 1) = omega arith in
    ef
    ∙ ap (exchanged (p + 4 * k) (q + 4 * k) 4) ee
    ∙ exchanged_then d p q (4 * k) 4 (omega arith) (omega arith)
    ∙ ap (λ (w : ℕ). exchanged p q w d) next
