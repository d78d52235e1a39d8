-- One cell written into what was put into an area.
use mathlib.Core.Path.{◌≡◌, refl, sym, ap, ◌∙◌}
use mathlib.Core.List.{List, [], ◌∷◌}
use Prim.Native.Nat.{ℕ, ◌+◌, ◌-◌, ◌<◌, ◌≤◌}
use native.Mathlib.Numerals.{add-one}
use native.Mathlib.Omega.{arith}
use lib.ListN.{length, take, drop, get_or, set, length-set, length-drop, drop_of_length-le}
use lib.Seq.{take_all, take-suc, length-take-le, drop-cons}
use Rattle.areas.specs.Stretch.{put}
use Rattle.areas.proofs.Stretch.{set_is_put, put-put_inside, put_more, put_none, put-append, length-put, get_or-put_before, get_or-put_after}

module _ {A : Type 0} where
  -- anywhere in it
  pub set-put : (b i : ℕ) (x : A) (s l : List A) → i < length s → b + length s ≤ length l → set (put b s l) (b + i) x ≡ put b (set s i x) l
  set-put b i x s l h k =
      let e : b + i - b ≡ i = omega arith in
      let z = length-put b s l k in
      set_is_put (b + i) x (put b s l) (omega arith) ∙ put-put_inside (b + i) b (x ∷ []) s l (omega arith) (omega arith) (omega arith)
      ∙ ap (λ (j : ℕ). put b (put j (x ∷ []) s) l) e ∙ ap (λ (t : List A). put b t l) (sym (set_is_put i x s h))

  -- the next one of a list that is written from its first on
  pub put_next : (b i : ℕ) (d : A) (s l : List A) → i < length s → b + length s ≤ length l → set (put b (take i s) l) (b + i) (get_or s i d) ≡ put b (take (i + 1) s) l
  put_next b i d s l h k =
      let e : length (take i s) ≡ i = length-take-le i s (omega arith) in
      ap (λ (j : ℕ). set (put b (take i s) l) (b + j) (get_or s i d)) (sym e) ∙ put_more b (get_or s i d) (take i s) l (omega arith)
      ∙ ap (λ (t : List A). put b t l) (sym (rw (add-one i) (take-suc s i d h)))

  -- s is written into l from b on, and i of it stand
  pub record Writing (b : ℕ) (s l : List A) (i : ℕ) (area : List A) : Type 0 where
    pub some : i ≤ length s
    pub room : b + length s ≤ length l
    pub long : length area ≡ length l
    pub shown : area ≡ put b (take i s) l

  pub writing_begin : (b : ℕ) (s l : List A) → b + length s ≤ length l → Writing b s l 0 l
  writing_begin b s l h = record { some = omega arith; room = h; long = refl; shown = sym (put_none b l) }

  pub writing_end : {b : ℕ} {s l : List A} {i : ℕ} {area : List A} → Writing b s l i area → length s ≤ i → area ≡ put b s l
  writing_end {b} {s} {l} {i} w h = w.shown ∙ ap (λ (t : List A). put b t l) (take_all i s h)

  -- one element more
  pub writing_next : {b : ℕ} {s l : List A} {i : ℕ} {area : List A} (d x : A) → Writing b s l i area → i < length s → x ≡ get_or s i d → Writing b s l (i + 1) (set area (b + i) x)
  writing_next {b} {s} {l} {i} {area} d x w h e = record {
    some = omega arith;
    room = w.room;
    long = simp length-set w.long;
    shown = ap (λ (a : List A). set a (b + i) x) w.shown ∙ ap (λ (y : A). set (put b (take i s) l) (b + i) y) e ∙ put_next b i d s l h w.room;
  }

  -- what stands past what is written
  pub writing_past : {b : ℕ} {s l : List A} {i : ℕ} {area : List A} (d : A) (j : ℕ) → Writing b s l i area → b + i ≤ j → get_or area j d ≡ get_or l j d
  writing_past {b} {s} {l} {i} d j w h =
      let e : length (take i s) ≡ i = length-take-le i s w.some in let r = w.room in
      ap (λ (a : List A). get_or a j d) w.shown ∙ get_or-put_after b j d (take i s) l (omega arith) (omega arith)

  -- ---- from the last element on

  -- the one before those that stand
  put_before_next : (b k : ℕ) (d : A) (s l : List A) → k < length s → b + length s ≤ length l
      → set (put (b + (k + 1)) (drop (k + 1) s) l) (b + k) (get_or s k d) ≡ put (b + k) (drop k s) l
  put_before_next b k d s l h g =
      let e : b + (k + 1) ≡ b + k + 1 = omega arith in
      let n = length-drop (k + 1) s in
      let m = length-put (b + (k + 1)) (drop (k + 1) s) l (omega arith) in
      set_is_put (b + k) (get_or s k d) (put (b + (k + 1)) (drop (k + 1) s) l) (omega arith)
      ∙ ap (λ (j : ℕ). put (b + k) (get_or s k d ∷ []) (put j (drop (k + 1) s) l)) e
      ∙ sym (put-append (b + k) (get_or s k d ∷ []) (drop (k + 1) s) l (omega arith))
      ∙ ap (λ (t : List A). put (b + k) t l) (sym (rw (add-one k) (drop-cons s k d h)))

  -- s is written into l from b on, and its first i are still to come
  pub record WritingBack (b : ℕ) (s l : List A) (i : ℕ) (area : List A) : Type 0 where
    pub some : i ≤ length s
    pub room : b + length s ≤ length l
    pub shown : area ≡ put (b + i) (drop i s) l

  pub back_begin : (b n : ℕ) (s l : List A) → length s ≡ n → b + n ≤ length l → WritingBack b s l n l
  back_begin b n s l e h =
      let none : length s ≤ n = omega arith in
      record { some = omega arith; room = omega arith; shown = sym (rw (drop_of_length-le s none) (put_none (b + n) l)) }

  pub back_next : {b : ℕ} {s l : List A} {i : ℕ} {area : List A} (d x : A) → WritingBack b s l i area → 0 < i → x ≡ get_or s (i - 1) d → WritingBack b s l (i - 1) (set area (b + (i - 1)) x)
  back_next {b} {s} {l} {i} {area} d x w h e =
      let k = i - 1 in
      let f : i ≡ k + 1 = omega arith in
      let g = w.some in
      record {
        some = omega arith;
        room = w.room;
        shown = ap (λ (a : List A). set a (b + k) x) (w.shown ∙ ap (λ (j : ℕ). put (b + j) (drop j s) l) f)
            ∙ ap (λ (y : A). set (put (b + (k + 1)) (drop (k + 1) s) l) (b + k) y) e ∙ put_before_next b k d s l (omega arith) w.room;
      }

  pub back_end : {b : ℕ} {s l : List A} {i : ℕ} {area : List A} → WritingBack b s l i area → i ≤ 0 → area ≡ put b s l
  back_end {b} {s} {l} {i} w h =
      let e : i ≡ 0 = omega arith in
      let f : b + i ≡ b = omega arith in
      w.shown ∙ ap (λ (j : ℕ). put (b + i) (drop j s) l) e ∙ ap (λ (j : ℕ). put j s l) f

  -- what stands before what is written
  pub back_before : {b : ℕ} {s l : List A} {i : ℕ} {area : List A} (d : A) (j : ℕ) → WritingBack b s l i area → j < b + i → get_or area j d ≡ get_or l j d
  back_before {b} {s} {l} {i} d j w h =
      let g = w.some in let r = w.room in
      ap (λ (a : List A). get_or a j d) w.shown ∙ get_or-put_before (b + i) j d (drop i s) l h (omega arith)

pub writing_turn : {b : ℕ} {s l : List ℕ} {i : ℕ} {area : List ℕ} (x : ℕ) → Writing b s l i area → i < length s → x ≡ get_or s i 0 → Writing b s l (i + 1) (set area (b + i) x)
writing_turn x w h e = writing_next 0 x w h e

pub writing_after : {b : ℕ} {s l : List ℕ} {i : ℕ} {area : List ℕ} (j : ℕ) → Writing b s l i area → b + i ≤ j → get_or area j 0 ≡ get_or l j 0
writing_after j w h = writing_past 0 j w h
