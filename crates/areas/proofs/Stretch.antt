-- The laws of `stretch`, `put` and `cleared`: with these nothing else takes a list apart.
use mathlib.Core.Path.{◌≡◌, refl, sym, ap, ap₂, ◌∙◌}
use mathlib.Core.List.{List, [], ◌∷◌, ◌++◌, append_assoc, append-nil}
use Prim.Native.Nat.{ℕ, zero, suc, ◌+◌, ◌-◌, ◌<◌, ◌≤◌}
use native.Mathlib.Nat.{add-zero, zero-add, zero-sub, suc-sub-suc, sub-zero, add_assoc, le_of_eq}
use native.Mathlib.Numerals.{add-one}
use native.Mathlib.Omega.{arith}
use lib.ListN.{length, take, drop, get_or, set, replicate, length-append, length-drop, length-replicate, take-append-drop, drop_of_length-le, get_or-append}
use lib.Seq.{length-take-le, take_all, take-length, take-nil, take-suc, drop-cons, take-append_seam, take-append-le, drop-append-le, take-append-add, drop-append-add, set_split, get_or-take, get_or-drop, take-take, drop-drop, take-add, take_at, drop_at}
use Rattle.std.proofs.lemmas.List.{take-replicate, drop-replicate}
use Rattle.areas.specs.Stretch.{stretch, put, cleared}

module _ {A : Type 0} where
  drop-take : (c b : ℕ) (l : List A) → drop c (take b l) ≡ take (b - c) (drop c l)
  drop-take zero b l = rw sub-zero
  drop-take (suc c) zero l = rw zero-sub
  drop-take (suc c) (suc b) [] = sym (take-nil (suc b - suc c))
  drop-take (suc c) (suc b) (x ∷ l) = rw suc-sub-suc (drop-take c b l)

  -- the definitions as equations
  stretch_is : (b n : ℕ) (l : List A) → stretch b n l ≡ take n (drop b l)
  unfolding stretch
  stretch_is b n l = refl

  whole : (b : ℕ) (s l : List A) → put b s l ≡ take b l ++ (s ++ drop (b + length s) l)
  unfolding put
  whole b s l = refl

  -- ---- stretches

  pub length-stretch : (b n : ℕ) (l : List A) → b + n ≤ length l → length (stretch b n l) ≡ n
  unfolding stretch
  length-stretch b n l h = let e = length-drop b l in length-take-le n (drop b l) (omega arith)

  pub stretch_none : (b : ℕ) (l : List A) → stretch b 0 l ≡ []
  unfolding stretch
  stretch_none b l = refl

  pub stretch_whole : (l : List A) → stretch 0 (length l) l ≡ l
  unfolding stretch
  stretch_whole l = take-length l

  pub stretch_split : (b n m : ℕ) (l : List A) → stretch b (n + m) l ≡ stretch b n l ++ stretch (b + n) m l
  unfolding stretch
  stretch_split b n m l = take-add n m (drop b l) ∙ rw (drop-drop n b l)

  pub stretch-stretch : (b n c m : ℕ) (l : List A) → b + n ≤ m → stretch b n (stretch c m l) ≡ stretch (c + b) n l
  unfolding stretch
  stretch-stretch b n c m l h = rw (drop-take b m (drop c l), drop-drop b c l) (take-take n (m - b) (drop (c + b) l) (omega arith))

  pub take-stretch : (k b n : ℕ) (l : List A) → k ≤ n → take k (stretch b n l) ≡ stretch b k l
  unfolding stretch
  take-stretch k b n l h = take-take k n (drop b l) h

  pub drop-stretch : (i b n : ℕ) (l : List A) → drop i (stretch b n l) ≡ stretch (b + i) (n - i) l
  unfolding stretch
  drop-stretch i b n l = drop-take i n (drop b l) ∙ rw (drop-drop i b l)

  pub stretch-take : (b n c : ℕ) (l : List A) → b + n ≤ c → stretch b n (take c l) ≡ stretch b n l
  unfolding stretch
  stretch-take b n c l h = rw (drop-take b c l) (take-take n (c - b) (drop b l) (omega arith))

  -- areas that agree past a agree past any later place
  pub drop_agree : (a b : ℕ) (l l' : List A) → a ≤ b → drop a l ≡ drop a l' → drop b l ≡ drop b l'
  drop_agree a b l l' h e =
      let c : b ≡ a + (b - a) = omega arith in
      ap (λ (m : ℕ). drop m l) c ∙ sym (drop-drop (b - a) a l) ∙ ap (λ (x : List A). drop (b - a) x) e ∙ drop-drop (b - a) a l' ∙ ap (λ (m : ℕ). drop m l') (sym c)

  -- areas that agree before c
  pub stretch_agree : (b n c : ℕ) (l l' : List A) → take c l ≡ take c l' → b + n ≤ c → stretch b n l ≡ stretch b n l'
  stretch_agree b n c l l' e h = sym (stretch-take b n c l h) ∙ ap (λ (x : List A). stretch b n x) e ∙ stretch-take b n c l' h

  pub get_or_agree : (i : ℕ) (d : A) (c : ℕ) (l l' : List A) → take c l ≡ take c l' → i < c → get_or l i d ≡ get_or l' i d
  get_or_agree i d c l l' e h = sym (get_or-take c l i d h) ∙ ap (λ (x : List A). get_or x i d) e ∙ get_or-take c l' i d h

  pub get_or-stretch : (b n i : ℕ) (d : A) (l : List A) → i < n → get_or (stretch b n l) i d ≡ get_or l (b + i) d
  unfolding stretch
  get_or-stretch b n i d l h = get_or-take n (drop b l) i d h ∙ get_or-drop b l i d

  pub stretch-append_left : (b n : ℕ) (a l : List A) → b + n ≤ length a → stretch b n (a ++ l) ≡ stretch b n a
  unfolding stretch
  stretch-append_left b n a l h =
      let e = length-drop b a in
      rw (drop-append-le b a l (omega arith)) (take-append-le n (drop b a) l (omega arith))

  pub stretch-append_right : (b n : ℕ) (a l : List A) → stretch (length a + b) n (a ++ l) ≡ stretch b n l
  unfolding stretch
  stretch-append_right b n a l = rw (drop-append-add a l b)

  -- the middle one of three parts
  pub stretch_at : (b n : ℕ) (a m l : List A) → length a ≡ b → length m ≡ n → stretch b n (a ++ (m ++ l)) ≡ m
  unfolding stretch
  stretch_at b n a m l h k = rw (drop_at a (m ++ l) b h) (take_at m l n k)

  -- the last one of two parts
  pub stretch_last : (b n : ℕ) (a m : List A) → length a ≡ b → length m ≡ n → stretch b n (a ++ m) ≡ m
  unfolding stretch
  stretch_last b n a m h k = rw (drop_at a m b h) (take_all n m (le_of_eq k))

  -- ---- what is written

  take-put_at : (b : ℕ) (s l : List A) → b ≤ length l → take b (put b s l) ≡ take b l
  unfolding put
  take-put_at b s l h = take_at (take b l) (s ++ drop (b + length s) l) b (length-take-le b l h)

  drop-put_at : (b : ℕ) (s l : List A) → b ≤ length l → drop b (put b s l) ≡ s ++ drop (b + length s) l
  unfolding put
  drop-put_at b s l h = drop_at (take b l) (s ++ drop (b + length s) l) b (length-take-le b l h)

  pub length-put : (b : ℕ) (s l : List A) → b + length s ≤ length l → length (put b s l) ≡ length l
  unfolding put
  length-put b s l h = simp (length-append, length-drop, length-take-le b l (omega arith)) (omega arith)

  -- before what is written, and past it, nothing changes
  pub take-put_before : (c b : ℕ) (s l : List A) → c ≤ b → b ≤ length l → take c (put b s l) ≡ take c l
  take-put_before c b s l h k = sym (take-take c b (put b s l) h) ∙ rw (take-put_at b s l k) (take-take c b l h)

  pub drop-put_after : (c b : ℕ) (s l : List A) → b + length s ≤ c → b ≤ length l → drop c (put b s l) ≡ drop c l
  drop-put_after c b s l h k =
      let e : c ≡ b + (length s + (c - (b + length s))) = omega arith in
      let r : ℕ = c - (b + length s) in
      ap (λ (n : ℕ). drop n (put b s l)) e
      ∙ sym (drop-drop (length s + r) b (put b s l))
      ∙ rw (drop-put_at b s l k) (drop-append-add s (drop (b + length s) l) r ∙ drop-drop r (b + length s) l)
      ∙ ap (λ (n : ℕ). drop n l) (sym (e ∙ sym (add_assoc b (length s) r)))

  -- what begins before what is written, or ends past it
  pub drop-put : (c b : ℕ) (s l : List A) → c ≤ b → b ≤ length l → drop c (put b s l) ≡ put (b - c) s (drop c l)
  unfolding put
  drop-put c b s l h k =
      let e : c + (b - c + length s) ≡ b + length s = omega arith in
      let t = length-take-le b l k in
      rw (drop-append-le c (take b l) (s ++ drop (b + length s) l) (omega arith), drop-take c b l, drop-drop (b - c + length s) c l, e)

  put-take : (c b : ℕ) (s l : List A) → b ≤ c → put b s (take c l) ≡ take b l ++ (s ++ take (c - (b + length s)) (drop (b + length s) l))
  unfolding put
  put-take c b s l h = rw (take-take b c l h, drop-take (b + length s) c l)

  pub take_put : (c b : ℕ) (s l : List A) → b + length s ≤ c → b ≤ length l → take c (put b s l) ≡ put b s (take c l)
  take_put c b s l h k =
      let r : ℕ = c - (b + length s) in
      let e : c ≡ b + (length s + (c - (b + length s))) = omega arith in
      ap (λ (n : ℕ). take n (put b s l)) e
      ∙ take-add b (length s + r) (put b s l)
      ∙ rw (take-put_at b s l k, drop-put_at b s l k, take-append-add s (drop (b + length s) l) r) (sym (put-take c b s l (omega arith)))

  -- ---- a stretch of what was written

  -- the same place
  pub stretch-put : (b : ℕ) (s l : List A) → b ≤ length l → stretch b (length s) (put b s l) ≡ s
  unfolding stretch
  stretch-put b s l h = rw (drop-put_at b s l h) (take-append_seam s (drop (b + length s) l))

  -- a stretch that ends before what is written, or begins past it
  pub stretch-put_before : (c k b : ℕ) (s l : List A) → c + k ≤ b → b ≤ length l → stretch c k (put b s l) ≡ stretch c k l
  unfolding stretch
  stretch-put_before c k b s l h g =
      let e = length-drop c l in
      rw (drop-put c b s l (omega arith) g) (take-put_before k (b - c) s (drop c l) (omega arith) (omega arith))

  pub stretch-put_after : (c k b : ℕ) (s l : List A) → b + length s ≤ c → b ≤ length l → stretch c k (put b s l) ≡ stretch c k l
  unfolding stretch
  stretch-put_after c k b s l h g = rw (drop-put_after c b s l h g)

  -- what is written lies inside the stretch
  pub stretch-put_inside : (c k b : ℕ) (s l : List A) → c ≤ b → b + length s ≤ c + k → b ≤ length l → stretch c k (put b s l) ≡ put (b - c) s (stretch c k l)
  unfolding stretch
  stretch-put_inside c k b s l h g f =
      let e = length-drop c l in
      rw (drop-put c b s l h f) (take_put k (b - c) s (drop c l) (omega arith) (omega arith))

  -- the stretch lies inside what is written
  pub stretch-put_within : (c k b : ℕ) (s l : List A) → b ≤ c → c + k ≤ b + length s → b ≤ length l → stretch c k (put b s l) ≡ stretch (c - b) k s
  unfolding stretch
  stretch-put_within c k b s l h g f =
      let e : c ≡ b + (c - b) = omega arith in
      let n = length-drop (c - b) s in
      ap (λ (x : ℕ). take k (drop x (put b s l))) e
      ∙ rw (← (drop-drop (c - b) b (put b s l)), drop-put_at b s l f, drop-append-le (c - b) s (drop (b + length s) l) (omega arith))
      (take-append-le k (drop (c - b) s) (drop (b + length s) l) (omega arith))

  -- ---- writing twice

  -- inside what was written
  pub put-put_inside : (b c : ℕ) (s t l : List A) → c ≤ b → b + length s ≤ c + length t → c ≤ length l → put b s (put c t l) ≡ put c (put (b - c) s t) l
  unfolding put
  put-put_inside b c s t l h g f =
      let d : List A = drop (c + length t) l in
      let e : b ≡ c + (b - c) = omega arith in
      let e' : b + length s ≡ c + (b - c + length s) = omega arith in
      let p : length (take c l) ≡ c = length-take-le c l f in
      let front : take b (take c l ++ (t ++ d)) ≡ take c l ++ take (b - c) t =
      ap (λ (n : ℕ). take n (take c l ++ (t ++ d))) (e ∙ ap (λ (n : ℕ). n + (b - c)) (sym p))
      ∙ take-append-add (take c l) (t ++ d) (b - c)
      ∙ ap (λ (x : List A). take c l ++ x) (take-append-le (b - c) t d (omega arith)) in
      let back : drop (b + length s) (take c l ++ (t ++ d)) ≡ drop (b - c + length s) t ++ d =
      ap (λ (n : ℕ). drop n (take c l ++ (t ++ d))) (e' ∙ ap (λ (n : ℕ). n + (b - c + length s)) (sym p))
      ∙ drop-append-add (take c l) (t ++ d) (b - c + length s)
      ∙ drop-append-le (b - c + length s) t d (omega arith) in
      let long : length (take (b - c) t ++ (s ++ drop (b - c + length s) t)) ≡ length t = length-put (b - c) s t (omega arith) in
      rw (front, back, long) (simp append_assoc)

  -- what stands there already
  pub put-stretch : (b n : ℕ) (l : List A) → b + n ≤ length l → put b (stretch b n l) l ≡ l
  put-stretch b n l h =
      whole b (stretch b n l) l
      ∙ rw (length-stretch b n l h, ← (drop-drop n b l), shown, take-append-drop n (drop b l)) (take-append-drop b l)
    where
      shown : stretch b n l ≡ take n (drop b l)
      shown = stretch_is b n l

  -- over what was written
  pub put-put_over : (b c : ℕ) (s t l : List A) → b ≤ c → c + length t ≤ b + length s → c ≤ length l → put b s (put c t l) ≡ put b s l
  put-put_over b c s t l h g f =
      parts ∙ ap₂ (λ (x y : List A). x ++ (s ++ y)) (take-put_before b c t l h f) (drop-put_after (b + length s) c t l g f) ∙ sym parts'
    where
      parts : put b s (put c t l) ≡ take b (put c t l) ++ (s ++ drop (b + length s) (put c t l))
      parts = whole b s (put c t l)

      parts' : put b s l ≡ take b l ++ (s ++ drop (b + length s) l)
      parts' = whole b s l

  -- two places that are apart
  pub put_comm : (b c : ℕ) (s t l : List A) → b + length s ≤ c → c ≤ length l → put b s (put c t l) ≡ put c t (put b s l)
  put_comm b c s t l h g =
      let m : ℕ = b + length s in
      let e : m + (c - m + length t) ≡ c + length t = omega arith in
      whole b s (put c t l)
      ∙ rw (take-put_before b c t l (omega arith) g, drop-put m c t l h g, whole (c - m) t (drop m l), drop-drop (c - m + length t) m l, e)
      (sym (whole c t (put b s l)
      ∙ rw (take_put c b s l h (omega arith), drop-put_after (c + length t) b s l (omega arith) (omega arith), whole b s (take c l), take-take b c l (omega arith), drop-take m c l)
      (simp append_assoc)))

  -- one after the other
  pub put-append : (b : ℕ) (s t l : List A) → b + length s ≤ length l → put b (s ++ t) l ≡ put b s (put (b + length s) t l)
  put-append b s t l h =
      whole b (s ++ t) l
      ∙ sym (whole b s (put (b + length s) t l)
      ∙ rw (take-put_before b (b + length s) t l (omega arith) h, drop-put_at (b + length s) t l h, length-append s t, ← (add_assoc b (length s) (length t))) (simp append_assoc))

  pub put_none : (b : ℕ) (l : List A) → put b [] l ≡ l
  put_none b l = whole b [] l ∙ rw add-zero (take-append-drop b l)

  pub put_all : (s l : List A) → length s ≡ length l → put 0 s l ≡ s
  put_all s l h = whole 0 s l ∙ rw (zero-add, drop_of_length-le l (le_of_eq (sym h))) (append-nil s)

  pub set_is_put : (i : ℕ) (v : A) (l : List A) → i < length l → set l i v ≡ put i (v ∷ []) l
  set_is_put i v l h = set_split l i v h ∙ sym (whole i (v ∷ []) l ∙ rw (add-one i))

  -- behind what was written
  pub put_then : (b : ℕ) (s t l : List A) → b + length s ≤ length l → put (b + length s) t (put b s l) ≡ put b (s ++ t) l
  put_then b s t l h = sym (put-append b s t l h ∙ put_comm b (b + length s) s t l (omega arith) h)

  -- one element more, behind what was written
  pub put_more : (b : ℕ) (v : A) (s l : List A) → b + length s < length l → set (put b s l) (b + length s) v ≡ put b (s ++ (v ∷ [])) l
  put_more b v s l h =
      let e = length-put b s l (omega arith) in
      set_is_put (b + length s) v (put b s l) (omega arith)
      ∙ put_then b s (v ∷ []) l (omega arith)

  -- an element past what is written
  pub put-set : (b i : ℕ) (v : A) (s l : List A) → b + length s ≤ i → i < length l → put b s (set l i v) ≡ set (put b s l) i v
  put-set b i v s l h g =
      let e = length-put b s l (omega arith) in
      ap (λ (x : List A). put b s x) (set_is_put i v l g)
      ∙ put_comm b i s (v ∷ []) l h (omega arith)
      ∙ sym (set_is_put i v (put b s l) (omega arith))

  -- ---- an element

  pub get_or-put_before : (b i : ℕ) (d : A) (s l : List A) → i < b → b ≤ length l → get_or (put b s l) i d ≡ get_or l i d
  get_or-put_before b i d s l h g = sym (get_or-take b (put b s l) i d h) ∙ rw (take-put_at b s l g) (get_or-take b l i d h)

  pub get_or-put : (b i : ℕ) (d : A) (s l : List A) → i < length s → b ≤ length l → get_or (put b s l) (b + i) d ≡ get_or s i d
  get_or-put b i d s l h g = sym (get_or-drop b (put b s l) i d) ∙ rw (drop-put_at b s l g) (get_or-append s (drop (b + length s) l) d i h)

  pub get_or-put_after : (b i : ℕ) (d : A) (s l : List A) → b + length s ≤ i → b ≤ length l → get_or (put b s l) i d ≡ get_or l i d
  get_or-put_after b i d s l h g =
      let e : i ≡ i + 0 = omega arith in
      ap (λ (n : ℕ). get_or (put b s l) n d) e ∙ sym (get_or-drop i (put b s l) 0 d) ∙ rw (drop-put_after i b s l h g) (get_or-drop i l 0 d) ∙ ap (λ (n : ℕ). get_or l n d) (sym e)

  -- ---- an area of parts

  pub put-append_left : (b : ℕ) (s a l : List A) → b + length s ≤ length a → put b s (a ++ l) ≡ put b s a ++ l
  unfolding put
  put-append_left b s a l h = rw (take-append-le b a l (omega arith), drop-append-le (b + length s) a l h) (simp append_assoc)

  pub put-append_right : (b : ℕ) (s a l : List A) → put (length a + b) s (a ++ l) ≡ a ++ put b s l
  unfolding put
  put-append_right b s a l = rw (take-append-add a l b, add_assoc (length a) b (length s), drop-append-add a l (b + length s)) (simp append_assoc)

  -- over the middle one of three parts
  pub put_at : (b : ℕ) (s a m l : List A) → length a ≡ b → length s ≡ length m → put b s (a ++ (m ++ l)) ≡ a ++ (s ++ l)
  unfolding put
  put_at b s a m l h k =
      rw (take_at a (m ++ l) b h, ← (drop-drop (length s) b (a ++ (m ++ l))), drop_at a (m ++ l) b h, drop_at m l (length s) (sym k))

  -- ---- one value everywhere

  pub stretch-replicate : (b n m : ℕ) (v : A) → b + n ≤ m → stretch b n (replicate m v) ≡ replicate n v
  unfolding stretch
  stretch-replicate b n m v h = rw drop-replicate (take-replicate n (m - b) v (omega arith))

-- ---- numbers

-- one number more, at the front and at the end
pub stretch-cons : (b n : ℕ) (l : List ℕ) → b < length l → stretch b (n + 1) l ≡ get_or l b 0 ∷ stretch (b + 1) n l
unfolding stretch
stretch-cons b n l h = rw (add-one n, add-one b, drop-cons l b 0 h)

pub stretch_snoc : (b n : ℕ) (l : List ℕ) → b + n < length l → stretch b (n + 1) l ≡ stretch b n l ++ (get_or l (b + n) 0 ∷ [])
unfolding stretch
stretch_snoc b n l h = let e = length-drop b l in rw (add-one n, take-suc (drop b l) n 0 (omega arith), get_or-drop b l n 0)

pub cleared_is_put : (room : ℕ) (l : List ℕ) → cleared room l ≡ put 0 (replicate room 0) l
unfolding cleared
cleared_is_put room l = sym (whole 0 (replicate room 0) l ∙ rw (length-replicate, zero-add))

-- areas that differ in their room alone
pub cleared_same : (room : ℕ) (l l' : List ℕ) → drop room l ≡ drop room l' → cleared room l ≡ cleared room l'
unfolding cleared
cleared_same room l l' h = rw h
