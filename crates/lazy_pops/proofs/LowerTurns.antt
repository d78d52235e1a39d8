-- The turns of the loop that lowers priorities.
use mathlib.Core.Path.{◌≡◌, refl, sym, ap, ◌∙◌, subst}
use mathlib.Core.Logic.{◌≢◌}
use mathlib.Core.List.{List, [], ◌∷◌, reverse, reverse-reverse, reverse-cons}
use Prim.Native.Nat.{ℕ, pred, ◌+◌, ◌-◌, ◌≤◌, ◌<◌}
use native.Mathlib.Numerals.{add-one, sub-one}
use native.Mathlib.Decide.{ℕ_discrete}
use native.Mathlib.Omega.{arith}
use lib.ListN.{length, get_or, set, drop, length-set, length-reverse, drop_of_length-le}
use lib.Seq.{drop-cons}
use Rattle.gf2.proofs.Tests.{eqb_ne}
use Rattle.areas.specs.Stretch.{stretch, put}
use Rattle.areas.proofs.Stretch.{length-stretch, length-put, put-stretch, put_comm, put_then, put-put_inside, set_is_put, get_or-stretch, get_or-put, get_or-put_before}
use Rattle.gf2.specs.NumberLists.{keep}
use Rattle.lazy.specs.Lazy.{lowered, pushed}
use Rattle.lazy_pops.specs.Lowering.{but, Lowers, LowerFits, LowerOneFits, now_pushed, lowered_in, lower_one, top_after}
use Rattle.lazy_pops.proofs.Stacks.{but_same, but_other, lowered_cons, pushed_on, pushed_two, pushed_longer}

pub record LoweringIn (area₀ : List ℕ) (list count skip prio m stack top : ℕ) (area : List ℕ) (k t : ℕ) : Type 0 where
  pub fits : LowerFits area₀ list count skip prio m stack top
  pub priority : List ℕ
  pub equations : List ℕ
  pub drawn : area ≡ put prio priority (put stack (reverse equations) area₀)
  pub long : length priority ≡ m
  pub high : length equations ≡ t
  pub size : length area ≡ length area₀
  pub can : Lowers (but skip (drop k (stretch list count area₀))) priority
  -- what is still to be done leads to the same end
  pub priorities : lowered (but skip (drop k (stretch list count area₀))) priority ≡ lowered (but skip (stretch list count area₀)) (stretch prio m area₀)
  pub stacks : pushed (but skip (drop k (stretch list count area₀))) priority equations
      ≡ pushed (but skip (stretch list count area₀)) (stretch prio m area₀) (reverse (stretch stack top area₀))

pub lower_begin : {area : List ℕ} {list count skip prio m stack top : ℕ} → LowerFits area list count skip prio m stack top
    → LoweringIn area list count skip prio m stack top area 0 top
lower_begin {area} {list} {count} {skip} {prio} {m} {stack} {top} f =
    let a = f.prio_next in let b = f.stack_last in let d = f.top_in in
    record {
      fits = f;
      priority = stretch prio m area;
      equations = reverse (stretch stack top area);
      drawn = sym (rw (reverse-reverse (stretch stack top area), put-stretch stack top area (omega arith)) (put-stretch prio m area (omega arith)));
      long = length-stretch prio m area (omega arith);
      high = length-reverse (stretch stack top area) ∙ length-stretch stack top area (omega arith);
      size = refl;
      can = f.can;
      priorities = refl;
      stacks = refl;
    }

-- the stack never has more than it has at the end
pub top_low : {area₀ : List ℕ} {list count skip prio m stack top : ℕ} {area : List ℕ} {k t : ℕ} → LoweringIn area₀ list count skip prio m stack top area k t → t ≤ m
top_low {area₀} {list} {count} {skip} {prio} {m} {stack} {top} {area} {k} {t} i =
    let h = pushed_longer (but skip (drop k (stretch list count area₀))) i.priority i.equations in
    let e = ap (λ (l : List ℕ). length l) i.stacks in
    omega (arith, i.fits.room, i.high)

pub lower_end : {area₀ : List ℕ} {list count skip prio m stack top : ℕ} {area : List ℕ} {k t : ℕ} → LoweringIn area₀ list count skip prio m stack top area k t → count ≤ k
    → (t ≡ length (now_pushed area₀ list count skip prio m stack top)) × (area ≡ lowered_in area₀ list count skip prio m stack top)
unfolding lowered pushed keep
lower_end {area₀} {list} {count} {skip} {prio} {m} {stack} {top} {area} {k} {t} i h =
    let a = i.fits.list_first in let b = i.fits.prio_next in let d = i.fits.stack_last in
    let l = length-stretch list count area₀ (omega arith) in
    let none : drop k (stretch list count area₀) ≡ [] = drop_of_length-le (stretch list count area₀) {i = k} (omega arith) in
    let p : i.priority ≡ lowered (but skip (stretch list count area₀)) (stretch prio m area₀) = rw none at i.priorities in
    let s : i.equations ≡ pushed (but skip (stretch list count area₀)) (stretch prio m area₀) (reverse (stretch stack top area₀)) = rw none at i.stacks in
    (sym i.high ∙ ap (λ (l : List ℕ). length l) s, i.drawn ∙ rw (p, s))

module _ {area₀ : List ℕ} {list count skip prio m stack top : ℕ} {area : List ℕ} {k t : ℕ} (i : LoweringIn area₀ list count skip prio m stack top area k t) (h : k < count) where
  f : ℕ
  f = get_or (stretch list count area₀) k 0

  -- the equation that is read
  f_is : get_or area (list + k) 0 ≡ f
  unfolding f
  f_is =
      ap (λ (a : List ℕ). get_or a (list + k) 0) i.drawn ∙
      (let a = i.fits.list_first in let b = i.fits.prio_next in let d = i.fits.stack_last in
      let t-in = top_low i in
      let r = length-reverse i.equations in
      rw (
        get_or-put_before prio (list + k) 0 i.priority (put stack (reverse i.equations) area₀) (omega arith)
            (rw (length-put stack (reverse i.equations) area₀ (omega (arith, i.high))) (omega arith)),
        get_or-put_before stack (list + k) 0 (reverse i.equations) area₀ (omega arith) (omega arith),
      )
      (sym (get_or-stretch list count k 0 area₀ h)))

  next : drop k (stretch list count area₀) ≡ f ∷ drop (k + 1) (stretch list count area₀)
  unfolding f
  next =
      let a = i.fits.list_first in let b = i.fits.prio_next in let d = i.fits.stack_last in
      let l = length-stretch list count area₀ (omega arith) in
      rw add-one (drop-cons (stretch list count area₀) k 0 (omega arith))

  -- an equation that is passed over
  pub turn_skip : get_or area (list + k) 0 ≡ skip → LoweringIn area₀ list count skip prio m stack top area (k + 1) t
  turn_skip q =
      let e : but skip (drop k (stretch list count area₀)) ≡ but skip (drop (k + 1) (stretch list count area₀)) =
      rw next (but_same skip f (drop (k + 1) (stretch list count area₀)) (sym f_is ∙ q)) in
      record {
        fits = i.fits;
        priority = i.priority;
        equations = i.equations;
        drawn = i.drawn;
        long = i.long;
        high = i.high;
        size = i.size;
        can = subst (λ (l : List ℕ). Lowers l i.priority) e i.can;
        priorities = ap (λ (l : List ℕ). lowered l i.priority) (sym e) ∙ i.priorities;
        stacks = ap (λ (l : List ℕ). pushed l i.priority i.equations) (sym e) ∙ i.stacks;
      }

  module _ (q : get_or area (list + k) 0 ≢ skip) where
    later : List ℕ
    later = but skip (drop (k + 1) (stretch list count area₀))

    here : but skip (drop k (stretch list count area₀)) ≡ f ∷ later
    unfolding later
    here = rw next (but_other skip f (drop (k + 1) (stretch list count area₀)) (λ w. q (f_is ∙ w)))

    can_here : Lowers (f ∷ later) i.priority
    can_here = subst (λ (l : List ℕ). Lowers l i.priority) here i.can

    f_low : f < m
    f_low = omega (arith, can_here.0, i.long)

    below : List ℕ
    below = put stack (reverse i.equations) area₀

    size_below : length below ≡ length area₀
    unfolding below
    size_below = let t-in = top_low i in length-put stack (reverse i.equations) area₀ (omega (arith, i.fits.stack_last, i.high, length-reverse i.equations))

    -- its priority
    p_is : get_or area (prio + f) 0 ≡ get_or i.priority f 0
    unfolding below
    p_is =
        ap (λ (a : List ℕ). get_or a (prio + f) 0) i.drawn
        ∙ (get_or-put prio f 0 i.priority below (omega (arith, can_here.0)) (omega (arith, size_below, i.fits.prio_next, i.fits.stack_last)))

    room_here : get_or i.priority f 0 ≡ 2 → t < m
    room_here w =
        let e = ap (λ (l : List ℕ). length l) (sym (pushed_two f later i.priority i.equations w) ∙ ap (λ (l : List ℕ). pushed l i.priority i.equations) (sym here) ∙ i.stacks) in
        let g = pushed_longer later (set i.priority f (pred (get_or i.priority f 0))) (f ∷ i.equations) in
        omega (arith, i.fits.room, i.high)

    pub turn_fits : LowerOneFits area prio stack t (get_or area (list + k) 0)
    turn_fits = rw f_is (record {
      inside = omega (arith, f_low, i.size, i.fits.prio_next, i.fits.stack_last);
      some = rw p_is can_here.1;
      place = λ w. omega (arith, room_here (sym p_is ∙ w), i.size, i.fits.stack_last);
    })

    -- the area with the priority lowered
    lowered_area : set area (prio + f) (get_or area (prio + f) 0 - 1) ≡ put prio (set i.priority f (pred (get_or i.priority f 0))) below
    unfolding below
    lowered_area =
        let p = can_here.0 in let z = size_below in let y = i.fits.prio_next in let x = i.fits.stack_last in
        let e : prio + f - prio ≡ f = omega arith in
        let first : set area (prio + f) (get_or area (prio + f) 0 - 1) ≡ set (put prio i.priority below) (prio + f) (pred (get_or i.priority f 0)) =
        rw (p_is, sub-one) (ap (λ (a : List ℕ). set a (prio + f) (pred (get_or i.priority f 0))) i.drawn) in
        first
        ∙ rw (
          set_is_put (prio + f) (pred (get_or i.priority f 0)) (put prio i.priority below)
              (rw (length-put prio i.priority below (omega (arith, i.long))) (omega (arith, f_low))),
          put-put_inside (prio + f) prio (pred (get_or i.priority f 0) ∷ []) i.priority below (omega arith) (omega arith) (omega arith),
          e,
        )
        (ap (λ (l : List ℕ). put prio l below) (sym (set_is_put f (pred (get_or i.priority f 0)) i.priority can_here.0)))

    size_lowered : length (set area (prio + f) (get_or area (prio + f) 0 - 1)) ≡ length area₀
    size_lowered = simp length-set i.size

    on : get_or i.priority f 0 ≢ 2
        → LoweringIn area₀ list count skip prio m stack top (set area (prio + f) (get_or area (prio + f) 0 - 1)) (k + 1) t
    unfolding below later
    on w =
        record {
          fits = i.fits;
          priority = set i.priority f (pred (get_or i.priority f 0));
          equations = i.equations;
          drawn = lowered_area;
          long = simp length-set i.long;
          high = i.high;
          size = size_lowered;
          can = can_here.2;
          priorities = sym (lowered_cons f later i.priority) ∙ ap (λ (l : List ℕ). lowered l i.priority) (sym here) ∙ i.priorities;
          stacks = sym (pushed_on f later i.priority i.equations w) ∙ ap (λ (l : List ℕ). pushed l i.priority i.equations) (sym here) ∙ i.stacks;
        }

    two : get_or i.priority f 0 ≡ 2
        → LoweringIn area₀ list count skip prio m stack top (set (set area (prio + f) (get_or area (prio + f) 0 - 1)) (stack + t) f) (k + 1) (t + 1)
    unfolding below later
    two w =
        let z = size_lowered in let r = room_here w in let x = i.fits.prio_next in let y = i.fits.stack_last in
        let l : length (reverse i.equations) ≡ t = length-reverse i.equations ∙ i.high in
        let pl : length (set i.priority f (pred (get_or i.priority f 0))) ≡ m = simp length-set i.long in
        let written : set (set area (prio + f) (get_or area (prio + f) 0 - 1)) (stack + t) f
        ≡ put prio (set i.priority f (pred (get_or i.priority f 0))) (put stack (reverse (f ∷ i.equations)) area₀) =
        set_is_put (stack + t) f (set area (prio + f) (get_or area (prio + f) 0 - 1)) (omega arith)
        ∙ rw (lowered_area, ← (put_comm prio (stack + t) (set i.priority f (pred (get_or i.priority f 0))) (f ∷ []) below (omega arith) (omega (arith, size_below))))
        (ap (λ (a : List ℕ). put prio (set i.priority f (pred (get_or i.priority f 0))) a) pushed_there) in
        record {
          fits = i.fits;
          priority = set i.priority f (pred (get_or i.priority f 0));
          equations = f ∷ i.equations;
          drawn = written;
          long = pl;
          high = rw i.high (sym (add-one t));
          size = simp length-set i.size;
          can = can_here.2;
          priorities = sym (lowered_cons f later i.priority) ∙ ap (λ (l : List ℕ). lowered l i.priority) (sym here) ∙ i.priorities;
          stacks = sym (pushed_two f later i.priority i.equations w) ∙ ap (λ (l : List ℕ). pushed l i.priority i.equations) (sym here) ∙ i.stacks;
        }
      where
        pushed_there : put (stack + t) (f ∷ []) (put stack (reverse i.equations) area₀) ≡ put stack (reverse (f ∷ i.equations)) area₀
        pushed_there =
            let r = room_here w in let y = i.fits.stack_last in
            let l : length (reverse i.equations) ≡ t = length-reverse i.equations ∙ i.high in
            rw (reverse-cons f i.equations) (rw l at (put_then stack (reverse i.equations) (f ∷ []) area₀ (omega arith)))

    pub turn_on : LoweringIn area₀ list count skip prio m stack top (lower_one area prio stack t (get_or area (list + k) 0)) (k + 1) (top_after area prio t (get_or area (list + k) 0))
    turn_on = rw f_is (go (ℕ_discrete (get_or i.priority f 0) 2))
      where
        go : Dec (get_or i.priority f 0 ≡ 2) → LoweringIn area₀ list count skip prio m stack top (lower_one area prio stack t f) (k + 1) (top_after area prio t f)
        go (yes w) = simp (p_is ∙ w) (rw (p_is ∙ w) at (two w))
        go (no w) = simp (eqb_ne (get_or area (prio + f) 0) 2 (λ v. w (sym p_is ∙ v))) (on w)
