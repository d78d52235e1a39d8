-- The loop that loads a list: what holds before its first turn, what a turn keeps, and what it comes to.
use Rattle.std.proofs.Common.{◌≡◌, refl, sym, ap, ◌∙◌, Bool, true, false, ◌&&◌, leb, List, [], ◌∷◌, ℕ, suc, ◌+◌, ◌-◌, ◌*◌, ◌≤◌, ◌<◌, length, take, drop, set, Some, None, arith}
use native.Mathlib.Nat.{suc-mul}
use lib.ListN.{length-set}
use lib.Seq.{drop-drop}
use borrow.Author.Tests.{leb-true, le-leb}
use Rattle.areas.specs.Stretch.{stretch, put}
use Rattle.areas.proofs.Stretch.{put_none, put-append, put_comm, set_is_put}
use Rattle.answers.specs.Calls.{pick}
use Rattle.link_form.specs.Bytes.{little, field, fields}
use Rattle.replay_cases.specs.declared.lists.ListHead.{ListHead}
use Rattle.replay_cases.specs.Lists.{whole_list, head_at, loadable, Loads}

-- ---- a list that was found is all there

pub record Fits (end : ℕ) (head : ListHead) : Type 0 where
  pub there : head.at + head.count * head.width ≤ end
  pub narrow : head.width ≤ 8

found : ℕ → ℕ → ℕ → ListHead
found width count p = record { width = width; count = count; at = p }

whole_fits : (width count p end : ℕ) (head : ListHead) → whole_list width count p end ≡ Some head → Fits end head
unfolding found
whole_fits width count p end head = go (leb width 8) refl (leb (p + count * width) end) refl
  where
    go : (s : Bool) → leb width 8 ≡ s → (t : Bool) → leb (p + count * width) end ≡ t
        → pick (s && t) (Some (found width count p)) None ≡ Some head → Fits end head
    go true e true f h =
        let i : found width count p ≡ head = cc in
        rw (← i) (record { there = leb-true (p + count * width) end f; narrow = leb-true width 8 e })
    go true e false f h = cc
    go false e t f h = cc

pub head_fits : (at : ℕ) (bytes : List ℕ) (head : ListHead) → head_at at bytes ≡ Some head → Fits (length bytes) head
unfolding head_at
head_fits at bytes head = go (leb (at + 3) (length bytes))
  where
    go : (t : Bool)
        → pick t (whole_list (field 1 at bytes) (field 2 (at + 1) bytes) (at + 3) (length bytes)) None ≡ Some head
        → Fits (length bytes) head
    go true h = whole_fits (field 1 at bytes) (field 2 (at + 1) bytes) (at + 3) (length bytes) head h
    go false h = cc

-- ---- the loop

-- i of `count` numbers are loaded, the next begins at p, and the rest would make the whole
pub record Loading (bytes : List ℕ) (start w count : ℕ) (before : List ℕ) (p i : ℕ) (out : List ℕ) : Type 0 where
  pub done : i ≤ count
  pub narrow : w ≤ 8
  pub space : count ≤ length before
  pub long : length out ≡ length before
  pub there : start + count * w ≤ length bytes
  pub place : p + (count - i) * w ≡ start + count * w
  pub rest : put i (fields w (count - i) (drop p bytes)) out ≡ put 0 (fields w count (drop start bytes)) before

pub loading_begin : (bytes : List ℕ) (before : List ℕ) (head : ListHead) → Fits (length bytes) head → head.count ≤ length before
    → Loading bytes head.at head.width head.count before head.at 0 before
loading_begin bytes before head f s =
    record { done = omega arith; narrow = f.narrow; space = s; long = refl; there = f.there; place = rw (minus_none head.count); rest = rw (minus_none head.count) }
  where
    minus_none : (k : ℕ) → k - 0 ≡ k
    minus_none k = omega arith

put_next : (i v : ℕ) (xs out : List ℕ) → i < length out → put (i + 1) xs (set out i v) ≡ put i (v ∷ xs) out
put_next i v xs out h =
    ap (put (i + 1) xs) (set_is_put i v out h)
    ∙ (sym (put_comm i (i + 1) (v ∷ []) xs out (omega arith) (omega arith))
    ∙ sym (put-append i (v ∷ []) xs out (omega arith)))

module _ {bytes : List ℕ} {start w count : ℕ} {before : List ℕ} {p i : ℕ} {out : List ℕ} (l : Loading bytes start w count before p i out) where
  one_less : i < count → count - i ≡ suc (count - (i + 1))
  one_less h = omega arith

  next_place : i < count → p + w + (count - (i + 1)) * w ≡ start + count * w
  next_place h = let e = ap (λ (k : ℕ). k * w) (one_less h) in let m = suc-mul (count - (i + 1)) w in omega (arith, l.place)

  -- the next number is there
  pub loading_room : i < count → p + w ≤ length bytes
  loading_room h = let e = next_place h in omega (arith, l.there)

  pub loading_turn : {v : ℕ} → i < count → v ≡ field w p bytes → Loading bytes start w count before (p + w) (i + 1) (set out i v)
  unfolding fields stretch
  loading_turn {v} h e =
      let s = l.space in
      let g = l.long in
      record {
        done = omega arith;
        narrow = l.narrow;
        space = s;
        long = simp length-set g;
        there = l.there;
        place = next_place h;
        rest =
            put_next i v (fields w (count - (i + 1)) (drop (p + w) bytes)) out (omega arith)
            ∙ (ap (λ (x : ℕ). put i (x ∷ fields w (count - (i + 1)) (drop (p + w) bytes)) out) e
            ∙ (ap (λ (x : List ℕ). put i (little (take w (drop p bytes)) ∷ fields w (count - (i + 1)) x) out) (sym (drop-drop w p bytes))
            ∙ (ap (λ (k : ℕ). put i (fields w k (drop p bytes)) out) (sym (one_less h)) ∙ l.rest)));
      }

  pub loading_end : count ≤ i → (p ≡ start + count * w) × (out ≡ put 0 (fields w count (drop start bytes)) before)
  unfolding fields
  loading_end h =
      let d = l.done in
      let z : count - i ≡ 0 = omega arith in
      let q : p + 0 * w ≡ start + count * w = rw z at l.place in
      (omega arith, sym (put_none i out) ∙ rw z at l.rest)

-- ---- what loading says and leaves

pub ends_loaded : (widest at : ℕ) (head : ListHead) (bytes before out : List ℕ) (p : ℕ) → head_at at bytes ≡ Some head
    → head.count ≤ length before → head.width ≤ widest
    → (p ≡ head.at + head.count * head.width) × (out ≡ put 0 (fields head.width head.count (drop head.at bytes)) before)
    → Loads widest at bytes before (Some head.count) p out
ends_loaded widest at head bytes before out p e s n w =
    let f : loadable widest (length before) (head_at at bytes) ≡ Some head =
    rw (e, le-leb head.count (length before) s, le-leb head.width widest n) in
    record { count = rw f; place = rw f w.0; cells = rw f w.1 }
