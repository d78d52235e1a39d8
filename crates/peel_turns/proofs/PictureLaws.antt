-- What a write does to the pictures of the areas.
use mathlib.Core.Path.{◌≡◌, refl, sym, ap, ◌∙◌}
use mathlib.Core.List.{List, ◌∷◌}
use mathlib.Core.Bool.{Bool, true, false, cond}
use mathlib.Core.Logic.{◌≢◌}
use Prim.Native.Nat.{ℕ, zero, suc, ◌+◌, ◌-◌, ◌/◌, ◌%◌, ◌≤◌, ◌<◌}
use native.Mathlib.Omega.{arith}
use native.Mathlib.Numerals.{add-one}
use lib.ListN.{length, get_or, set, take, drop, length-set}
use lib.Seq.{get_or-set_same, get_or-set_other, take-set-le, take-set-lt, drop-set-lt, get_or-take, drop-drop}
use lib.Bits.{bit_xor}
use lib.Dec.{eqb}
use Rattle.peeling.specs.declared.numbers.Edge.{Edge}
use Rattle.peeling.specs.Graph.{Graph, graph_of, degree_of, remove, clear}
use Rattle.peel_rules.specs.Edges.{first, second}
use Rattle.peel_rules.specs.Machine.{side_from, side_no, first_side, second_side, mpush, graph_after, stack_after}
use Rattle.peel_rules.proofs.PeelEmpty.{first<, second<}
use Rattle.peel_steps.specs.Pictures.{graph_in, rising, falling, stack_in}
use Rattle.peel_turns.specs.Steps.{Visits, Visited, TakesOff, TakenOff}

-- ---- stacks

-- a vertex put at a stack's head, if told to
abbrev pub pushed : Bool → List ℕ → ℕ → ℕ → List ℕ
pushed b area at v = cond b (set area at v) area

abbrev pub raised : Bool → ℕ → ℕ
raised b top = cond b (top + 1) top

pub rising_length : (b k : ℕ) (l : List ℕ) → length (rising b k l) ≡ k
unfolding rising
rising_length b zero l = refl
rising_length b (suc k) l = ap suc (rising_length b k l)

pub rising_above : (b k i x : ℕ) (l : List ℕ) → b + k ≤ i → rising b k (set l i x) ≡ rising b k l
unfolding rising
rising_above b zero i x l h = refl
rising_above b (suc k) i x l h = rw (get_or-set_other l i (b + k) x 0 (omega arith), rising_above b k i x l (omega arith))

pub rising_below : (b k i x : ℕ) (l : List ℕ) → i < b → rising b k (set l i x) ≡ rising b k l
unfolding rising
rising_below b zero i x l h = refl
rising_below b (suc k) i x l h = rw (get_or-set_other l i (b + k) x 0 (omega arith), rising_below b k i x l h)

pub falling_length : (e k : ℕ) (l : List ℕ) → length (falling e k l) ≡ k
unfolding falling
falling_length e zero l = refl
falling_length e (suc k) l = ap suc (falling_length e k l)

pub falling_below : (e k i x : ℕ) (l : List ℕ) → i + k < e → falling e k (set l i x) ≡ falling e k l
unfolding falling
falling_below e zero i x l h = refl
falling_below e (suc k) i x l h = rw (get_or-set_other l i (e - suc k) x 0 (omega arith), falling_below e k i x l (omega arith))

pub pushed_length : (b : Bool) (l : List ℕ) (at v : ℕ) → length (pushed b l at v) ≡ length l
pushed_length true l at v = length-set l at v
pushed_length false l at v = refl

pub rising_pushed : (b : Bool) (n top v : ℕ) (l : List ℕ) → n + top < length l → rising n (raised b top) (pushed b l (n + top) v) ≡ cond b (v ∷ rising n top l) (rising n top l)
unfolding rising
rising_pushed true n top v l h = rw (add-one top, get_or-set_same l (n + top) v 0 h, rising_above n top (n + top) v l (omega arith))
rising_pushed false n top v l h = refl

raised_le : (b : Bool) (top : ℕ) → top ≤ raised b top
raised_le true top = omega arith
raised_le false top = omega arith

pub take_pushed : (b : Bool) (n at v : ℕ) (l : List ℕ) → n ≤ at → take n (pushed b l at v) ≡ take n l
take_pushed true n at v l h = take-set-le n l at v h
take_pushed false n at v l h = refl

drop_pushed : (b : Bool) (n top v : ℕ) (l : List ℕ) → drop (n + raised b top) (pushed b l (n + top) v) ≡ drop (n + raised b top) l
drop_pushed true n top v l = drop-set-lt (n + (top + 1)) l (n + top) v (omega arith)
drop_pushed false n top v l = refl

pub cell_pushed : (b : Bool) (at v w : ℕ) (l : List ℕ) → w ≢ at → get_or (pushed b l at v) w 0 ≡ get_or l w 0
cell_pushed true at v w l h = get_or-set_other l at w v 0 h
cell_pushed false at v w l h = refl

mpush_length : (g : Graph) (w : ℕ) (st : List ℕ) → length st ≤ length (mpush g w st)
unfolding mpush
mpush_length g w st = go (eqb (degree_of g w) 2)
  where
    go : (b : Bool) → length st ≤ length (cond b (w ∷ st) st)
    go true = omega arith
    go false = omega arith

-- two lists that agree from a on agree from b on
pub drop_agrees : (a b : ℕ) (l l' : List ℕ) → a ≤ b → drop a l ≡ drop a l' → drop b l ≡ drop b l'
drop_agrees a b l l' h e =
    let p : a + (b - a) ≡ b = omega arith in
    ap (λ (k : ℕ). drop k l) (sym p) ∙ sym (drop-drop (b - a) a l) ∙ ap (drop (b - a)) e ∙ drop-drop (b - a) a l' ∙ ap (λ (k : ℕ). drop k l') p

-- ---- the graph's part of a write

pub set_in : (n v x : ℕ) (l : List ℕ) → v < n → take n (set l v x) ≡ set (take n l) v x
set_in n v x l h = take-set-lt n l v x h

pub in_graph : (n v : ℕ) (l : List ℕ) → v < n → get_or (take n l) v 0 ≡ get_or l v 0
in_graph n v l h = get_or-take n l v 0 h

-- ---- a vertex is visited
pub visited : {n top w : ℕ} {numbers bytes : List ℕ} → Visits n top numbers bytes w → (two : Bool) {d head i t : ℕ} {numbers₁ numbers₂ bytes₂ : List ℕ}
    → d ≡ get_or bytes w 0 / 4 → two ≡ eqb d 2 → head ≡ raised two top → numbers₁ ≡ pushed two numbers (n + top) w
    → graph_of numbers₂ bytes₂ ≡ remove (graph_of numbers₁ bytes) w i t
    → Visited n top numbers bytes numbers₂ bytes₂ w i t head
unfolding mpush
visited {n} {top} {w} {numbers} {bytes} k two {d} {head} {i} {t} {numbers₁} {numbers₂} {bytes₂} hd ht hh hn hg = record {
  long = ap length en ∙ length-set numbers₁ w _ ∙ ap length hn ∙ pushed_length two numbers (n + top) w;
  long_b = ap length eb ∙ length-set bytes w _;
  graph = λ j. record { edges = graph_n j; degrees = graph_b j };
  stack = rw (hh, en) (rising_below n (raised two top) w _ numbers₁ k.below ∙ ap (rising n (raised two top)) hn ∙ rising_pushed two n top w numbers (omega (arith, k.holds.room, k.top<))
      ∙ ap (λ (b : Bool). cond b (w ∷ rising n top numbers) (rising n top numbers)) (ht ∙ ap (λ (z : ℕ). eqb z 2) (hd ∙ ap (λ (z : ℕ). z / 4) (sym (in_graph n w bytes k.below)))));
  rest = rw (hh, en) (drop-set-lt (n + raised two top) numbers₁ w _ (omega (arith, k.below)) ∙ ap (drop (n + raised two top)) hn ∙ drop_pushed two n top w numbers);
  rest_b = ap (drop n) eb ∙ drop-set-lt n bytes w _ k.below;
  rises = rw hh (raised_le two top);
}
  where
    en : numbers₂ ≡ set numbers₁ w (bit_xor (get_or numbers₁ w 0) i)
    en = ap (λ (g : Graph). g.edges) hg

    eb : bytes₂ ≡ set bytes w (bit_xor (get_or bytes w 0 - 4) t)
    eb = ap (λ (g : Graph). g.degrees) hg

    apart : w ≢ n + top
    apart q = absurd (omega (arith, k.below, q))

    cell : get_or numbers₁ w 0 ≡ get_or (take n numbers) w 0
    cell = ap (λ (l : List ℕ). get_or l w 0) hn ∙ cell_pushed two (n + top) w w numbers apart ∙ sym (in_graph n w numbers k.below)

    graph_n : take n numbers₂ ≡ set (take n numbers) w (bit_xor (get_or (take n numbers) w 0) i)
    graph_n = ap (take n) en ∙ set_in n w _ numbers₁ k.below ∙ ap (λ (l : List ℕ). set l w (bit_xor (get_or numbers₁ w 0) i)) (ap (take n) hn ∙ take_pushed two n (n + top) w numbers (omega arith))
        ∙ ap (λ (z : ℕ). set (take n numbers) w (bit_xor z i)) cell

    graph_b : take n bytes₂ ≡ set (take n bytes) w (bit_xor (get_or (take n bytes) w 0 - 4) t)
    graph_b = ap (take n) eb ∙ set_in n w _ bytes k.below ∙ ap (λ (z : ℕ). set (take n bytes) w (bit_xor (z - 4) t)) (sym (in_graph n w bytes k.below))

-- ---- an edge is taken off
module _ {n top v i t : ℕ} {e : Edge} {numbers bytes : List ℕ} (k : TakesOff n top numbers bytes v i t e) (bytes₁ : List ℕ)
    (eb : bytes₁ ≡ set bytes v (get_or bytes v 0 % 4)) (a b s₁ s₂ : ℕ)
    (ha : a ≡ first (side_from t) e) (hb : b ≡ second (side_from t) e) (h₁ : s₁ ≡ side_no (first_side (side_from t))) (h₂ : s₂ ≡ side_no (second_side (side_from t))) where
  abbrev g : Graph
  g = graph_in n numbers bytes

  cleared_b : take n bytes₁ ≡ set (take n bytes) v (get_or (take n bytes) v 0 % 4)
  cleared_b = ap (take n) eb ∙ set_in n v _ bytes k.v< ∙ ap (λ (z : ℕ). set (take n bytes) v (z % 4)) (sym (in_graph n v bytes k.v<))

  cleared_g : graph_in n numbers bytes₁ ≡ clear g v
  cleared_g j = record { edges = take n numbers; degrees = cleared_b j }

  long₁ : length bytes₁ ≡ length bytes
  long₁ = ap length eb ∙ length-set bytes v _

  a< : a < n
  a< = rw ha (first< k.valid (side_from t))

  b< : b < n
  b< = rw hb (second< k.valid (side_from t))

  st : List ℕ
  st = stack_in n top numbers

  long_after : length (mpush (clear g v) a st) ≤ length (stack_after g v st i (side_from t) e)
  unfolding stack_after
  long_after =
      let p : mpush (clear g v) a st ≡ mpush (clear g v) (first (side_from t) e) st = ap (λ (w : ℕ). mpush (clear g v) w st) ha in
      omega (arith, ap length p, mpush_length (remove (clear g v) (first (side_from t) e) i (side_no (first_side (side_from t)))) (second (side_from t) e) (mpush (clear g v) (first (side_from t) e) st))

  pub first_visits : Visits n top numbers bytes₁ a
  unfolding st
  first_visits = record {
    holds = record { room = k.holds.room; room_b = omega (arith, long₁, k.holds.room_b); small = k.holds.small };
    below = a<;
    four = let p : 4 ≤ get_or (take n bytes₁) a 0 = rw (cleared_b, ha) k.first_4 in omega (arith, in_graph n a bytes₁ a<);
    top< = omega (arith, k.fits, long_after, mpush_length (clear g v) a st, rising_length n top numbers);
  }

  module _ (numbers₂ bytes₂ : List ℕ) (head : ℕ) (w : Visited n top numbers bytes₁ numbers₂ bytes₂ a i s₁ head) where
    graph₂ : graph_in n numbers₂ bytes₂ ≡ remove (clear g v) a i s₁
    graph₂ = w.graph ∙ ap (λ (f : Graph). remove f a i s₁) cleared_g

    stack₂ : stack_in n head numbers₂ ≡ mpush (clear g v) a (stack_in n top numbers)
    stack₂ = w.stack ∙ ap (λ (f : Graph). mpush f a (stack_in n top numbers)) cleared_g

    pub second_visits : Visits n head numbers₂ bytes₂ b
    unfolding st
    second_visits = record {
      holds = record { room = omega (arith, w.long, k.holds.room); room_b = omega (arith, w.long_b, long₁, k.holds.room_b); small = k.holds.small };
      below = b<;
      four = let p : 4 ≤ get_or (take n bytes₂) b 0 = rw (ap (λ (f : Graph). f.degrees) graph₂, ha, hb, h₁) k.second_4 in omega (arith, in_graph n b bytes₂ b<);
      top< = omega (arith, k.fits, long_after, ap length stack₂, rising_length n head numbers₂);
    }

    pub taken_off : (numbers₃ bytes₃ : List ℕ) (r : ℕ) → Visited n head numbers₂ bytes₂ numbers₃ bytes₃ b i s₂ r → TakenOff n top numbers bytes numbers₃ bytes₃ v i t e r
    unfolding graph_after stack_after
    taken_off numbers₃ bytes₃ r u = record {
      long = u.long ∙ w.long;
      long_b = u.long_b ∙ w.long_b ∙ long₁;
      graph = u.graph ∙ ap (λ (f : Graph). remove f b i s₂) graph₂ ∙ rw (ha, hb, h₁, h₂);
      stack = u.stack ∙ ap (λ (f : Graph). mpush f b (stack_in n head numbers₂)) graph₂ ∙ ap (mpush (remove (clear g v) a i s₁) b) stack₂ ∙ rw (ha, hb, h₁);
      rest = u.rest ∙ drop_more u.rises w.rest;
      rest_b = u.rest_b ∙ w.rest_b ∙ ap (drop n) eb ∙ drop-set-lt n bytes v _ k.v<;
    }
      where
        drop_more : head ≤ r → drop (n + head) numbers₂ ≡ drop (n + head) numbers → drop (n + r) numbers₂ ≡ drop (n + r) numbers
        drop_more h q = drop_agrees (n + head) (n + r) numbers₂ numbers (omega arith) q
