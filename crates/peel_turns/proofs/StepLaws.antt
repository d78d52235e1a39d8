-- The steps' pieces, put together.
use mathlib.Core.Path.{◌≡◌, refl, sym, ap, ◌∙◌}
use mathlib.Core.List.{List, ◌∷◌}
use mathlib.Core.Bool.{Bool, true, false, cond}
use mathlib.Core.Logic.{◌≢◌}
use Prim.Native.Nat.{ℕ, zero, suc, ◌+◌, ◌-◌, ◌/◌, ◌%◌, ◌≤◌, ◌<◌}
use native.Mathlib.Omega.{arith}
use native.Mathlib.Numerals.{add-one}
use lib.ListN.{length, get_or, take, drop, set}
use lib.Seq.{drop-set-lt, get_or-set_same, get_or-set_other}
use lib.Dec.{eqb}
use borrow.Author.Tests.{eq-eqb, ne_eqb, eqb-true, eqb-false}
use Rattle.peeling.specs.declared.numbers.Edge.{Edge}
use Rattle.peeling.specs.Graph.{Graph, degree_of}
use Rattle.peel_rules.specs.Edges.{Valid, Side}
use Rattle.peel_rules.specs.Machine.{side_from, mpush, stack_after, mones}
use Rattle.peel_rules.proofs.PeelEmpty.{first<, second<}
use Rattle.peel_steps.specs.Pictures.{graph_in, rising, stack_in, kept_numbers, kept_bytes}
use Rattle.peel_turns.specs.Steps.{Holds, TakesOff, TakenOff, Keeps, top_of, next_of, Tops}
use Rattle.peel_turns.specs.TurnsOn.{TurnsOn}
use Rattle.peel_turns.proofs.PictureLaws.{pushed, raised, rising_length, rising_pushed, take_pushed, pushed_length, in_graph}

-- ---- the next edge

pub next_none : (n stack : ℕ) (numbers bytes : List ℕ) → stack ≡ 0 → 0 ≡ next_of n stack numbers bytes
next_none n stack numbers bytes h = rw (eq-eqb stack 0 h)

pub next_idle : {d : ℕ} (n stack : ℕ) (numbers bytes : List ℕ) → stack ≢ 0 → d ≡ get_or bytes (top_of n stack numbers) 0 / 4 → d ≡ 0 → 0 ≡ next_of n stack numbers bytes
next_idle n stack numbers bytes h q z = rw (ne_eqb stack 0 h, eq-eqb (get_or bytes (top_of n stack numbers) 0 / 4) 0 (sym q ∙ z))

pub next_busy : {d r : ℕ} (n stack : ℕ) (numbers bytes : List ℕ) → stack ≢ 0 → d ≡ get_or bytes (top_of n stack numbers) 0 / 4 → d ≢ 0 → r ≡ get_or numbers (top_of n stack numbers) 0
    → r ≡ next_of n stack numbers bytes
next_busy n stack numbers bytes h q z hr = rw (ne_eqb stack 0 h, ne_eqb (get_or bytes (top_of n stack numbers) 0 / 4) 0 (λ p. z (q ∙ p))) hr

-- ---- a list's first vertex, if it has one, is below n

abbrev HeadBelow : ℕ → List ℕ → Type 0
HeadBelow n l = 0 < length l → get_or l 0 0 < n

mpush_below : {n w : ℕ} (g : Graph) (st : List ℕ) → w < n → HeadBelow n st → HeadBelow n (mpush g w st)
unfolding mpush
mpush_below {n} {w} g st h b = go (eqb (degree_of g w) 2)
  where
    go : (two : Bool) → HeadBelow n (cond two (w ∷ st) st)
    go true = λ q. h
    go false = b

after_below : {n : ℕ} {e : Edge} (g : Graph) (v : ℕ) (st : List ℕ) (i : ℕ) (s : Side) → Valid n e → HeadBelow n st → HeadBelow n (stack_after g v st i s e)
unfolding stack_after
after_below g v st i s h b = mpush_below _ _ (second< h s) (mpush_below _ _ (first< h s) b)

mones_below : (w n : ℕ) (g : Graph) → w ≤ n → HeadBelow n (mones w g)
unfolding mones
mones_below zero n g h = λ q. absurd (omega (arith, q))
mones_below (suc w) n g h = go (eqb (degree_of g w) 1) (mones_below w n g (omega arith))
  where
    go : (one : Bool) → HeadBelow n (mones w g) → HeadBelow n (cond one (w ∷ mones w g) (mones w g))
    go true b = λ q. omega arith
    go false b = b

-- of a stack it is the vertex on top
rising_below_n : (n k : ℕ) (numbers : List ℕ) → (0 < k → top_of n k numbers < n) → HeadBelow n (rising n k numbers)
unfolding rising
rising_below_n n zero numbers h = λ q. absurd (omega (arith, q))
rising_below_n n (suc k) numbers h = λ q. let one_less : suc k - 1 ≡ k = omega arith in rw one_less at (h (omega arith))

top_below : (n k : ℕ) (numbers : List ℕ) {l : List ℕ} → rising n k numbers ≡ l → HeadBelow n l → 0 < k → top_of n k numbers < n
unfolding rising
top_below n zero numbers q b h = absurd (omega (arith, h))
top_below n (suc k) numbers {l} q b h =
    let one_less : suc k - 1 ≡ k = omega arith in
    let is : get_or numbers (n + k) 0 ≡ get_or l 0 0 = ap (λ (m : List ℕ). get_or m 0 0) q in
    rw (one_less, is) (b (omega (arith, ap length q)))

-- ---- a turn

set_below : (n i j x : ℕ) (l : List ℕ) → i < length l → x < n → get_or l j 0 < n → get_or (set l i x) j 0 < n
set_below n i j x l h hx b = go (eqb j i) refl
  where
    go : (t : Bool) → eqb j i ≡ t → get_or (set l i x) j 0 < n
    go true q = rw (eqb-true j i q, get_or-set_same l i x 0 h) hx
    go false q = rw (get_or-set_other l i j x 0 (eqb-false j i q)) b

module _ {high : Bool} {n stack peeled : ℕ} {e : Edge} {numbers bytes : List ℕ} (k : TurnsOn high n stack peeled e numbers bytes) where
  abbrev v : ℕ
  v = top_of n stack numbers

  module _ {d x t : ℕ} (hd : d ≡ get_or bytes v 0 / 4) (nz : d ≢ 0) (hx : x ≡ get_or numbers v 0) (ht : t ≡ get_or bytes v 0 % 4) {numbers₁ bytes₁ : List ℕ}
      (hn : numbers₁ ≡ kept_numbers high n peeled v x numbers) (hb : bytes₁ ≡ kept_bytes high n peeled t bytes) where
    is_busy : 4 ≤ get_or bytes v 0
    is_busy = omega (arith, hd, nz)

    en : numbers₁ ≡ kept_numbers high n peeled v (get_or numbers v 0) numbers
    en = hn ∙ ap (λ (i : ℕ). kept_numbers high n peeled v i numbers) hx

    eb : bytes₁ ≡ kept_bytes high n peeled (get_or bytes v 0 % 4) bytes
    eb = hb ∙ ap (λ (s : ℕ). kept_bytes high n peeled s bytes) ht

    turn_takes : TakesOff n (stack - 1) numbers₁ bytes₁ v x t e
    turn_takes = rw (en, eb, hx, ht) (k.busy is_busy).takes

    -- the record of the edge leaves a vertex below n on top
    kept_top : (b : Bool) (y : ℕ) → Keeps b n peeled numbers bytes → 0 < stack - 1 → top_of n (stack - 1) (kept_numbers b n peeled v y numbers) < n
    kept_top true y r q = let below = k.next<.top< q in let within = k.tops.within in rw (get_or-set_other numbers (n + n + peeled) (n + (stack - 1 - 1)) y 0 (omega arith)) below
    kept_top false y r q = set_below n (n + n - (peeled + 1)) (n + (stack - 1 - 1)) v numbers (omega (arith, r.0, r.1)) (k.tops.top< k.some_left) (k.next<.top< q)

    module _ {numbers₂ bytes₂ : List ℕ} {r : ℕ} (w : TakenOff n (stack - 1) numbers₁ bytes₁ numbers₂ bytes₂ v x t e r) where
      pub turn_tops : Tops n r numbers₂ bytes₂
      turn_tops = record {
        holds = record { room = omega (arith, w.long, turn_takes.holds.room); room_b = omega (arith, w.long_b, turn_takes.holds.room_b); small = turn_takes.holds.small };
        within = omega (arith, turn_takes.fits, ap length w.stack, rising_length n r numbers₂);
        top< = top_below n r numbers₂ w.stack (after_below _ v _ x (side_from t) turn_takes.valid
            (rising_below_n n (stack - 1) numbers₁ (λ q. rw hn (kept_top high x (k.busy is_busy).keeps q))));
      }

-- ---- the vertices of degree 1

pub record Preloading (n : ℕ) (numbers₀ bytes numbers : List ℕ) (v top : ℕ) : Type 0 where
  pub holds : Holds n numbers₀ bytes
  pub long : length numbers ≡ length numbers₀
  pub graph : take n numbers ≡ take n numbers₀
  pub stack : stack_in n top numbers ≡ mones v (graph_in n numbers₀ bytes)
  pub rest : drop (n + n) numbers ≡ drop (n + n) numbers₀
  pub top≤ : top ≤ v
  pub v≤ : v ≤ n

pub preloading_begin : {n : ℕ} {numbers bytes : List ℕ} → Holds n numbers bytes → Preloading n numbers bytes numbers 0 0
unfolding rising mones
preloading_begin h = record { holds = h; long = refl; graph = refl; stack = refl; rest = refl; top≤ = omega arith; v≤ = omega arith }

raised_step : (b : Bool) (top v : ℕ) → top ≤ v → raised b top ≤ v + 1
raised_step true top v h = omega arith
raised_step false top v h = omega arith

drop_pushed_far : (b : Bool) (n top v : ℕ) (l : List ℕ) → top < n → drop (n + n) (pushed b l (n + top) v) ≡ drop (n + n) l
drop_pushed_far true n top v l h = drop-set-lt (n + n) l (n + top) v (omega arith)
drop_pushed_far false n top v l h = refl

pub preloading_turn : {n v top d top₁ : ℕ} {numbers₀ bytes numbers numbers₁ : List ℕ} {one : Bool} → Preloading n numbers₀ bytes numbers v top → v < n
    → d ≡ get_or bytes v 0 / 4 → one ≡ eqb d 1 → numbers₁ ≡ pushed one numbers (n + top) v → top₁ ≡ raised one top
    → Preloading n numbers₀ bytes numbers₁ (v + 1) top₁
unfolding mones
preloading_turn {n} {v} {top} {d} {top₁} {numbers₀} {bytes} {numbers} {numbers₁} {one} p h hd ho hn ht = record {
  holds = p.holds;
  long = ap length hn ∙ pushed_length one numbers (n + top) v ∙ p.long;
  graph = ap (take n) hn ∙ take_pushed one n (n + top) v numbers (omega arith) ∙ p.graph;
  stack = rw (hn, ht, add-one v) (rising_pushed one n top v numbers (omega (arith, p.long, p.holds.room, p.top≤))
      ∙ ap (λ (l : List ℕ). cond one (v ∷ l) l) p.stack
      ∙ ap (λ (b : Bool). cond b (v ∷ mones v (graph_in n numbers₀ bytes)) (mones v (graph_in n numbers₀ bytes))) (ho ∙ ap (λ (z : ℕ). eqb z 1) (hd ∙ ap (λ (z : ℕ). z / 4) (sym (in_graph n v bytes h)))));
  rest = ap (drop (n + n)) hn ∙ drop_pushed_far one n top v numbers (omega (arith, p.top≤)) ∙ p.rest;
  top≤ = rw ht (raised_step one top v p.top≤);
  v≤ = omega arith;
}

pub preloaded_tops : {n v top : ℕ} {numbers₀ bytes numbers : List ℕ} → Preloading n numbers₀ bytes numbers v top → Tops n top numbers bytes
preloaded_tops {n} {v} {top} {numbers₀} {bytes} {numbers} p = record {
  holds = record { room = omega (arith, p.long, p.holds.room); room_b = p.holds.room_b; small = p.holds.small };
  within = omega (arith, p.top≤, p.v≤);
  top< = top_below n top numbers p.stack (mones_below v n (graph_in n numbers₀ bytes) p.v≤);
}
