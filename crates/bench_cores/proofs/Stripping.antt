-- Edges that hang are taken away until none does: what is left is the core.
use Rattle.std.proofs.Common.{◌≡◌, refl, sym, ap, ◌∙◌, List, [], ◌∷◌, Bool, true, false, cond, ◌||◌, ⊎_elim, ℕ, ◌+◌, ◌≤◌, ◌<◌, eqb, length, get_or, set, take, replicate, arith, below_more}
use Rattle.std.proofs.lemmas.Bool.{false≢true}
use Rattle.std.proofs.lemmas.List.{length-replicate}
use borrow.Author.Tests.{eqb-true, eqb-false}
use Rattle.peeling.specs.declared.numbers.Edge.{Edge}
use Rattle.peel_rules.specs.Edges.{touches, degree, side0, pivot, first, second}
use Rattle.peel_rules.specs.Core.{Tight, pick, Within}
use Rattle.peel_rules.proofs.PeelBasic.{touches_a, touches_b, touches_c}
use Rattle.peel_rules.proofs.PeelCore.{vertex, core_unique, within_degree, tight_zero}
use Rattle.bench_cores.specs.Counted.{hangs_by, edge_no, OneStrip, dead, stays, goes, Strips, OutsideCore}
use Rattle.bench_cores.proofs.Living.{pick_all, within_all, touched_by, fewer_alive, within_without}
use Rattle.bench_cores.proofs.Counting.{all_alive}

-- ---- edges that hang

pub record HangsAt (e : Edge) (es : List Edge) : Type 0 where
  pub at : ℕ
  pub once : degree at es ≡ 1
  pub touch : touches at e ≡ true

hangs_at : (e : Edge) (es : List Edge) → hangs_by e es ≡ true → HangsAt e es
unfolding hangs_by
hangs_at e es h = go (eqb (degree e.a.0 es) 1) refl (eqb (degree e.b.0 es) 1) refl (eqb (degree e.c.0 es) 1) refl h
  where
    go : (p : Bool) → eqb (degree e.a.0 es) 1 ≡ p → (q : Bool) → eqb (degree e.b.0 es) 1 ≡ q → (r : Bool) → eqb (degree e.c.0 es) 1 ≡ r → p || (q || r) ≡ true → HangsAt e es
    go true hp q hq r hr k = record { at = e.a.0; once = eqb-true (degree e.a.0 es) 1 hp; touch = touches_a e }
    go false hp true hq r hr k = record { at = e.b.0; once = eqb-true (degree e.b.0 es) 1 hq; touch = touches_b e }
    go false hp false hq true hr k = record { at = e.c.0; once = eqb-true (degree e.c.0 es) 1 hr; touch = touches_c e }
    go false hp false hq false hr k = absurd (false≢true k)

hangs_not : (e : Edge) (es : List Edge) (w : ℕ) → hangs_by e es ≡ false → touches w e ≡ true → degree w es ≡ 1 → ⊥
unfolding hangs_by pivot first second
hangs_not e es w h t d = go (eqb (degree e.a.0 es) 1) refl (eqb (degree e.b.0 es) 1) refl (eqb (degree e.c.0 es) 1) refl h
  where
    none : (v : ℕ) → eqb (degree v es) 1 ≡ false → w ≡ v → ⊥
    none v q e = eqb-false (degree v es) 1 q (ap (λ (z : ℕ). degree z es) (sym e) ∙ d)

    go : (p : Bool) → eqb (degree e.a.0 es) 1 ≡ p → (q : Bool) → eqb (degree e.b.0 es) 1 ≡ q → (r : Bool) → eqb (degree e.c.0 es) 1 ≡ r → p || (q || r) ≡ false → ⊥
    go false hp false hq false hr k = ⊎_elim (none e.a.0 hp) (⊎_elim (none e.b.0 hq) (none e.c.0 hr)) (vertex side0 w e t)
    go false hp false hq true hr k = false≢true (sym k)
    go false hp true hq r hr k = false≢true (sym k)
    go true hp q hq r hr k = false≢true (sym k)

-- ---- one round

-- i edges were looked at
pub record Stripping (es : List Edge) (before : List Bool) (i : ℕ) (alive : List Bool) (gone : ℕ) : Type 0 where
  pub few : gone ≤ i
  pub fewer : length (pick before es) ≡ gone + length (pick alive es)
  pub kept : (bs : List Bool) → Tight (pick bs es) → Within bs before → Within bs alive
  pub still : gone ≡ 0 → alive ≡ before
  pub firm : gone ≡ 0 → (k : ℕ) → k < i → get_or before k false ≡ true → hangs_by (edge_no k es) (pick before es) ≡ false

pub stripping_begin : (es : List Edge) (alive : List Bool) → Stripping es alive 0 alive 0
stripping_begin es alive =
    record { few = omega arith; fewer = omega arith; kept = λ bs t w. w; still = λ _. refl; firm = λ _ k h. absurd (omega arith) }

-- a tight set does not have an edge that hangs
gone_kept : (es : List Edge) (i : ℕ) (alive bs : List Bool) → i < length es → hangs_by (edge_no i es) (pick alive es) ≡ true → Tight (pick bs es) → Within bs alive
    → Within bs (set alive i false)
gone_kept es i alive bs h f tight w =
    let v = hangs_at (edge_no i es) (pick alive es) f in
    let most = within_degree v.at bs alive es w in
    let none = tight_zero (degree v.at (pick bs es)) (omega (arith, v.once)) (tight v.at) in
    within_without v.at i bs alive es h v.touch none w

pub stripping_turn : {es : List Edge} {before : List Bool} {i : ℕ} {alive : List Bool} {gone : ℕ} {after : List Bool} {r : Bool} → Stripping es before i alive gone → i < length es
    → OneStrip es i alive after r → Stripping es before (i + 1) after (cond r (gone + 1) gone)
stripping_turn {es} {before} {i} {alive} {gone} w h (dead z) = record {
  few = omega (arith, w.few);
  fewer = w.fewer;
  kept = w.kept;
  still = w.still;
  firm = λ q. below_more _ _ (w.firm q) (λ a. absurd (false≢true (sym z ∙ (ap (λ (l : List Bool). get_or l i false) (w.still q) ∙ a))));
}
stripping_turn {es} {before} {i} {alive} {gone} w h (stays f) = record {
  few = omega (arith, w.few);
  fewer = w.fewer;
  kept = w.kept;
  still = w.still;
  firm = λ q. below_more _ _ (w.firm q) (λ a. ap (λ (l : List Bool). hangs_by (edge_no i es) (pick l es)) (sym (w.still q)) ∙ f);
}
stripping_turn {es} {before} {i} {alive} {gone} w h (goes a f) = record {
  few = omega (arith, w.few);
  fewer = omega (arith, w.fewer, fewer_alive i alive es h a);
  kept = λ bs t v. gone_kept es i alive bs h f t (w.kept bs t v);
  still = λ q. absurd (omega arith);
  firm = λ q. absurd (omega arith);
}

pub stripping_end : {es : List Edge} {before : List Bool} {i : ℕ} {alive : List Bool} {gone : ℕ} → Stripping es before i alive gone → length es ≤ i → Strips es before alive gone
stripping_end {es} {before} {i} {alive} {gone} w h = record { fewer = w.fewer; kept = w.kept; ended = ended }
  where
    ended : gone ≡ 0 → Tight (pick alive es)
    ended q u p =
        let d = ap (λ (l : List Bool). degree u (pick l es)) (w.still q) in
        let t = touched_by u before es (omega arith) in
        let firm = w.firm q t.at (omega (arith, t.inside)) t.alive in
        let no = hangs_not (edge_no t.at es) (pick before es) u firm t.touch in
        two (degree u (pick alive es)) (λ z. no (sym d ∙ z)) p
      where
        two : (d : ℕ) → (d ≡ 1 → ⊥) → 0 < d → 2 ≤ d
        two d ne p = omega arith

-- ---- all rounds

-- every tight set is still alive
pub record Rounds (es : List Edge) (round outside : ℕ) (alive : List Bool) : Type 0 where
  pub each : round ≤ outside
  pub long : length alive ≡ length es
  pub largest : (bs : List Bool) → length bs ≡ length es → Tight (pick bs es) → Within bs alive
  pub count : outside + length (pick alive es) ≡ length es

pub rounds_begin : (es : List Edge) → length es ≤ 256 → Rounds es 0 0 (take (length es) (replicate 256 true))
rounds_begin es h = rw (all_alive es h) (record {
  each = omega arith;
  long = length-replicate {A = Bool} (length es) true;
  largest = λ bs l t. rw (← l) (within_all bs);
  count = rw (pick_all es) (omega arith);
})

-- as many rounds as edges: all are gone
pub rounds_end : {es : List Edge} {round outside : ℕ} {alive : List Bool} → Rounds es round outside alive → length es ≤ round → OutsideCore es outside
unfolding degree
rounds_end {es} {round} {outside} {alive} w r = record {
  core = alive;
  is_core = record { size = w.long; tight = empty_tight (pick alive es) (omega (arith, w.count, w.each)); largest = w.largest };
  count = w.count;
}
  where
    empty_tight : (es : List Edge) → length es ≡ 0 → Tight es
    empty_tight [] z u p = absurd (omega arith)
    empty_tight (e ∷ es) z u p = absurd (omega arith)

-- ---- the number is one

pub outside_unique : {es : List Edge} {r s : ℕ} → OutsideCore es r → OutsideCore es s → r ≡ s
outside_unique {es} {r} {s} p q =
    let e = ap (λ (c : List Bool). length (pick c es)) (core_unique es p.core q.core p.is_core q.is_core) in
    omega (arith, p.count, q.count)
