-- The lowest vertex that lies on a crowd of edges: what it is, and how it is found while the edges come.
use mathlib.Core.Path.{◌≡◌, refl, sym, ap, ◌∙◌}
use mathlib.Core.List.{List}
use mathlib.Core.Bool.{Bool, true, false, cond, ◌||◌}
use mathlib.Core.Logic.{◌≢◌}
use Prim.Native.Nat.{ℕ, zero, suc, ◌+◌, ◌%◌, ◌≤◌, ◌<◌}
use native.Mathlib.Omega.{arith}
use lib.Dec.{eqb, ltb, leb}
use borrow.Author.Tests.{ltb-true, ltb-false, eqb-true, eqb-false, eq-eqb, ne_eqb, leb-true, leb-false}
use Rattle.peeling.specs.declared.numbers.Edge.{Edge}
use Rattle.peel_rules.specs.Edges.{Valid, touches, bump, degree}
use Rattle.peel_rules.specs.Peel.{crowd, crowded_from, crowded_vertex}

-- low is the lowest vertex below n whose degree is a crowd, or n where there is none
pub record Lowest (n : ℕ) (d : ℕ → ℕ) (low : ℕ) : Type 0 where
  pub within : low ≤ n
  pub is : low < n → crowd ≤ d low
  pub none_before : (w : ℕ) → w < low → d w < crowd

-- ---- it is what the definition searches for

from_is : (es : List Edge) (v k low : ℕ) → v ≤ low → low ≤ v + k → (low < v + k → crowd ≤ degree low es) → ((w : ℕ) → w < low → degree w es < crowd) → crowded_from v k es ≡ low
unfolding crowded_from
from_is es v zero low h l i f = omega arith
from_is es v (suc k) low h l i f = go (leb crowd (degree v es)) refl (from_is es (suc v) k low)
  where
    go : (b : Bool) → leb crowd (degree v es) ≡ b
        → (suc v ≤ low → low ≤ suc v + k → (low < suc v + k → crowd ≤ degree low es) → ((w : ℕ) → w < low → degree w es < crowd) → crowded_from (suc v) k es ≡ low)
        → cond b v (crowded_from (suc v) k es) ≡ low
    go true q ih = here (ltb v low) refl
      where
        here : (c : Bool) → ltb v low ≡ c → v ≡ low
        here true r = absurd (omega (arith, leb-true crowd (degree v es) q, f v (ltb-true v low r)))
        here false r = omega (arith, ltb-false v low r)
    go false q ih = ih (next (eqb v low) refl) (omega arith) (λ r. i (omega arith)) f
      where
        next : (c : Bool) → eqb v low ≡ c → suc v ≤ low
        next true r =
            let same : v ≡ low = eqb-true v low r in
            absurd (omega (arith, leb-false crowd (degree v es) q, i (omega arith), ap (λ (z : ℕ). degree z es) same))
        next false r = let ne : v ≢ low = eqb-false v low r in omega arith

pub lowest_is : (n : ℕ) (es : List Edge) (low : ℕ) → Lowest n (λ w. degree w es) low → crowded_vertex n es ≡ low
unfolding crowded_vertex
lowest_is n es low l = from_is es 0 n low (omega arith) (omega (arith, l.within)) (λ h. l.is (omega arith)) l.none_before

from_lowest : (es : List Edge) (v k : ℕ) → (v ≤ crowded_from v k es) × (crowded_from v k es ≤ v + k) × (crowded_from v k es < v + k → crowd ≤ degree (crowded_from v k es) es)
    × ((w : ℕ) → v ≤ w → w < crowded_from v k es → degree w es < crowd)
unfolding crowded_from
from_lowest es v zero = (omega arith, omega arith, λ h. absurd (omega arith), λ w a b. absurd (omega arith))
from_lowest es v (suc k) = go (leb crowd (degree v es)) refl (from_lowest es (suc v) k)
  where
    c : ℕ
    c = crowded_from (suc v) k es

    go : (b : Bool) → leb crowd (degree v es) ≡ b
        → (suc v ≤ c) × (c ≤ suc v + k) × (c < suc v + k → crowd ≤ degree c es) × ((w : ℕ) → suc v ≤ w → w < c → degree w es < crowd)
        → (v ≤ cond b v c) × (cond b v c ≤ v + suc k) × (cond b v c < v + suc k → crowd ≤ degree (cond b v c) es) × ((w : ℕ) → v ≤ w → w < cond b v c → degree w es < crowd)
    go true q ih = (omega arith, omega arith, λ h. leb-true crowd (degree v es) q, λ w a b. absurd (omega arith))
    go false q ih = (omega (arith, ih.0), omega (arith, ih.1), λ h. ih.2 (omega arith), each)
      where
        each : (w : ℕ) → v ≤ w → w < c → degree w es < crowd
        each w a b = at (eqb v w) refl
          where
            at : (t : Bool) → eqb v w ≡ t → degree w es < crowd
            at true r = rw (← eqb-true v w r) (leb-false crowd (degree v es) q)
            at false r = let ne : v ≢ w = eqb-false v w r in ih.3 w (omega arith) b

-- the definition's vertex is the lowest
pub crowded_lowest : (n : ℕ) (es : List Edge) → Lowest n (λ w. degree w es) (crowded_vertex n es)
unfolding crowded_vertex
crowded_lowest n es = let f = from_lowest es 0 n in record { within = omega (arith, f.1); is = λ h. f.2 (omega arith); none_before = λ w h. f.3 w (omega arith) h }

-- no crowd: every degree has room in a byte
pub uncrowded : (n : ℕ) (es : List Edge) → crowded_vertex n es ≡ n → (w : ℕ) → w < n → degree w es < crowd
uncrowded n es h w l = (crowded_lowest n es).none_before w (omega arith)

-- ---- one incidence more

-- the vertex v has one edge more: it is a crowd now if its byte had no room, and if it had, it is no crowd unless it was one
pub lowest_one : (d : ℕ → ℕ) (n v low : ℕ) (full : Bool) → v < n → (full ≡ true → d v % crowd ≡ 63) → (full ≡ false → d v % crowd ≢ 63) → Lowest n d low
    → Lowest n (λ w. bump (eqb w v) (d w)) (cond full (cond (ltb v low) v low) low)
lowest_one d n v low true h was not_yet l = pick (ltb v low) refl
  where
    more : (w : ℕ) → d w ≤ bump (eqb w v) (d w)
    more w = up (eqb w v)
      where
        up : (b : Bool) → d w ≤ bump b (d w)
        up true = omega arith
        up false = omega arith

    other : (w : ℕ) → w ≢ v → d w < crowd → bump (eqb w v) (d w) < crowd
    other w ne k = rw (ne_eqb w v ne) k

    pick : (b : Bool) → ltb v low ≡ b → Lowest n (λ w. bump (eqb w v) (d w)) (cond b v low)
    pick true q =
        let below : v < low = ltb-true v low q in
        record {
          within = omega (arith, l.within);
          is = λ _. rw (eq-eqb v v refl) (omega (arith, was refl));
          none_before = λ w k. other w (omega arith) (l.none_before w (omega arith));
        }
    pick false q =
        let above : low ≤ v = ltb-false v low q in
        record {
          within = l.within;
          is = λ k. omega (arith, more low, l.is k);
          none_before = λ w k. other w (omega arith) (l.none_before w k);
        }
lowest_one d n v low false h was not_yet l = record {
  within = l.within;
  is = λ k. omega (arith, more low, l.is k);
  none_before = λ w k. at w (l.none_before w k);
}
  where
    more : (w : ℕ) → d w ≤ bump (eqb w v) (d w)
    more w = up (eqb w v)
      where
        up : (b : Bool) → d w ≤ bump b (d w)
        up true = omega arith
        up false = omega arith

    room : d v < crowd → suc (d v) < crowd
    room k = let ne : d v % crowd ≢ 63 = not_yet refl in omega arith

    at : (w : ℕ) → d w < crowd → bump (eqb w v) (d w) < crowd
    at w k = go (eqb w v) refl
      where
        go : (b : Bool) → eqb w v ≡ b → bump b (d w) < crowd
        go true q = let same : w ≡ v = eqb-true w v q in rw same (room (rw (← same) k))
        go false q = k

pub lowest_cong : {n low : ℕ} (d f : ℕ → ℕ) → ((w : ℕ) → d w ≡ f w) → Lowest n d low → Lowest n f low
lowest_cong {n} {low} d f e l = record {
  within = l.within;
  is = λ k. rw (← e low) (l.is k);
  none_before = λ w k. rw (← e w) (l.none_before w k);
}

-- the three vertices of an edge, one after the other
pub bump_thrice : {n : ℕ} {e : Edge} → Valid n e → (w k : ℕ) → bump (eqb w e.c.0) (bump (eqb w e.b.0) (bump (eqb w e.a.0) k)) ≡ bump (touches w e) k
unfolding touches
bump_thrice {n} {e} va w k = go (eqb w e.a.0) refl (eqb w e.b.0) refl (eqb w e.c.0) refl
  where
    go : (p : Bool) → eqb w e.a.0 ≡ p → (q : Bool) → eqb w e.b.0 ≡ q → (r : Bool) → eqb w e.c.0 ≡ r → bump r (bump q (bump p k)) ≡ bump (p || (q || r)) k
    go true hp true hq r hr = absurd (va.a≢b (sym (eqb-true w e.a.0 hp) ∙ eqb-true w e.b.0 hq))
    go true hp false hq true hr = absurd (va.a≢c (sym (eqb-true w e.a.0 hp) ∙ eqb-true w e.c.0 hr))
    go true hp false hq false hr = refl
    go false hp true hq true hr = absurd (va.b≢c (sym (eqb-true w e.b.0 hq) ∙ eqb-true w e.c.0 hr))
    go false hp true hq false hr = refl
    go false hp false hq true hr = refl
    go false hp false hq false hr = refl
