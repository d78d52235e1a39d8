-- The variables of an equation: the walk that tests their order, and that the test says `Rising`.
use mathlib.Core.Path.{◌≡◌, refl, sym, ◌∙◌}
use mathlib.Core.Bool.{true, false, ◌&&◌}
use mathlib.Core.List.{List, [], ◌∷◌}
use Prim.Native.Nat.{ℕ, suc, ◌+◌, ◌<◌, ◌≤◌, zero-le}
use native.Mathlib.Numerals.{add-one}
use native.Mathlib.Omega.{arith}
use borrow.Author.Tests.{le-leb, lt-leb, leb-true, lt-ltb, le-ltb, ltb-true}
use lib.ListN.{length, drop, get_or, drop_of_length-le}
use lib.Seq.{drop-cons}
use lib.Dec.{leb, ltb}
use Rattle.gf2.specs.Equation.{Rising}
use Rattle.system.specs.System.{rises_below, in_order}
use Rattle.gf2.proofs.Both.{both}

-- i variables are passed, and all are in order where the rest rises from low
pub record Ordered (n : ℕ) (vars : List ℕ) (low i : ℕ) : Type 0 where
  pub within : i ≤ length vars
  pub rest : in_order n vars ≡ rises_below low n (drop i vars)

pub ordered_begin : (n : ℕ) (vars : List ℕ) → Ordered n vars 0 0
ordered_begin n vars = record { within = zero-le; rest = refl }

pub ordered_turn : {n : ℕ} {vars : List ℕ} {low i : ℕ} → Ordered n vars low i → i < length vars → low ≤ get_or vars i 0 → get_or vars i 0 < n → Ordered n vars (get_or vars i 0 + 1) (i + 1)
unfolding rises_below
ordered_turn {n} {vars} {low} {i} w h k l =
    record {
      within = omega arith;
      rest = w.rest ∙ rw (add-one i, drop-cons vars i 0 h, le-leb low (get_or vars i 0) k, lt-ltb (get_or vars i 0) n l);
    }

pub ordered_low : {n : ℕ} {vars : List ℕ} {low i : ℕ} → Ordered n vars low i → i < length vars → get_or vars i 0 < low → false ≡ in_order n vars
unfolding rises_below
ordered_low {n} {vars} {low} {i} w h k = sym (w.rest ∙ rw (drop-cons vars i 0 h, lt-leb low (get_or vars i 0) k))

pub ordered_high : {n : ℕ} {vars : List ℕ} {low i : ℕ} → Ordered n vars low i → i < length vars → low ≤ get_or vars i 0 → n ≤ get_or vars i 0 → false ≡ in_order n vars
unfolding rises_below
ordered_high {n} {vars} {low} {i} w h k l =
    sym (w.rest ∙ rw (drop-cons vars i 0 h, le-leb low (get_or vars i 0) k, le-ltb (get_or vars i 0) n l))

pub ordered_end : {n : ℕ} {vars : List ℕ} {low i : ℕ} → Ordered n vars low i → length vars ≤ i → true ≡ in_order n vars
unfolding rises_below
ordered_end {n} {vars} w h = sym (w.rest ∙ rw (drop_of_length-le vars h))

-- ---- the test says that the list rises

pub rises_rising : (b n : ℕ) (vs : List ℕ) → rises_below b n vs ≡ true → Rising b n vs
unfolding rises_below
rises_rising b n [] e = tt
rises_rising b n (v ∷ vs) e =
    let p = both (leb b v) (ltb v n && rises_below (v + 1) n vs) e in
    let q = both (ltb v n) (rises_below (v + 1) n vs) p.1 in
    (leb-true b v p.0, ltb-true v n q.0, rises_rising (suc v) n vs (rw (add-one v) at q.1))

pub rising_rises : (b n : ℕ) (vs : List ℕ) → Rising b n vs → rises_below b n vs ≡ true
unfolding rises_below
rising_rises b n [] r = refl
rising_rises b n (v ∷ vs) r = rw (add-one v, le-leb b v r.0, lt-ltb v n r.1) (rising_rises (suc v) n vs r.2)
