-- Starts that keep their rule: what they are then, and which tests say so.
use mathlib.Core.Path.{◌≡◌, refl, sym, ◌∙◌}
use mathlib.Core.Bool.{Bool, true, false, ◌&&◌, false≢true}
use mathlib.Core.List.{List, [], ◌∷◌}
use Prim.Native.Nat.{ℕ, zero, suc, ◌+◌, ◌<◌, ◌≤◌, zero-le, suc-le-suc}
use native.Mathlib.Nat.{not-suc-le-zero, le_of_suc-le-suc}
use native.Mathlib.Numerals.{add-one}
use native.Mathlib.Omega.{arith}
use borrow.Author.Tests.{le-leb, leb-true, leb-false, eq-eqb, eqb-true}
use lib.ListN.{length, get_or}
use lib.Dec.{eqb, leb}
use Rattle.std.specs.List.{IsAllAdjacentAnswer}
use Rattle.std.specs.List.Sorted.{IsNonDecreasing}
use Rattle.std.proofs.lemmas.List.Sorted.{IsNonDecreasingBy-from_all_adjacent}
use Rattle.system.specs.System.{climbs, starts_kept}
use Rattle.gf2.proofs.Both.{both}

-- ---- what starts are that keep their rule

climbs_cons : (a t s : ℕ) (ss : List ℕ) → climbs a t (s ∷ ss) ≡ true → (a ≤ s) × (climbs s t ss ≡ true)
unfolding climbs
climbs_cons a t s ss e =
    let q = both (leb a s) (climbs s t ss) e in
    (leb-true a s q.0, q.1)

climbs_from : (a t : ℕ) (ss : List ℕ) → climbs a t ss ≡ true → (j : ℕ) → j < length ss → a ≤ get_or ss j 0
climbs_from a t [] e j h = absurd (not-suc-le-zero h)
climbs_from a t (s ∷ ss) e zero h = (climbs_cons a t s ss e).0
climbs_from a t (s ∷ ss) e (suc j) h =
    let l : a ≤ s = (climbs_cons a t s ss e).0 in
    let k : s ≤ get_or ss j 0 = climbs_from s t ss (climbs_cons a t s ss e).1 j (le_of_suc-le-suc h) in
    omega arith

climbs_at : (a t : ℕ) (ss : List ℕ) → climbs a t ss ≡ true → (i j : ℕ) → i ≤ j → j < length ss → get_or ss i 0 ≤ get_or ss j 0
climbs_at a t [] e i j l h = absurd (not-suc-le-zero h)
climbs_at a t (s ∷ ss) e zero zero l h = omega arith
climbs_at a t (s ∷ ss) e zero (suc j) l h = climbs_from s t ss (climbs_cons a t s ss e).1 j (le_of_suc-le-suc h)
climbs_at a t (s ∷ ss) e (suc i) zero l h = absurd (not-suc-le-zero l)
climbs_at a t (s ∷ ss) e (suc i) (suc j) l h = climbs_at s t ss (climbs_cons a t s ss e).1 i j (le_of_suc-le-suc l) (le_of_suc-le-suc h)

climbs_last : (a t s : ℕ) (ss : List ℕ) → climbs a t (s ∷ ss) ≡ true → get_or (s ∷ ss) (length ss) 0 ≡ t
climbs_last a t s [] e = eqb-true s t (unfold climbs in (climbs_cons a t s [] e).1)
climbs_last a t s (r ∷ ss) e = climbs_last s t r ss (climbs_cons a t s (r ∷ ss) e).1

climbs_back : (a t s : ℕ) (ss : List ℕ) → a ≤ s → ((i : ℕ) → i < length ss → get_or (s ∷ ss) i 0 ≤ get_or (s ∷ ss) (suc i) 0) → get_or (s ∷ ss) (length ss) 0 ≡ t → climbs a t (s ∷ ss) ≡ true
unfolding climbs
climbs_back a t s [] h f e = rw (le-leb a s h) (eq-eqb s t e)
climbs_back a t s (r ∷ ss) h f e = rw (le-leb a s h) (climbs_back s t r ss (f zero (suc-le-suc zero-le)) (λ i l. f (suc i) (suc-le-suc l)) e)

pub record Starts (m t : ℕ) (starts : List ℕ) : Type 0 where
  pub long : length starts ≡ m + 1
  pub first : get_or starts 0 0 ≡ 0
  pub last : get_or starts m 0 ≡ t
  pub climbing : (i j : ℕ) → i ≤ j → j ≤ m → get_or starts i 0 ≤ get_or starts j 0

last_of : (m t : ℕ) (starts : List ℕ) → length starts ≡ m + 1 → climbs 0 t starts ≡ true → get_or starts m 0 ≡ t
last_of m t [] l e = absurd (omega arith)
last_of m t (s ∷ ss) l e =
    let q : m ≡ length ss = omega arith in
    rw q (climbs_last 0 t s ss e)

pub starts_sound : (m t : ℕ) (starts : List ℕ) → starts_kept m t starts ≡ true → Starts m t starts
unfolding starts_kept
starts_sound m t starts e =
    let l : length starts ≡ m + 1 = eqb-true (length starts) (m + 1) (both (eqb (length starts) (m + 1)) (eqb (get_or starts 0 0) 0 && climbs 0 t starts) e).0 in
    let q = both (eqb (get_or starts 0 0) 0) (climbs 0 t starts) (both (eqb (length starts) (m + 1)) (eqb (get_or starts 0 0) 0 && climbs 0 t starts) e).1 in
    let k : climbs 0 t starts ≡ true = q.1 in
    record {
      long = l;
      first = eqb-true (get_or starts 0 0) 0 q.0;
      last = last_of m t starts l k;
      climbing = λ i j h g. climbs_at 0 t starts k i j h (omega arith);
    }

kept_back : (m t : ℕ) (starts : List ℕ) → length starts ≡ m + 1 → ((i : ℕ) → i < m → get_or starts i 0 ≤ get_or starts (i + 1) 0) → get_or starts m 0 ≡ t → climbs 0 t starts ≡ true
kept_back m t [] l f e = absurd (omega arith)
kept_back m t (s ∷ ss) l f e =
    let q : m ≡ length ss = omega arith in
    climbs_back 0 t s ss zero-le (λ i h. rw (add-one i) at (f i (omega arith))) (rw q at e)

pub starts_kept_back : (m t : ℕ) (starts : List ℕ) → length starts ≡ m + 1 → get_or starts 0 0 ≡ 0 → ((i : ℕ) → i < m → get_or starts i 0 ≤ get_or starts (i + 1) 0) → get_or starts m 0 ≡ t → starts_kept m t starts ≡ true
unfolding starts_kept
starts_kept_back m t starts l z f e =
    rw (eq-eqb (length starts) (m + 1) l, eq-eqb (get_or starts 0 0) 0 z) (kept_back m t starts l f e)

-- ---- the tests

-- what is told of each start and the next is whether the second is no less
pub never_falls : (starts : List ℕ) → IsAllAdjacentAnswer (λ x y b. b ≡ leb x y) starts true → IsNonDecreasing starts
never_falls starts h = IsNonDecreasingBy-from_all_adjacent (λ x. x) starts (λ k d l. leb-true (get_or starts k d) (get_or starts (k + 1) d) (sym (h k d l)))

pub one_falls : (starts : List ℕ) → IsAllAdjacentAnswer (λ x y b. b ≡ leb x y) starts false
    → (k : ℕ) × (k + 1 < length starts) × ((d : ℕ) → get_or starts (k + 1) d < get_or starts k d)
one_falls starts (k, h, f) = (k, h, λ d. leb-false (get_or starts k d) (get_or starts (k + 1) d) (sym (f d)))

pub starts_refused : (m t : ℕ) (starts : List ℕ) → (Starts m t starts → ⊥) → false ≡ starts_kept m t starts
starts_refused m t starts f = go (starts_kept m t starts) (λ e. f (starts_sound m t starts e))
  where
    go : (b : Bool) → (b ≡ true → ⊥) → false ≡ b
    go true g = absurd (g refl)
    go false g = refl

-- m + 1 starts that begin at 0 and never fall: kept where the last is t
pub starts_decided : (m t : ℕ) (starts : List ℕ) → length starts ≡ m + 1 → get_or starts 0 0 ≡ 0 → IsNonDecreasing starts → eqb (get_or starts m 0) t ≡ starts_kept m t starts
starts_decided m t starts l z s = go (eqb (get_or starts m 0) t) refl
  where
    go : (b : Bool) → eqb (get_or starts m 0) t ≡ b → b ≡ starts_kept m t starts
    go true q = sym (starts_kept_back m t starts l z (λ i h. s i (i + 1) 0 (omega arith) (omega arith)) (eqb-true (get_or starts m 0) t q))
    go false q = starts_refused m t starts (λ k. false≢true (sym q ∙ eq-eqb (get_or starts m 0) t k.last))

pub starts_unsorted : (m t : ℕ) (starts : List ℕ) → length starts ≡ m + 1 → (k : ℕ) × (k + 1 < length starts) × ((d : ℕ) → get_or starts (k + 1) d < get_or starts k d) → false ≡ starts_kept m t starts
starts_unsorted m t starts l (k, h, f) =
    starts_refused m t starts (λ s.
    let u : get_or starts k 0 ≤ get_or starts (k + 1) 0 = s.climbing k (k + 1) (omega arith) (omega arith) in
    omega (arith, f 0))
