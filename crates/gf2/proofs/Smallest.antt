-- The canonical solution is unique, and comes before every other.
use mathlib.Core.Path.{◌≡◌, refl, sym, ◌∙◌, subst}
use mathlib.Core.Logic.{◌⊎◌, inl, inr}
use mathlib.Core.List.{List, [], ◌∷◌}
use mathlib.Core.Bool.{true, false}
use Prim.Native.Nat.{ℕ, zero, suc, ◌<◌, ◌≤◌, zero-le}
use native.Mathlib.Omega.{arith}
use lib.ListN.{get_or, length}
use lib.Seq.{ext_get_or}
use Rattle.gf2.specs.Equation.{Equation, Sorted, Meets, MeetsAll}
use Rattle.gf2.specs.Canonical.{HasLead, Canonical, Before}
use Rattle.gf2.specs.Ours.{any_ours, all_ours, Apart}
use Rattle.gf2.proofs.Tests.{Tri, less, same, more, tri}
use Rattle.gf2.proofs.Each.{each_all}
use Rattle.gf2.proofs.Leads.{span_lead_agree, past_end}
use Rattle.gf2.proofs.Isolation.{each_our_part, isolated_general}

-- ---- uniqueness

all_true : (vs : List ℕ) → all_ours (λ v. true) vs ≡ true
unfolding all_ours
all_true [] = refl
all_true (v ∷ vs) = all_true vs

apart_true : (es : List Equation) → Apart (λ v. true) es
apart_true es = each_all (λ e. (all_ours (λ v. true) e.vars ≡ true) ⊎ (any_ours (λ v. true) e.vars ≡ false)) es (λ e. inl (all_true e.vars))

-- The canonical solution depends on the system's solutions alone, and not on how the equations are written.
pub canonical_unique_general : (n : ℕ) (A B : List Equation) (x y : List ℕ) → Sorted A → Sorted B → Canonical n A x → Canonical n B y
    → MeetsAll x B → MeetsAll y A → x ≡ y
canonical_unique_general n A B x y sA sB cx cy hx hy =
    ext_get_or 0 x y (cx.size ∙ sym cy.size) (λ v l. isolated_general (λ w. true) n n A B x y sA sB (apart_true A) (apart_true B) cx cy
    (each_our_part (Meets x) (λ w. true) B hx) (each_our_part (Meets y) (λ w. true) A hy) v refl)

pub canonical_unique : (n : ℕ) (es : List Equation) (x y : List ℕ) → Sorted es → Canonical n es x → Canonical n es y → x ≡ y
canonical_unique n es x y s cx cy = canonical_unique_general n es es x y s s cx cy cx.meets cy.meets

-- ---- the smallest solution

has_lead_agree : (es : List Equation) (v : ℕ) (x y : List ℕ) → Sorted es → MeetsAll x es → MeetsAll y es → HasLead v es
    → ((u : ℕ) → v < u → get_or x u 0 ≡ get_or y u 0) → get_or x v 0 ≡ get_or y v 0
has_lead_agree es v x y s hx hy l ih =
    span_lead_agree es l.row v x y s hx hy l.spanned l.lead (each_all (λ u. v < u → get_or x u 0 ≡ get_or y u 0) l.row.vars ih)

not_above : (n : ℕ) (es : List Equation) (x z : List ℕ) (v : ℕ) → Sorted es → Canonical n es x → MeetsAll z es → v < n
    → ((u : ℕ) → v < u → get_or x u 0 ≡ get_or z u 0) → get_or z v 0 < get_or x v 0 → ⊥
not_above n es x z v s c h l ih k = go (c.zero_or_lead v l)
  where
    go : (get_or x v 0 ≡ 0) ⊎ HasLead v es → ⊥
    go (inl e) = omega arith
    go (inr p) = let e = has_lead_agree es v x z s c.meets h p ih in omega arith

-- The canonical solution comes before every other, the values compared from the highest variable down.
pub canonical_smallest : (n : ℕ) (es : List Equation) (x z : List ℕ) → Sorted es → Canonical n es x → length z ≡ n → MeetsAll z es
    → (x ≡ z) ⊎ Before x z
canonical_smallest n es x z s c e h = down n (omega arith) (λ u l. past_end x n u c.size l ∙ sym (past_end z n u e l))
  where
    pick : (v : ℕ) → v < n → ((u : ℕ) → v < u → get_or x u 0 ≡ get_or z u 0)
        → (((u : ℕ) → v ≤ u → get_or x u 0 ≡ get_or z u 0) → (x ≡ z) ⊎ Before x z) → Tri (get_or x v 0) (get_or z v 0) → (x ≡ z) ⊎ Before x z
    pick v l f k (less d) = inr (record { at = v; smaller = d; equal_above = f })
    pick v l f k (more d) = absurd (not_above n es x z v s c h l f d)
    pick v l f k (same d) = k (λ u m. go u m (tri v u))
      where
        go : (u : ℕ) → v ≤ u → Tri v u → get_or x u 0 ≡ get_or z u 0
        go u m (less t) = f u t
        go u m (same t) = subst (λ (w : ℕ). get_or x w 0 ≡ get_or z w 0) t d
        go u m (more t) = absurd (omega arith)

    down : (k : ℕ) → k ≤ n → ((u : ℕ) → k ≤ u → get_or x u 0 ≡ get_or z u 0) → (x ≡ z) ⊎ Before x z
    down zero l f = inl (ext_get_or 0 x z (c.size ∙ sym e) (λ i m. f i zero-le))
    down (suc v) l f = pick v l f (down v (omega arith)) (tri (get_or x v 0) (get_or z v 0))

-- of two vectors at most one comes before the other
pub before_asym : (x y : List ℕ) → Before x y → Before y x → ⊥
before_asym x y p q = go (tri p.at q.at)
  where
    go : Tri p.at q.at → ⊥
    go (less l) = let e = p.equal_above q.at l in omega arith
    go (more l) = let e = q.equal_above p.at l in omega arith
    go (same e) = let h = subst (λ (v : ℕ). get_or y v 0 < get_or x v 0) (sym e) q.smaller in omega arith

-- no solution comes before the canonical one
pub canonical_least : (n : ℕ) (es : List Equation) (x z : List ℕ) → Sorted es → Canonical n es x → length z ≡ n → MeetsAll z es → Before z x → ⊥
canonical_least n es x z s c e h b = go (canonical_smallest n es x z s c e h)
  where
    go : (x ≡ z) ⊎ Before x z → ⊥
    go (inr q) = before_asym x z q b
    go (inl p) = let d : Before x x = subst (λ (w : List ℕ). Before w x) (sym p) b in before_asym x x d d
