-- What the canonical solution is at our cells depends on our equations alone.
use mathlib.Core.Path.{◌≡◌, refl, sym, ap, ap₂, ◌∙◌, subst}
use mathlib.Core.Logic.{◌⊎◌, inl, inr}
use mathlib.Core.List.{List, [], ◌∷◌, Memᴰ}
use mathlib.Core.Bool.{Bool, true, false, cond, true≢false, false≢true, ◌||◌, ◌&&◌, and-false}
use Prim.Native.Nat.{ℕ, ◌+◌, ◌<◌}
use native.Mathlib.Omega.{arith}
use lib.ListN.{get_or}
use lib.Dec.{eqb}
use Rattle.gf2.specs.Equation.{Equation, Each, Increasing, Sorted, Meets, MeetsAll, lists, xor_bool}
use Rattle.gf2.specs.NumberLists.{keep}
use Rattle.gf2.specs.Span.{oddly, const_of, InSpan}
use Rattle.gf2.specs.Canonical.{Lead, HasLead, Canonical}
use Rattle.gf2.specs.Ours.{any_ours, all_ours, Apart, our_part}
use Rattle.gf2.proofs.Tests.{eqb_true, and_xor}
use Rattle.gf2.proofs.Each.{each_map, each_mem, each_from_mem}
use Rattle.gf2.proofs.Members.{or_false, and_true}
use Rattle.gf2.proofs.Selecting.{increasing_keep, lists_keep}
use Rattle.gf2.proofs.Spans.{oddly_nil}
use Rattle.gf2.proofs.Leads.{down_ind, span_lead_agree, past_end, canonical_at}

-- ---- our part of a row

ours_keep : (P : ℕ → Bool) (vs : List ℕ) → Each (λ u. P u ≡ true) (keep P vs)
unfolding keep
ours_keep P [] = tt
ours_keep P (v ∷ vs) = go (P v) refl (ours_keep P vs)
  where
    go : (b : Bool) → P v ≡ b → Each (λ u. P u ≡ true) (keep P vs) → Each (λ u. P u ≡ true) (cond b (v ∷ keep P vs) (keep P vs))
    go true e ih = (e, ih)
    go false e ih = ih

lead_keep : (P : ℕ → Bool) (v : ℕ) (vs : List ℕ) → P v ≡ true → Lead v vs → Lead v (keep P vs)
unfolding keep
lead_keep P v [] h l = l
lead_keep P v (u ∷ us) h l = go (P u) (ap P (sym l) ∙ h)
  where
    go : (b : Bool) → b ≡ true → Lead v (cond b (u ∷ keep P us) (keep P us))
    go true e = l
    go false e = absurd (false≢true e)

-- ---- our part of a system

none_ours : (w : ℕ) (P : ℕ → Bool) (vs : List ℕ) → any_ours P vs ≡ false → (P w && lists w vs) ≡ false
unfolding any_ours lists
none_ours w P [] h = and-false (P w)
none_ours w P (v ∷ vs) h = go (or_false (P v) (any_ours P vs) h) (eqb w v) refl (none_ours w P vs)
  where
    go : (P v ≡ false) × (any_ours P vs ≡ false) → (d : Bool) → eqb w v ≡ d → (any_ours P vs ≡ false → (P w && lists w vs) ≡ false)
        → (P w && (eqb w v || lists w vs)) ≡ false
    go k true q ih = rw (ap P (eqb_true w v q) ∙ k.0)
    go k false q ih = rw q (ih k.1)

all_ours_lem : (w : ℕ) (P : ℕ → Bool) (vs : List ℕ) → all_ours P vs ≡ true → (P w && lists w vs) ≡ lists w vs
unfolding all_ours lists
all_ours_lem w P [] h = and-false (P w)
all_ours_lem w P (v ∷ vs) h = go (and_true (P v) (all_ours P vs) h) (eqb w v) refl (all_ours_lem w P vs)
  where
    go : (P v ≡ true) × (all_ours P vs ≡ true) → (d : Bool) → eqb w v ≡ d → (all_ours P vs ≡ true → (P w && lists w vs) ≡ lists w vs)
        → (P w && (eqb w v || lists w vs)) ≡ (eqb w v || lists w vs)
    go k true q ih = rw (ap P (eqb_true w v q) ∙ k.0)
    go k false q ih = rw q (ih k.1)

pub each_our_part : (Q : Equation → Type 0) (P : ℕ → Bool) (es : List Equation) → Each Q es → Each Q (our_part P es)
unfolding our_part
each_our_part Q P [] h = tt
each_our_part Q P (e ∷ es) h = go (any_ours P e.vars) (each_our_part Q P es h.1)
  where
    go : (b : Bool) → Each Q (our_part P es) → Each Q (cond b (e ∷ our_part P es) (our_part P es))
    go true ih = (h.0, ih)
    go false ih = ih

-- what a mask chooses of our equations
our_mask : (ℕ → Bool) → List Bool → List Equation → List Bool
our_mask P m [] = []
our_mask P [] (e ∷ es) = []
our_mask P (b ∷ m) (e ∷ es) = cond (any_ours P e.vars) (b ∷ our_mask P m es) (our_mask P m es)

all_of_any : (P : ℕ → Bool) (vs : List ℕ) → (all_ours P vs ≡ true) ⊎ (any_ours P vs ≡ false) → any_ours P vs ≡ true → all_ours P vs ≡ true
all_of_any P vs (inl h) k = h
all_of_any P vs (inr h) k = absurd (true≢false (sym k ∙ h))

oddly_ours : (w : ℕ) (P : ℕ → Bool) (m : List Bool) (es : List Equation) → Apart P es
    → oddly w (our_mask P m es) (our_part P es) ≡ (P w && oddly w m es)
unfolding our_mask our_part oddly
oddly_ours w P m [] h = sym (and-false (P w))
oddly_ours w P [] (e ∷ es) h = oddly_nil w (our_part P (e ∷ es)) ∙ sym (and-false (P w))
oddly_ours w P (b ∷ m) (e ∷ es) h = go (any_ours P e.vars) refl b (oddly_ours w P m es h.1)
  where
    go : (o : Bool) → any_ours P e.vars ≡ o → (b : Bool) → oddly w (our_mask P m es) (our_part P es) ≡ (P w && oddly w m es)
        → oddly w (cond o (b ∷ our_mask P m es) (our_mask P m es)) (cond o (e ∷ our_part P es) (our_part P es)) ≡ (P w && oddly w (b ∷ m) (e ∷ es))
    go true q true ih =
        ap₂ xor_bool (sym (all_ours_lem w P e.vars (all_of_any P e.vars h.0 q))) ih
        ∙ sym (and_xor (P w) (lists w e.vars) (oddly w m es))
    go true q false ih = ih
    go false q true ih =
        ih ∙ sym (and_xor (P w) (lists w e.vars) (oddly w m es) ∙ ap (λ d. xor_bool d (P w && oddly w m es)) (none_ours w P e.vars q))
    go false q false ih = ih

-- our cells of a row of the span, and the constants of our equations in it: a row of the span of our part
our_row : (ℕ → Bool) → (es : List Equation) (r : Equation) → InSpan es r → Equation
our_row P es r p = record { vars = keep P r.vars; c = const_of (our_mask P p.mask es) (our_part P es) }

our_span : (P : ℕ → Bool) (es : List Equation) (r : Equation) (p : InSpan es r) → Apart P es → InSpan (our_part P es) (our_row P es r p)
unfolding our_row
our_span P es r p h = record {
  mask = our_mask P p.mask es;
  increasing = increasing_keep P r.vars p.increasing;
  same_vars = λ w. lists_keep P w r.vars ∙ ap (λ d. P w && d) (p.same_vars w) ∙ sym (oddly_ours w P p.mask es h);
  same_const = refl;
}

our_lead_agree : (P : ℕ → Bool) (es : List Equation) (x y : List ℕ) (v : ℕ) → Sorted es → Apart P es → MeetsAll x (our_part P es) → MeetsAll y (our_part P es)
    → HasLead v es → P v ≡ true → ((u : ℕ) → v < u → P u ≡ true → get_or x u 0 ≡ get_or y u 0) → get_or x v 0 ≡ get_or y v 0
unfolding our_row
our_lead_agree P es x y v s a hx hy l h ih =
    span_lead_agree (our_part P es) (our_row P es l.row l.spanned) v x y (each_our_part (λ e. Increasing e.vars) P es s) hx hy
    (our_span P es l.row l.spanned a) (lead_keep P v l.row.vars h l.lead)
    (each_map (keep P l.row.vars) (λ u q k. ih u k q) (ours_keep P l.row.vars))

-- ---- isolation

-- Canonical solutions x of A and y of B agree at our cells, if each of them meets the other system's equations of ours.
-- The systems may have different numbers of cells.
pub isolated_general : (P : ℕ → Bool) (n m : ℕ) (A B : List Equation) (x y : List ℕ) → Sorted A → Sorted B → Apart P A → Apart P B
    → Canonical n A x → Canonical m B y → MeetsAll x (our_part P B) → MeetsAll y (our_part P A)
    → (v : ℕ) → P v ≡ true → get_or x v 0 ≡ get_or y v 0
isolated_general P n m A B x y sA sB aA aB cx cy hx hy =
    down_ind (λ v. P v ≡ true → get_or x v 0 ≡ get_or y v 0) (n + m)
    (λ v h p. past_end x n v cx.size (omega arith) ∙ sym (past_end y m v cy.size (omega arith)))
    (λ v h ih p. go v p (λ u l q. ih u l q) (canonical_at n A x cx v) (canonical_at m B y cy v))
  where
    go : (v : ℕ) → P v ≡ true → ((u : ℕ) → v < u → P u ≡ true → get_or x u 0 ≡ get_or y u 0)
        → (get_or x v 0 ≡ 0) ⊎ HasLead v A → (get_or y v 0 ≡ 0) ⊎ HasLead v B → get_or x v 0 ≡ get_or y v 0
    go v p ih (inl a) (inl b) = a ∙ sym b
    go v p ih (inl a) (inr l) = our_lead_agree P B x y v sB aB hx (each_our_part (Meets y) P B cy.meets) l p ih
    go v p ih (inr l) b = our_lead_agree P A x y v sA aA (each_our_part (Meets x) P A cx.meets) hy l p ih

-- Two systems with the same equations of ours, in the same order, have canonical solutions that agree at our cells,
-- whatever the other equations are.
pub isolated : (P : ℕ → Bool) (n m : ℕ) (A B : List Equation) (x y : List ℕ) → Sorted A → Sorted B → Apart P A → Apart P B
    → our_part P A ≡ our_part P B → Canonical n A x → Canonical m B y → (v : ℕ) → P v ≡ true → get_or x v 0 ≡ get_or y v 0
isolated P n m A B x y sA sB aA aB e cx cy =
    isolated_general P n m A B x y sA sB aA aB cx cy
    (subst (MeetsAll x) e (each_our_part (Meets x) P A cx.meets))
    (subst (MeetsAll y) (sym e) (each_our_part (Meets y) P B cy.meets))

-- The same, where each equation of ours of one system is one of the other, in any order and any number of times.
pub isolated_members : (P : ℕ → Bool) (n m : ℕ) (A B : List Equation) (x y : List ℕ) → Sorted A → Sorted B → Apart P A → Apart P B
    → ((e : Equation) → Memᴰ e (our_part P A) → Memᴰ e (our_part P B)) → ((e : Equation) → Memᴰ e (our_part P B) → Memᴰ e (our_part P A))
    → Canonical n A x → Canonical m B y → (v : ℕ) → P v ≡ true → get_or x v 0 ≡ get_or y v 0
isolated_members P n m A B x y sA sB aA aB f g cx cy =
    isolated_general P n m A B x y sA sB aA aB cx cy
    (each_from_mem (Meets x) (our_part P B) (λ e k. each_mem (Meets x) (g e k) (each_our_part (Meets x) P A cx.meets)))
    (each_from_mem (Meets y) (our_part P A) (λ e k. each_mem (Meets y) (f e k) (each_our_part (Meets y) P B cy.meets)))
