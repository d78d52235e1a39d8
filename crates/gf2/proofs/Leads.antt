-- The lowest variable of a row from the higher ones, by induction from the highest number down; and the canonical solution from rows.
use mathlib.Core.Path.{◌≡◌, refl, sym, ap, ap₂, subst, ◌∙◌}
use mathlib.Core.Logic.{◌⊎◌, inl, inr}
use mathlib.Core.List.{List, [], ◌∷◌}
use Prim.Native.Nat.{ℕ, zero, suc, ◌+◌, ◌<◌, ◌≤◌}
use native.Mathlib.Decide.{dec_lt}
use native.Mathlib.Omega.{arith}
use lib.ListN.{get_or, length, get_or-eq_default}
use lib.Bits.{bit_xor}
use Rattle.gf2.specs.Equation.{Equation, Each, Above, Increasing, Sorted, eval_vars, MeetsAll}
use Rattle.gf2.specs.Span.{InSpan}
use Rattle.gf2.specs.Canonical.{Lead, HasLead, Canonical}
use Rattle.gf2.proofs.XorLaws.{xor_cancel_right}
use Rattle.gf2.proofs.Each.{each_at}
use Rattle.gf2.proofs.Spans.{span_meets, span_meets_all}

-- ---- induction from the highest number down

pub down_ind : (Q : ℕ → Type 0) (n : ℕ) → ((v : ℕ) → n ≤ v → Q v) → ((v : ℕ) → v < n → ((u : ℕ) → v < u → Q u) → Q v) → (v : ℕ) → Q v
down_ind Q n base step v = go n v (omega arith)
  where
    go : (d w : ℕ) → n ≤ d + w → Q w
    go zero w h = base w (omega arith)
    go (suc d) w h = pick (dec_lt w n) (λ u l. go d u (omega arith))
      where
        pick : Dec (w < n) → ((u : ℕ) → w < u → Q u) → Q w
        pick (yes l) ih = step w l ih
        pick (no l) ih = base w (omega arith)

-- ---- the lowest variable of a row, from the higher ones

pub eval_vars_agree : (vs x y : List ℕ) → Each (λ u. get_or x u 0 ≡ get_or y u 0) vs → eval_vars vs x ≡ eval_vars vs y
unfolding eval_vars
eval_vars_agree [] x y h = refl
eval_vars_agree (v ∷ vs) x y h = ap₂ bit_xor h.0 (eval_vars_agree vs x y h.1)

each_and_above : (v : ℕ) (Q : ℕ → Type 0) (us : List ℕ) → Above v us → Each (λ u. v < u → Q u) us → Each Q us
each_and_above v Q [] h k = tt
each_and_above v Q (u ∷ us) h k = (k.0 h.0, each_and_above v Q us h.1 k.1)

pub lead_agree : (v : ℕ) (vs x y : List ℕ) → Lead v vs → Increasing vs → eval_vars vs x ≡ eval_vars vs y
    → Each (λ u. v < u → get_or x u 0 ≡ get_or y u 0) vs → get_or x v 0 ≡ get_or y v 0
unfolding eval_vars
lead_agree v [] x y l i p h = absurd l
lead_agree v (u ∷ us) x y l i p h =
    rw l (xor_cancel_right (eval_vars us x) (get_or x u 0) (get_or y u 0) (p ∙ ap (bit_xor (get_or y u 0)) (sym tails)))
  where
    tails : eval_vars us x ≡ eval_vars us y
    tails = eval_vars_agree us x y (each_and_above u (λ w. get_or x w 0 ≡ get_or y w 0) us i.0 (subst (λ w. Each (λ t. w < t → get_or x t 0 ≡ get_or y t 0) us) l h.1))

-- two solutions of a system that agree at the higher variables of a row of its span agree at the lowest
pub span_lead_agree : (es : List Equation) (r : Equation) (v : ℕ) (x y : List ℕ) → Sorted es → MeetsAll x es → MeetsAll y es → InSpan es r → Lead v r.vars
    → Each (λ u. v < u → get_or x u 0 ≡ get_or y u 0) r.vars → get_or x v 0 ≡ get_or y v 0
span_lead_agree es r v x y s hx hy p l =
    lead_agree v r.vars x y l p.increasing (span_meets es x r s hx p ∙ sym (span_meets es y r s hy p))

-- ---- the canonical solution, variable by variable

pub past_end : (x : List ℕ) (n v : ℕ) → length x ≡ n → n ≤ v → get_or x v 0 ≡ 0
past_end x n v e h = get_or-eq_default x 0 (omega arith)

-- past the end of the vector too
pub canonical_at : (n : ℕ) (es : List Equation) (x : List ℕ) → Canonical n es x → (v : ℕ) → (get_or x v 0 ≡ 0) ⊎ HasLead v es
canonical_at n es x c v = go (dec_lt v n)
  where
    go : Dec (v < n) → (get_or x v 0 ≡ 0) ⊎ HasLead v es
    go (yes l) = c.zero_or_lead v l
    go (no l) = inl (past_end x n v c.size (omega arith))

-- ---- what a solver shows: rows with the system's span, the vector meets them, and is 0 where no row begins

pub canonical_from_rows : (n : ℕ) (es rs : List Equation) (d : Equation) (x : List ℕ) → Sorted rs → Each (InSpan es) rs → Each (InSpan rs) es → length x ≡ n → MeetsAll x rs
    → ((v : ℕ) → v < n → (get_or x v 0 ≡ 0) ⊎ ((i : ℕ) × (i < length rs) × Lead v (get_or rs i d).vars)) → Canonical n es x
canonical_from_rows n es rs d x s p q e h f = record { size = e; meets = span_meets_all rs es x s h q; zero_or_lead = λ v l. go v (f v l) }
  where
    go : (v : ℕ) → (get_or x v 0 ≡ 0) ⊎ ((i : ℕ) × (i < length rs) × Lead v (get_or rs i d).vars) → (get_or x v 0 ≡ 0) ⊎ HasLead v es
    go v (inl z) = inl z
    go v (inr t) = inr (record { row = get_or rs t.0 d; spanned = each_at (InSpan es) rs d t.0 t.1 p; lead = t.2 })
