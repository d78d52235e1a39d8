-- The canonical solution has no more bits than the constants.
use mathlib.Core.Path.{◌≡◌, subst}
use mathlib.Core.Logic.{◌⊎◌, inl, inr}
use mathlib.Core.List.{List, [], ◌∷◌}
use mathlib.Core.Bool.{Bool, true, false}
use Prim.Native.Nat.{ℕ, ◌^◌, ◌<◌}
use lib.ListN.{get_or}
use lib.Pow.{pow_pos}
use lib.Bits.{bit_xor, xor_lt}
use Rattle.gf2.specs.Equation.{Equation, Each, Increasing, Sorted, eval_vars}
use Rattle.gf2.specs.Span.{const_of}
use Rattle.gf2.specs.Canonical.{Lead, HasLead, Canonical}
use Rattle.gf2.proofs.XorLaws.{xor_laws}
use Rattle.gf2.proofs.Each.{each_map}
use Rattle.gf2.proofs.Spans.{span_meets}
use Rattle.gf2.proofs.Leads.{down_ind, past_end}

-- ---- how long the words are

pub const_of_lt : (k : ℕ) (m : List Bool) (es : List Equation) → Each (λ e. e.c < 2 ^ k) es → const_of m es < 2 ^ k
unfolding const_of
const_of_lt k m [] h = pow_pos k
const_of_lt k [] (e ∷ es) h = pow_pos k
const_of_lt k (true ∷ m) (e ∷ es) h = xor_lt k e.c (const_of m es) h.0 (const_of_lt k m es h.1)
const_of_lt k (false ∷ m) (e ∷ es) h = const_of_lt k m es h.1

pub eval_vars-lt : (k : ℕ) (vs x : List ℕ) → Each (λ u. get_or x u 0 < 2 ^ k) vs → eval_vars vs x < 2 ^ k
unfolding eval_vars
eval_vars-lt k [] x h = pow_pos k
eval_vars-lt k (v ∷ vs) x h = xor_lt k (get_or x v 0) (eval_vars vs x) h.0 (eval_vars-lt k vs x h.1)

lead_lt : (k v : ℕ) (vs x : List ℕ) → Lead v vs → Increasing vs → eval_vars vs x < 2 ^ k → ((u : ℕ) → v < u → get_or x u 0 < 2 ^ k) → get_or x v 0 < 2 ^ k
unfolding eval_vars
lead_lt k v [] x l i h ih = absurd l
lead_lt k v (u ∷ us) x l i h ih =
    rw l (subst (λ (w : ℕ). w < 2 ^ k) cancel (xor_lt k (bit_xor (get_or x u 0) (eval_vars us x)) (eval_vars us x) h tails))
  where
    tails : eval_vars us x < 2 ^ k
    tails = eval_vars-lt k us x (each_map us (λ w m. ih w (rw l m)) i.0)

    cancel : bit_xor (bit_xor (get_or x u 0) (eval_vars us x)) (eval_vars us x) ≡ get_or x u 0
    cancel = simp xor_laws

pub canonical_lt : (k n : ℕ) (es : List Equation) (x : List ℕ) → Sorted es → Each (λ e. e.c < 2 ^ k) es → Canonical n es x → (v : ℕ) → get_or x v 0 < 2 ^ k
canonical_lt k n es x s b c =
    down_ind (λ v. get_or x v 0 < 2 ^ k) n (λ v h. rw (past_end x n v c.size h) (pow_pos k)) (λ v h ih. go v ih (c.zero_or_lead v h))
  where
    go : (v : ℕ) → ((u : ℕ) → v < u → get_or x u 0 < 2 ^ k) → (get_or x v 0 ≡ 0) ⊎ HasLead v es → get_or x v 0 < 2 ^ k
    go v ih (inl e) = rw e (pow_pos k)
    go v ih (inr l) =
        lead_lt k v l.row.vars x l.lead l.spanned.increasing
        (rw (span_meets es x l.row s c.meets l.spanned, l.spanned.same_const) (const_of_lt k l.spanned.mask es b)) ih
