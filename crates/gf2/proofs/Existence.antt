-- Each system has a canonical solution or a contradiction: elimination, variable by variable from the lowest. No program
-- runs it. It shows that the two answers of a solver leave nothing out, and gives each definition its plain reading.
use mathlib.Core.Path.{◌≡◌, refl, sym, ap, ◌∙◌, subst}
use mathlib.Core.Logic.{◌⊎◌, inl, inr}
use mathlib.Core.List.{List, [], ◌∷◌}
use mathlib.Core.Bool.{Bool}
use Prim.Native.Nat.{ℕ, zero, suc, ◌+◌, ◌<◌, ◌≤◌, zero-le}
use native.Mathlib.Decide.{ℕ_discrete}
use native.Mathlib.Omega.{arith}
use lib.ListN.{get_or, length, set, replicate, length-set, length-replicate, get_or-replicate}
use lib.Seq.{get_or-set_other}
use lib.Bits.{bit_xor}
use Rattle.gf2.specs.Equation.{Equation, Each, Above, Increasing, Sorted, Below, eval_vars, Meets, MeetsAll, sym_diff}
use Rattle.gf2.specs.Span.{const_of, Cancels, InSpan}
use Rattle.gf2.specs.Canonical.{HasLead, Canonical, Before}
use Rattle.gf2.proofs.Tests.{Tri, less, same, more, tri}
use Rattle.gf2.proofs.SymDiff.{each_sym_diff, sym_diff_same}
use Rattle.gf2.proofs.Each.{each_map}
use Rattle.gf2.proofs.Spans.{span_head, span_tail, span_sum, span_trans, span_each, cancels_span, empty_row_cancels, solved_not_cancels}
use Rattle.gf2.proofs.Values.{meets_all_set, meets_set_lead}
use Rattle.gf2.proofs.Sums.{meets_part}
use Rattle.gf2.proofs.Smallest.{canonical_smallest}

-- the variables are from k on and below n
abbrev pub Within : ℕ → ℕ → List ℕ → Type 0
Within k n vs = Each (λ u. (k ≤ u) × (u < n)) vs

-- ---- a system of rows of the span answers for the system

pub canonical_lift : (n : ℕ) (es rs : List Equation) (x : List ℕ) → Each (InSpan es) rs → (MeetsAll x rs → MeetsAll x es) → Canonical n rs x → Canonical n es x
canonical_lift n es rs x h f c = record {
  size = c.size;
  meets = f c.meets;
  zero_or_lead = λ v l. go v (c.zero_or_lead v l);
}
  where
    go : (v : ℕ) → (get_or x v 0 ≡ 0) ⊎ HasLead v rs → (get_or x v 0 ≡ 0) ⊎ HasLead v es
    go v (inl e) = inl e
    go v (inr p) = inr (record { row = p.row; spanned = span_trans es rs p.row h p.spanned; lead = p.lead })

pub cancels_lift : (es rs : List Equation) (m : List Bool) → Each (InSpan es) rs → Cancels m rs → (m' : List Bool) × Cancels m' es
cancels_lift es rs m h q =
    let p : InSpan es (record { vars = []; c = const_of m rs }) = span_trans es rs (record { vars = []; c = const_of m rs }) h (cancels_span rs m q) in
    (p.mask, empty_row_cancels es (record { vars = []; c = const_of m rs }) p refl q.nonzero)

-- ---- one variable eliminated

row : List ℕ → ℕ → Equation
row vs d = record { vars = vs; c = d }

record Rest (k n : ℕ) (es rs : List Equation) : Type 0 where
  spanned : Each (InSpan es) rs
  within : Each (λ e. Within (suc k) n e.vars) rs

data Reduced (k n : ℕ) (es : List Equation) : Type 0 where
  none : (rs : List Equation) → Rest k n es rs → ((x : List ℕ) → MeetsAll x rs → MeetsAll x es) → Reduced k n es
  pivot : (vs : List ℕ) (d : ℕ) (rs : List Equation) → InSpan es (row (k ∷ vs) d) → Within (suc k) n vs → Rest k n es rs
      → ((x : List ℕ) → MeetsAll x rs → Meets x (row (k ∷ vs) d) → MeetsAll x es) → Reduced k n es

rest_tail : (k n : ℕ) (e : Equation) (es rs : List Equation) → Rest k n es rs → Rest k n (e ∷ es) rs
rest_tail k n e es rs p = record { spanned = each_map rs (span_tail e es) p.spanned; within = p.within }

rest_cons : (k n : ℕ) (es rs : List Equation) (r : Equation) → InSpan es r → Within (suc k) n r.vars → Rest k n es rs → Rest k n es (r ∷ rs)
rest_cons k n es rs r p w q = record { spanned = (p, q.spanned); within = (w, q.within) }

within_suc : (k n : ℕ) (us : List ℕ) → Above k us → Within k n us → Within (suc k) n us
within_suc k n [] h w = tt
within_suc k n (u ∷ us) h w = ((h.0, w.0.1), within_suc k n us h.1 w.1)

above_within : (k n : ℕ) (us : List ℕ) → Within (suc k) n us → Above k us
above_within k n us w = each_map us (λ u h. h.0) w

within_less : (k n u : ℕ) (us : List ℕ) → k < u → Increasing (u ∷ us) → Within k n (u ∷ us) → Within (suc k) n (u ∷ us)
within_less k n u us l i w = ((l, w.0.1), within_suc k n us (each_map us (λ v h. omega arith) i.0) w.1)

-- an equation that does not have the variable stays
stay : (k n : ℕ) (e : Equation) (es : List Equation) → Increasing e.vars → Within (suc k) n e.vars → Reduced k n es → Reduced k n (e ∷ es)
stay k n e es i w (none rs q f) =
    none (e ∷ rs) (rest_cons k n (e ∷ es) rs e (span_head e es i) w (rest_tail k n e es rs q)) (λ x h. (h.0, f x h.1))
stay k n e es i w (pivot vs d rs p wv q f) =
    pivot vs d (e ∷ rs) (span_tail e es (row (k ∷ vs) d) p) wv (rest_cons k n (e ∷ es) rs e (span_head e es i) w (rest_tail k n e es rs q))
    (λ x h g. (h.0, f x h.1 g))

-- an equation that has it is the pivot, or the pivot is added to it
use' : (k n d : ℕ) (us : List ℕ) (es : List Equation) → Increasing (k ∷ us) → Within k n us → Reduced k n es → Reduced k n (row (k ∷ us) d ∷ es)
unfolding row
use' k n d us es i w (none rs q f) =
    pivot us d rs (span_head (row (k ∷ us) d) es i) (within_suc k n us i.0 w) (rest_tail k n (row (k ∷ us) d) es rs q)
    (λ x h g. (g, f x h))
use' k n d us es i w (pivot vs b rs p wv q f) =
    pivot vs b (row (sym_diff us vs) (bit_xor d b) ∷ rs) tail wv
    (rest_cons k n (row (k ∷ us) d ∷ es) rs (row (sym_diff us vs) (bit_xor d b)) added
    (each_sym_diff (λ u. (suc k ≤ u) × (u < n)) us vs (within_suc k n us i.0 w) wv) (rest_tail k n (row (k ∷ us) d) es rs q))
    (λ x h g. (meets_part x (row (k ∷ us) d) (row (k ∷ vs) b) (ap (λ l. eval_vars l x) heads ∙ h.0) g, f x h.1 g))
  where
    tail : InSpan (row (k ∷ us) d ∷ es) (row (k ∷ vs) b)
    tail = span_tail (row (k ∷ us) d) es (row (k ∷ vs) b) p

    heads : sym_diff (k ∷ us) (k ∷ vs) ≡ sym_diff us vs
    heads = sym_diff_same k us k vs refl

    added : InSpan (row (k ∷ us) d ∷ es) (row (sym_diff us vs) (bit_xor d b))
    added =
        subst (λ (l : List ℕ). InSpan (row (k ∷ us) d ∷ es) (row l (bit_xor d b))) heads
        (span_sum (row (k ∷ us) d ∷ es) (row (k ∷ us) d) (row (k ∷ vs) b) (span_head (row (k ∷ us) d) es i) tail)

step : (k n d : ℕ) (vs : List ℕ) (es : List Equation) → Increasing vs → Within k n vs → Reduced k n es → Reduced k n (row vs d ∷ es)
unfolding row
step k n d [] es i w r = stay k n (row [] d) es i tt r
step k n d (u ∷ us) es i w r = go (tri k u)
  where
    go : Tri k u → Reduced k n (row (u ∷ us) d ∷ es)
    go (less l) = stay k n (row (u ∷ us) d) es i (within_less k n u us l i w) r
    go (same e) =
        subst (λ (v : ℕ). Reduced k n (row (v ∷ us) d ∷ es)) e
        (use' k n d us es (subst (λ (v : ℕ). Increasing (v ∷ us)) (sym e) i) w.1 r)
    go (more l) = absurd (omega arith)

reduce : (k n : ℕ) (es : List Equation) → Sorted es → Each (λ e. Within k n e.vars) es → Reduced k n es
unfolding row
reduce k n [] s w = none [] (record { spanned = tt; within = tt }) (λ x h. tt)
reduce k n (e ∷ es) s w = step k n e.c e.vars es s.0 w.0 (reduce k n es s.1 w.1)

-- ---- all variables

abbrev pub Answer : ℕ → List Equation → Type 0
Answer n es = ((x : List ℕ) × Canonical n es x) ⊎ ((m : List Bool) × Cancels m es)

-- no variable is left: each constant is 0, or one of them is a contradiction
constants : (n : ℕ) (rs es : List Equation) → Each (InSpan es) rs → Each (λ e. Within n n e.vars) rs
    → MeetsAll (replicate n 0) rs ⊎ ((m : List Bool) × Cancels m es)
constants n [] es p w = inl tt
constants n (r ∷ rs) es p w = go r.vars refl (ℕ_discrete r.c 0) (constants n rs es p.1 w.1)
  where
    go : (vs : List ℕ) → r.vars ≡ vs → Dec (r.c ≡ 0) → MeetsAll (replicate n 0) rs ⊎ ((m : List Bool) × Cancels m es)
        → MeetsAll (replicate n 0) (r ∷ rs) ⊎ ((m : List Bool) × Cancels m es)
    go (v ∷ vs) e d ih = let h : Within n n (v ∷ vs) = subst (Within n n) e w.0 in absurd (omega arith)
    go [] e (yes z) (inl h) = inl (ap (λ l. eval_vars l (replicate n 0)) e ∙ (unfold eval_vars in sym z), h)
    go [] e (yes z) (inr h) = inr h
    go [] e (no z) ih = inr (p.0.mask, empty_row_cancels es r p.0 e z)

solve : (d k n : ℕ) → k + d ≡ n → (es : List Equation) → Sorted es → Each (λ e. Within k n e.vars) es → Answer n es
unfolding row
solve zero k n e es s w = go (constants n es es (span_each es s) (subst (λ (j : ℕ). Each (λ r. Within j n r.vars) es) (omega arith) w))
  where
    go : MeetsAll (replicate n 0) es ⊎ ((m : List Bool) × Cancels m es) → Answer n es
    go (inr h) = inr h
    go (inl h) = inl (replicate n 0, record { size = length-replicate n 0; meets = h; zero_or_lead = λ v l. inl (get_or-replicate n v 0 0 l) })
solve (suc d) k n e es s w = go (reduce k n es s w) (solve d (suc k) n (omega arith))
  where
    sorted : (rs : List Equation) → Each (InSpan es) rs → Sorted rs
    sorted rs h = each_map rs (λ r p. p.increasing) h

    lift : (rs : List Equation) → Rest k n es rs → ((x : List ℕ) → MeetsAll x rs → MeetsAll x es) → Answer n rs → Answer n es
    lift rs q f (inl c) = inl (c.0, canonical_lift n es rs c.0 q.spanned (f c.0) c.1)
    lift rs q f (inr h) = inr (cancels_lift es rs h.0 q.spanned h.1)

    put : (vs : List ℕ) (b : ℕ) (rs : List Equation) → InSpan es (row (k ∷ vs) b) → Within (suc k) n vs → Rest k n es rs
        → ((x : List ℕ) → MeetsAll x rs → Meets x (row (k ∷ vs) b) → MeetsAll x es) → Answer n rs → Answer n es
    put vs b rs p wv q f (inr h) = inr (cancels_lift es rs h.0 q.spanned h.1)
    put vs b rs p wv q f (inl c) = inl (
      set x k a,
      record {
        size = length-set x k a ∙ c.1.size;
        meets = f (set x k a) (meets_all_set k a rs x (each_map rs (λ r. above_within k n r.vars) q.within) c.1.meets)
            (meets_set_lead k b vs x inside (above_within k n vs wv));
        zero_or_lead = λ v l. lead v (tri v k) (canonical_lead v l);
      },
    )
      where
        x : List ℕ
        x = c.0

        a : ℕ
        a = bit_xor b (eval_vars vs x)

        inside : k < length x
        inside = let z = c.1.size in omega arith

        canonical_lead : (v : ℕ) → v < n → (get_or x v 0 ≡ 0) ⊎ HasLead v rs
        canonical_lead = c.1.zero_or_lead

        lifted : (v : ℕ) → HasLead v rs → HasLead v es
        lifted v o = record { row = o.row; spanned = span_trans es rs o.row q.spanned o.spanned; lead = o.lead }

        lead : (v : ℕ) → Tri v k → (get_or x v 0 ≡ 0) ⊎ HasLead v rs → (get_or (set x k a) v 0 ≡ 0) ⊎ HasLead v es
        lead v (same t) o = inr (record { row = row (k ∷ vs) b; spanned = p; lead = t })
        lead v (less t) (inr o) = inr (lifted v o)
        lead v (more t) (inr o) = inr (lifted v o)
        lead v (less t) (inl o) = inl (get_or-set_other x k v a 0 (omega arith) ∙ o)
        lead v (more t) (inl o) = inl (get_or-set_other x k v a 0 (omega arith) ∙ o)

    go : Reduced k n es → ((rs : List Equation) → Sorted rs → Each (λ r. Within (suc k) n r.vars) rs → Answer n rs) → Answer n es
    go (none rs q f) ih = lift rs q f (ih rs (sorted rs q.spanned) q.within)
    go (pivot vs b rs p wv q f) ih = put vs b rs p wv q f (ih rs (sorted rs q.spanned) q.within)

-- A system over n variables has a canonical solution or a contradiction.
pub solution_or_contradiction : (n : ℕ) (es : List Equation) → Sorted es → Below n es → Answer n es
solution_or_contradiction n es s b =
    solve n zero n (omega arith) es s (each_map es (λ e h. each_map e.vars (λ u l. (zero-le, l)) h) b)

-- ---- the plain readings

-- A system that no vector solves has a contradiction.
pub unsolvable_cancels : (n : ℕ) (es : List Equation) → Sorted es → Below n es → ((x : List ℕ) → length x ≡ n → MeetsAll x es → ⊥)
    → (m : List Bool) × Cancels m es
unsolvable_cancels n es s b f = go (solution_or_contradiction n es s b)
  where
    go : Answer n es → (m : List Bool) × Cancels m es
    go (inl c) = absurd (f c.0 c.1.size c.1.meets)
    go (inr h) = h

-- A system with a solution has a canonical one.
pub canonical_exists : (n : ℕ) (es : List Equation) (z : List ℕ) → Sorted es → Below n es → MeetsAll z es → (x : List ℕ) × Canonical n es x
canonical_exists n es z s b h = go (solution_or_contradiction n es s b)
  where
    go : Answer n es → (x : List ℕ) × Canonical n es x
    go (inl c) = c
    go (inr q) = absurd (solved_not_cancels es z q.0 s h q.1)

-- The solution before which no other comes is the canonical one.
pub smallest_canonical : (n : ℕ) (es : List Equation) (x : List ℕ) → Sorted es → Below n es → length x ≡ n → MeetsAll x es
    → ((z : List ℕ) → length z ≡ n → MeetsAll z es → Before z x → ⊥) → Canonical n es x
smallest_canonical n es x s b e h f = go (canonical_exists n es x s b h)
  where
    go : (y : List ℕ) × Canonical n es y → Canonical n es x
    go c = pick (canonical_smallest n es c.0 x s c.1 e h)
      where
        pick : (c.0 ≡ x) ⊎ Before c.0 x → Canonical n es x
        pick (inl q) = subst (Canonical n es) q c.1
        pick (inr q) = absurd (f c.0 c.1.size c.1.meets q)
