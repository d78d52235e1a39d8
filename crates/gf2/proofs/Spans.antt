-- Sums of chosen equations: what is in the span, what a solution of the system has to meet, and what has no solution.
use mathlib.Core.Path.{◌≡◌, refl, sym, ap, ap₂, ◌∙◌}
use mathlib.Core.Logic.{◌≢◌}
use mathlib.Core.List.{List, [], ◌∷◌}
use mathlib.Core.Bool.{Bool, true, false}
use Prim.Native.Nat.{ℕ, ◌<◌}
use lib.ListN.{get_or, length}
use lib.Bits.{bit_xor, xor_zero_r}
use Rattle.gf2.specs.Equation.{Equation, Each, Increasing, Sorted, eval_vars, Meets, MeetsAll, lists, xor_bool, sym_diff, sum}
use Rattle.gf2.specs.Span.{oddly, const_of, Cancels, InSpan}
use Rattle.gf2.proofs.XorLaws.{xor_laws, xor_assoc}
use Rattle.gf2.proofs.Tests.{xor_bool_laws, xor_bool_false, xor_bool_assoc}
use Rattle.gf2.proofs.SymDiff.{eval_vars-sym_diff}
use Rattle.gf2.proofs.Each.{each_at, each_map}
use Rattle.gf2.proofs.VarLists.{increasing_sym_diff, lists_sym_diff, same_lists}

-- ---- masks

pub oddly_nil : (v : ℕ) (es : List Equation) → oddly v [] es ≡ false
unfolding oddly
oddly_nil v [] = refl
oddly_nil v (e ∷ es) = refl

pub const_of_nil : (es : List Equation) → const_of [] es ≡ 0
unfolding const_of
const_of_nil [] = refl
const_of_nil (e ∷ es) = refl

-- what exactly one of the two masks chooses
unfoldable pub xor_mask : List Bool → List Bool → List Bool
xor_mask [] n = n
xor_mask (b ∷ m) [] = b ∷ m
xor_mask (b ∷ m) (d ∷ n) = xor_bool b d ∷ xor_mask m n

pub oddly_xor_mask : (v : ℕ) (m n : List Bool) (es : List Equation) → oddly v (xor_mask m n) es ≡ xor_bool (oddly v m es) (oddly v n es)
unfolding oddly xor_mask
oddly_xor_mask v m n [] = refl
oddly_xor_mask v [] n (e ∷ es) = refl
oddly_xor_mask v (b ∷ m) [] (e ∷ es) = sym (xor_bool_false (oddly v (b ∷ m) (e ∷ es)))
oddly_xor_mask v (true ∷ m) (true ∷ n) (e ∷ es) = oddly_xor_mask v m n es ∙ simp xor_bool_laws
oddly_xor_mask v (true ∷ m) (false ∷ n) (e ∷ es) = ap (xor_bool (lists v e.vars)) (oddly_xor_mask v m n es) ∙ sym (xor_bool_assoc (lists v e.vars) (oddly v m es) (oddly v n es))
oddly_xor_mask v (false ∷ m) (true ∷ n) (e ∷ es) = ap (xor_bool (lists v e.vars)) (oddly_xor_mask v m n es) ∙ simp xor_bool_laws
oddly_xor_mask v (false ∷ m) (false ∷ n) (e ∷ es) = oddly_xor_mask v m n es

pub const_of_xor_mask : (m n : List Bool) (es : List Equation) → const_of (xor_mask m n) es ≡ bit_xor (const_of m es) (const_of n es)
unfolding const_of xor_mask
const_of_xor_mask m n [] = refl
const_of_xor_mask [] n (e ∷ es) = refl
const_of_xor_mask (b ∷ m) [] (e ∷ es) = sym (xor_zero_r (const_of (b ∷ m) (e ∷ es)))
const_of_xor_mask (true ∷ m) (true ∷ n) (e ∷ es) = const_of_xor_mask m n es ∙ simp xor_laws
const_of_xor_mask (true ∷ m) (false ∷ n) (e ∷ es) = ap (bit_xor e.c) (const_of_xor_mask m n es) ∙ sym (xor_assoc e.c (const_of m es) (const_of n es))
const_of_xor_mask (false ∷ m) (true ∷ n) (e ∷ es) = ap (bit_xor e.c) (const_of_xor_mask m n es) ∙ simp xor_laws
const_of_xor_mask (false ∷ m) (false ∷ n) (e ∷ es) = const_of_xor_mask m n es

-- ---- the span

-- the row with no variable and the constant 0
pub span_zero : (es : List Equation) → InSpan es (record { vars = []; c = 0 })
unfolding lists
span_zero es = record { mask = []; increasing = tt; same_vars = λ v. sym (oddly_nil v es); same_const = sym (const_of_nil es) }

pub span_sum : (es : List Equation) (r s : Equation) → InSpan es r → InSpan es s → InSpan es (sum r s)
span_sum es r s p q = record {
  mask = xor_mask p.mask q.mask;
  increasing = increasing_sym_diff r.vars s.vars p.increasing q.increasing;
  same_vars = λ v. lists_sym_diff v r.vars s.vars p.increasing q.increasing ∙ ap₂ xor_bool (p.same_vars v) (q.same_vars v) ∙ sym (oddly_xor_mask v p.mask q.mask es);
  same_const = ap₂ bit_xor p.same_const q.same_const ∙ sym (const_of_xor_mask p.mask q.mask es);
}

pub span_head : (e : Equation) (es : List Equation) → Increasing e.vars → InSpan (e ∷ es) e
unfolding oddly const_of
span_head e es h = record {
  mask = true ∷ [];
  increasing = h;
  same_vars = λ v. sym (ap (xor_bool (lists v e.vars)) (oddly_nil v es) ∙ xor_bool_false (lists v e.vars));
  same_const = sym (ap (bit_xor e.c) (const_of_nil es) ∙ xor_zero_r e.c);
}

pub span_tail : (e : Equation) (es : List Equation) (r : Equation) → InSpan es r → InSpan (e ∷ es) r
unfolding oddly const_of
span_tail e es r p = record { mask = false ∷ p.mask; increasing = p.increasing; same_vars = p.same_vars; same_const = p.same_const }

-- each equation of the system is in its span
pub span_each : (es : List Equation) → Sorted es → Each (InSpan es) es
span_each [] h = tt
span_each (e ∷ es) h = (span_head e es h.0, each_map es (span_tail e es) (span_each es h.1))

pub span_at : (es : List Equation) (d : Equation) (i : ℕ) → i < length es → Sorted es → InSpan es (get_or es i d)
span_at es d i h k = each_at (InSpan es) es d i h (span_each es k)

-- the span of rows of the span is in the span
join_masks : (es rs : List Equation) → Each (InSpan es) rs → List Bool → List Bool
join_masks es [] h m = []
join_masks es (r ∷ rs) h [] = []
join_masks es (r ∷ rs) h (true ∷ m) = xor_mask h.0.mask (join_masks es rs h.1 m)
join_masks es (r ∷ rs) h (false ∷ m) = join_masks es rs h.1 m

oddly_join_masks : (v : ℕ) (es rs : List Equation) (h : Each (InSpan es) rs) (m : List Bool) → oddly v (join_masks es rs h m) es ≡ oddly v m rs
unfolding join_masks oddly
oddly_join_masks v es [] h m = oddly_nil v es
oddly_join_masks v es (r ∷ rs) h [] = oddly_nil v es
oddly_join_masks v es (r ∷ rs) h (true ∷ m) =
    oddly_xor_mask v h.0.mask (join_masks es rs h.1 m) es
    ∙ ap₂ xor_bool (sym (h.0.same_vars v)) (oddly_join_masks v es rs h.1 m)
oddly_join_masks v es (r ∷ rs) h (false ∷ m) = oddly_join_masks v es rs h.1 m

const_of_join_masks : (es rs : List Equation) (h : Each (InSpan es) rs) (m : List Bool) → const_of (join_masks es rs h m) es ≡ const_of m rs
unfolding join_masks const_of
const_of_join_masks es [] h m = const_of_nil es
const_of_join_masks es (r ∷ rs) h [] = const_of_nil es
const_of_join_masks es (r ∷ rs) h (true ∷ m) =
    const_of_xor_mask h.0.mask (join_masks es rs h.1 m) es
    ∙ ap₂ bit_xor (sym h.0.same_const) (const_of_join_masks es rs h.1 m)
const_of_join_masks es (r ∷ rs) h (false ∷ m) = const_of_join_masks es rs h.1 m

pub span_trans : (es rs : List Equation) (t : Equation) → Each (InSpan es) rs → InSpan rs t → InSpan es t
span_trans es rs t h p = record {
  mask = join_masks es rs h p.mask;
  increasing = p.increasing;
  same_vars = λ v. p.same_vars v ∙ sym (oddly_join_masks v es rs h p.mask);
  same_const = p.same_const ∙ sym (const_of_join_masks es rs h p.mask);
}

-- ---- a solution meets what is in the span

-- the variables of the sum of the chosen equations
unfoldable pub sum_vars : List Bool → List Equation → List ℕ
sum_vars m [] = []
sum_vars [] (e ∷ es) = []
sum_vars (true ∷ m) (e ∷ es) = sym_diff e.vars (sum_vars m es)
sum_vars (false ∷ m) (e ∷ es) = sum_vars m es

pub increasing_sum_vars : (m : List Bool) (es : List Equation) → Sorted es → Increasing (sum_vars m es)
unfolding sum_vars
increasing_sum_vars m [] h = tt
increasing_sum_vars [] (e ∷ es) h = tt
increasing_sum_vars (true ∷ m) (e ∷ es) h = increasing_sym_diff e.vars (sum_vars m es) h.0 (increasing_sum_vars m es h.1)
increasing_sum_vars (false ∷ m) (e ∷ es) h = increasing_sum_vars m es h.1

pub lists_sum_vars : (v : ℕ) (m : List Bool) (es : List Equation) → Sorted es → lists v (sum_vars m es) ≡ oddly v m es
unfolding sum_vars oddly lists
lists_sum_vars v m [] h = refl
lists_sum_vars v [] (e ∷ es) h = refl
lists_sum_vars v (true ∷ m) (e ∷ es) h =
    lists_sym_diff v e.vars (sum_vars m es) h.0 (increasing_sum_vars m es h.1)
    ∙ ap (xor_bool (lists v e.vars)) (lists_sum_vars v m es h.1)
lists_sum_vars v (false ∷ m) (e ∷ es) h = lists_sum_vars v m es h.1

eval_vars-sum_vars : (x : List ℕ) (m : List Bool) (es : List Equation) → MeetsAll x es → eval_vars (sum_vars m es) x ≡ const_of m es
unfolding sum_vars const_of eval_vars
eval_vars-sum_vars x m [] h = refl
eval_vars-sum_vars x [] (e ∷ es) h = refl
eval_vars-sum_vars x (true ∷ m) (e ∷ es) h = eval_vars-sym_diff e.vars (sum_vars m es) x ∙ ap₂ bit_xor h.0 (eval_vars-sum_vars x m es h.1)
eval_vars-sum_vars x (false ∷ m) (e ∷ es) h = eval_vars-sum_vars x m es h.1

pub span_meets : (es : List Equation) (x : List ℕ) (r : Equation) → Sorted es → MeetsAll x es → InSpan es r → Meets x r
span_meets es x r h k p =
    ap (λ l. eval_vars l x) (same_lists r.vars (sum_vars p.mask es) p.increasing (increasing_sum_vars p.mask es h)
    (λ w. p.same_vars w ∙ sym (lists_sum_vars w p.mask es h)))
    ∙ eval_vars-sum_vars x p.mask es k ∙ sym p.same_const

pub span_meets_all : (es rs : List Equation) (x : List ℕ) → Sorted es → MeetsAll x es → Each (InSpan es) rs → MeetsAll x rs
span_meets_all es rs x h k = each_map rs (λ r. span_meets es x r h k)

-- ---- no solution

pub cancels_span : (es : List Equation) (m : List Bool) → Cancels m es → InSpan es (record { vars = []; c = const_of m es })
unfolding lists
cancels_span es m q = record { mask = m; increasing = tt; same_vars = λ v. sym (q.even v); same_const = refl }

-- a system that has a solution has no contradiction in it
pub solved_not_cancels : (es : List Equation) (x : List ℕ) (m : List Bool) → Sorted es → MeetsAll x es → Cancels m es → ⊥
unfolding eval_vars
solved_not_cancels es x m h k q = q.nonzero (sym (span_meets es x (record { vars = []; c = const_of m es }) h k (cancels_span es m q)))

-- a row with no variable whose constant is not 0 shows a contradiction: what a solver finds
pub empty_row_cancels : (es : List Equation) (r : Equation) (p : InSpan es r) → r.vars ≡ [] → r.c ≢ 0 → Cancels p.mask es
unfolding lists
empty_row_cancels es r p e h = record {
  even = λ v. sym (p.same_vars v) ∙ ap (lists v) e;
  nonzero = λ z. h (p.same_const ∙ z);
}

-- ---- the span as sums: `InSpan es r` says that r is `sum_row mask es`

-- the sum of the chosen equations
unfoldable pub sum_row : List Bool → List Equation → Equation
sum_row m es = record { vars = sum_vars m es; c = const_of m es }

pub sum_row_spanned : (m : List Bool) (es : List Equation) → Sorted es → InSpan es (sum_row m es)
unfolding sum_row
sum_row_spanned m es h = record { mask = m; increasing = increasing_sum_vars m es h; same_vars = λ v. lists_sum_vars v m es h; same_const = refl }

-- a contradiction by computing the sum
pub sum_cancels : (m : List Bool) (es : List Equation) → Sorted es → sum_vars m es ≡ [] → const_of m es ≢ 0 → Cancels m es
unfolding sum_row sum_row_spanned
sum_cancels m es h e z = empty_row_cancels es (sum_row m es) (sum_row_spanned m es h) e z
