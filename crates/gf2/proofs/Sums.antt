-- What holds of two equations and so of their sum.
use mathlib.Core.Path.{◌≡◌, sym, ap, ap₂, ◌∙◌}
use mathlib.Core.Logic.{◌≢◌}
use mathlib.Core.List.{List, []}
use Prim.Native.Nat.{ℕ}
use lib.Bits.{bit_xor}
use Rattle.gf2.specs.Equation.{Equation, Each, eval_vars, Meets, sum}
use Rattle.gf2.specs.Span.{Cancels, InSpan}
use Rattle.gf2.proofs.XorLaws.{xor_cancel_left, xor_cancel_right}
use Rattle.gf2.proofs.SymDiff.{eval_vars-sym_diff}
use Rattle.gf2.proofs.Spans.{span_sum, empty_row_cancels}
use mathlib.Core.Bool.{Bool}

pub meets_sum : (x : List ℕ) (r q : Equation) → Meets x r → Meets x q → Meets x (sum r q)
meets_sum x r q h k = eval_vars-sym_diff r.vars q.vars x ∙ ap₂ bit_xor h k

-- the sum and one part give the other
pub meets_part : (x : List ℕ) (r q : Equation) → Meets x (sum r q) → Meets x q → Meets x r
meets_part x r q h k =
    xor_cancel_right q.c (eval_vars r.vars x) r.c (ap (bit_xor (eval_vars r.vars x)) (sym k) ∙ sym (eval_vars-sym_diff r.vars q.vars x) ∙ h)

pub meets_other : (x : List ℕ) (r q : Equation) → Meets x r → Meets x (sum r q) → Meets x q
meets_other x r q h k =
    xor_cancel_left r.c (eval_vars q.vars x) q.c (ap (λ v. bit_xor v (eval_vars q.vars x)) (sym h) ∙ sym (eval_vars-sym_diff r.vars q.vars x) ∙ k)

-- what two equations have, their sum has
abbrev pub Closed : (Equation → Type 0) → Type 0
Closed Q = (r q : Equation) → Q r → Q q → Q (sum r q)

-- some sum of the rows has no variables, and a constant that is not 0
abbrev pub Refuted : List Equation → Type 1
Refuted rows = (Q : Equation → Type 0) → Closed Q → Each Q rows → (r : Equation) × Q r × (r.vars ≡ []) × (r.c ≢ 0)

-- rows of the span that are refuted show a contradiction in the system
pub refuted_cancels : (es rows : List Equation) → Each (InSpan es) rows → Refuted rows → (mask : List Bool) × Cancels mask es
refuted_cancels es rows h f =
    let r = f (InSpan es) (span_sum es) h in
    (r.1.mask, empty_row_cancels es r.0 r.1 r.2 r.3)
