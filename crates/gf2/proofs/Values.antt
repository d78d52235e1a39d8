-- The XOR of the values of a row's variables: step by step, and with one value written.
use mathlib.Core.Path.{◌≡◌, refl, sym, ap, ap₂, ◌∙◌}
use mathlib.Core.List.{List, [], ◌∷◌, ◌++◌}
use Prim.Native.Nat.{ℕ, ◌<◌}
use native.Mathlib.Omega.{arith}
use lib.ListN.{get_or, length, set}
use lib.Seq.{get_or-set_same, get_or-set_other}
use lib.Bits.{bit_xor}
use Rattle.gf2.specs.Equation.{Equation, Each, Above, eval_vars, MeetsAll}
use Rattle.gf2.proofs.XorLaws.{xor_laws, xor_assoc}

pub eval_vars-append : (a b x : List ℕ) → eval_vars (a ++ b) x ≡ bit_xor (eval_vars a x) (eval_vars b x)
unfolding eval_vars
eval_vars-append [] b x = refl
eval_vars-append (v ∷ vs) b x = ap (bit_xor (get_or x v 0)) (eval_vars-append vs b x) ∙ sym (xor_assoc (get_or x v 0) (eval_vars vs x) (eval_vars b x))

-- ---- a value written into the vector

pub eval_vars-set : (v a : ℕ) (vs x : List ℕ) → Above v vs → eval_vars vs (set x v a) ≡ eval_vars vs x
unfolding eval_vars
eval_vars-set v a [] x h = refl
eval_vars-set v a (u ∷ us) x h = ap₂ bit_xor (get_or-set_other x v u a 0 (omega arith)) (eval_vars-set v a us x h.1)

pub meets_all_set : (v a : ℕ) (es : List Equation) (x : List ℕ) → Each (λ e. Above v e.vars) es → MeetsAll x es → MeetsAll (set x v a) es
meets_all_set v a [] x h k = tt
meets_all_set v a (e ∷ es) x h k = (eval_vars-set v a e.vars x h.0 ∙ k.0, meets_all_set v a es x h.1 k.1)

-- back substitution: the lowest variable of a row takes what makes the row true
pub meets_set_lead : (v d : ℕ) (vs x : List ℕ) → v < length x → Above v vs → eval_vars (v ∷ vs) (set x v (bit_xor d (eval_vars vs x))) ≡ d
unfolding eval_vars
meets_set_lead v d vs x h k =
    ap₂ bit_xor (get_or-set_same x v (bit_xor d (eval_vars vs x)) 0 h) (eval_vars-set v (bit_xor d (eval_vars vs x)) vs x k)
    ∙ simp xor_laws
