-- One variable's value: written into the vector, and from the values of the others.
use mathlib.Core.Path.{◌≡◌, refl, sym, ap, ◌∙◌}
use mathlib.Core.Logic.{◌≢◌}
use mathlib.Core.List.{List, [], ◌∷◌}
use mathlib.Core.Bool.{true, false, false≢true}
use Prim.Native.Nat.{ℕ, zero, suc, ◌<◌, ◌^◌}
use native.Mathlib.Omega.{arith}
use native.Mathlib.Decide.{dec_lt}
use lib.ListN.{length, get_or, set, replicate}
use lib.Seq.{get_or-set_other, get_or-set_same, set_out}
use lib.Bits.{bit_xor}
use Rattle.gf2.specs.Equation.{Equation, Each, eval_vars, lists, Meets, MeetsAll}
use Rattle.gf2.specs.NumberLists.{Distinct}
use Rattle.gf2.specs.Span.{InSpan}
use Rattle.gf2.proofs.XorLaws.{xor_assoc, xor_left_comm, xor_laws, xor_cancel_left, xor_cancel_right}
use Rattle.gf2.proofs.Members.{Same, eq, ne, same?, listed_differ, head_listed, tail_listed, listed_each}
use Rattle.gf2.proofs.Leads.{eval_vars_agree}
use Rattle.gf2.proofs.Width.{eval_vars-lt, const_of_lt}

-- the value depends on the listed variables only
pub eval_vars_same : (vs x y : List ℕ) → ((v : ℕ) → lists v vs ≡ true → get_or x v 0 ≡ get_or y v 0) → eval_vars vs x ≡ eval_vars vs y
eval_vars_same vs x y h = eval_vars_agree vs x y (listed_each (λ v. get_or x v 0 ≡ get_or y v 0) vs h)

-- a variable that is not listed may be written
pub eval_vars_unlisted : (vs x : List ℕ) (v a : ℕ) → lists v vs ≡ false → eval_vars vs (set x v a) ≡ eval_vars vs x
eval_vars_unlisted vs x v a h = eval_vars_same vs (set x v a) x (λ u k. get_or-set_other x v u a 0 (listed_differ u v vs k h))

pub meets_unlisted : (rows : List Equation) (x : List ℕ) (v a : ℕ) → Each (λ r. lists v r.vars ≡ false) rows → MeetsAll x rows → MeetsAll (set x v a) rows
meets_unlisted [] x v a h k = tt
meets_unlisted (r ∷ rows) x v a h k = (eval_vars_unlisted r.vars x v a h.0 ∙ k.0, meets_unlisted rows x v a h.1 k.1)

-- a listed variable that was 0 is set to a
pub eval_vars_written : (vs x : List ℕ) (v a : ℕ) → Distinct vs → lists v vs ≡ true → get_or x v 0 ≡ 0 → v < length x
    → eval_vars vs (set x v a) ≡ bit_xor a (eval_vars vs x)
unfolding eval_vars lists
eval_vars_written [] x v a d h z b = absurd (false≢true h)
eval_vars_written (u ∷ us) x v a d h z b = go (same? v u) (eval_vars_written us x v a d.1)
  where
    go : Same v u → (lists v us ≡ true → get_or x v 0 ≡ 0 → v < length x → eval_vars us (set x v a) ≡ bit_xor a (eval_vars us x))
        → bit_xor (get_or (set x v a) u 0) (eval_vars us (set x v a)) ≡ bit_xor a (bit_xor (get_or x u 0) (eval_vars us x))
    go (eq r t) ih =
        rw (← r, get_or-set_same x v a 0 b, z) (ap (bit_xor a) (eval_vars_unlisted us x v a (rw r d.0)))
    go (ne r t) ih =
        rw (get_or-set_other x v u a 0 (λ p. r (sym p)), ih (rw t at h) z b) (xor_left_comm (get_or x u 0) a (eval_vars us x))

-- the variable v, which was 0, gets the value that meets the equation
pub set_meets : (r : Equation) (x : List ℕ) (v : ℕ) → Distinct r.vars → lists v r.vars ≡ true → get_or x v 0 ≡ 0 → v < length x
    → Meets (set x v (bit_xor r.c (eval_vars r.vars x))) r
set_meets r x v d h z b =
    eval_vars_written r.vars x v (bit_xor r.c (eval_vars r.vars x)) d h z b
    ∙ xor_assoc r.c (eval_vars r.vars x) (eval_vars r.vars x) ∙ simp xor_laws

-- ---- one variable from the others

pub eval_vars_fix : (vs y z : List ℕ) (v : ℕ) → Distinct vs → lists v vs ≡ true → ((u : ℕ) → lists u vs ≡ true → u ≢ v → get_or y u 0 ≡ get_or z u 0)
    → eval_vars vs y ≡ eval_vars vs z → get_or y v 0 ≡ get_or z v 0
unfolding eval_vars lists
eval_vars_fix [] y z v d h a e = absurd (false≢true h)
eval_vars_fix (u ∷ us) y z v d h a e = go (same? v u) (eval_vars_fix us y z v d.1)
  where
    go : Same v u
        → (lists v us ≡ true → ((w : ℕ) → lists w us ≡ true → w ≢ v → get_or y w 0 ≡ get_or z w 0) → eval_vars us y ≡ eval_vars us z → get_or y v 0 ≡ get_or z v 0)
        → get_or y v 0 ≡ get_or z v 0
    go (eq r t) ih =
        let same_rest : eval_vars us y ≡ eval_vars us z =
        eval_vars_same us y z (λ w l. a w (tail_listed w u us l) (λ p. listed_differ w u us l d.0 (p ∙ r))) in
        ap (λ x. get_or y x 0) r
        ∙ xor_cancel_right (eval_vars us z) (get_or y u 0) (get_or z u 0) (ap (bit_xor (get_or y u 0)) (sym same_rest) ∙ e)
        ∙ sym (ap (λ x. get_or z x 0) r)
    go (ne r t) ih =
        ih (rw t at h) (λ w l. a w (tail_listed w u us l))
        (xor_cancel_left (get_or y u 0) (eval_vars us y) (eval_vars us z) (e ∙ ap (λ x. bit_xor x (eval_vars us z)) (sym (a u (head_listed u us) (λ p. r (sym p))))))

-- ---- words of k digits

module _ (k : ℕ) where
  abbrev pub Small : List ℕ → Type 0
  Small x = (v : ℕ) → get_or x v 0 < 2 ^ k

  pub eval_vars_small : (vs x : List ℕ) → Small x → eval_vars vs x < 2 ^ k
  eval_vars_small vs x h = eval_vars-lt k vs x (listed_each (λ u. get_or x u 0 < 2 ^ k) vs (λ w l. h w))

  pub set_small : (x : List ℕ) (v a : ℕ) → a < 2 ^ k → Small x → Small (set x v a)
  set_small x v a h s u = go (same? u v) (dec_lt v (length x))
    where
      go : Same u v → Dec (v < length x) → get_or (set x v a) u 0 < 2 ^ k
      go (eq r t) (yes b) = rw (r, get_or-set_same x v a 0 b) h
      go (eq r t) (no b) = rw (set_out x v a (omega arith)) (s u)
      go (ne r t) d = rw (get_or-set_other x v u a 0 r) (s u)

  pub span_small : (es : List Equation) (r : Equation) → Each (λ q. q.c < 2 ^ k) es → InSpan es r → r.c < 2 ^ k
  span_small es r h p = rw p.same_const (const_of_lt k p.mask es h)

-- ---- n zeros

pub zeros_at : (n v : ℕ) → get_or {A = ℕ} (replicate n 0) v 0 ≡ 0
zeros_at zero v = refl
zeros_at (suc n) zero = refl
zeros_at (suc n) (suc v) = zeros_at n v
