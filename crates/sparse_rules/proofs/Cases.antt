-- The rules as code tests them: a row is empty where its length is 0, and rows compare by their first variables.
use mathlib.Core.Path.{◌≡◌, refl}
use mathlib.Core.Logic.{◌≢◌}
use mathlib.Core.Bool.{true}
use mathlib.Core.List.{List, [], ◌∷◌}
use Prim.Native.Nat.{ℕ, zero, suc, ◌≤◌, ◌<◌, Ordering}
use native.Mathlib.Omega.{arith}
use lib.ListN.{length, get_or, set}
use lib.Bits.{bit_xor}
use Rattle.gf2.specs.Equation.{Equation, eqn, eval_vars, sum}
use Rattle.gf2.proofs.SymDiff.{Cmp, is_lt, is_eq, is_gt, cmp, compare_lt, compare_eq, compare_gt}
use Rattle.sparse_rules.specs.Eliminate.{clash, identity, both, summed, meeting, contradicted, pin}

-- ---- a meeting

abbrev first_of : List ℕ → ℕ
first_of vs = get_or vs 0 0

skip : (r : Equation) (vs : List ℕ) (c : ℕ) → length vs ≡ 0 → c ≡ 0 → meeting r (eqn vs c) ≡ both r (eqn vs c)
unfolding meeting
skip r [] zero e z = refl
skip r [] (suc c) e z = absurd (omega arith)
skip r (v ∷ vs) c e z = absurd (omega arith)

bad : (r : Equation) (vs : List ℕ) (c : ℕ) → length vs ≡ 0 → c ≢ 0 → meeting r (eqn vs c) ≡ clash
unfolding meeting
bad r [] zero e z = absurd (z refl)
bad r [] (suc c) e z = refl
bad r (v ∷ vs) c e z = absurd (omega arith)

stay : (us : List ℕ) (a : ℕ) (vs : List ℕ) (c : ℕ) → length vs ≢ 0 → length us ≢ 0 → first_of us < first_of vs → meeting (eqn us a) (eqn vs c) ≡ both (eqn us a) (eqn vs c)
unfolding meeting
stay us a [] c f g h = absurd (f refl)
stay [] a (v ∷ vs) c f g h = absurd (g refl)
stay (u ∷ us) a (v ∷ vs) c f g h = rw (compare_lt u v h, meeting)

swap : (us : List ℕ) (a : ℕ) (vs : List ℕ) (c : ℕ) → length vs ≢ 0 → length us ≢ 0 → first_of vs < first_of us → meeting (eqn us a) (eqn vs c) ≡ both (eqn vs c) (eqn us a)
unfolding meeting
swap us a [] c f g h = absurd (f refl)
swap [] a (v ∷ vs) c f g h = absurd (g refl)
swap (u ∷ us) a (v ∷ vs) c f g h = rw (compare_gt u v h, meeting)

equal : (us : List ℕ) (a : ℕ) (vs : List ℕ) (c : ℕ) → length vs ≢ 0 → length us ≢ 0 → first_of us ≡ first_of vs
    → meeting (eqn us a) (eqn vs c) ≡ summed (sum (eqn us a) (eqn vs c)) (first_of vs) (eqn vs c)
unfolding meeting
equal us a [] c f g h = absurd (f refl)
equal [] a (v ∷ vs) c f g h = absurd (g refl)
equal (u ∷ us) a (v ∷ vs) c f g h = rw (compare_eq u v h, meeting)

module _ (r s : Equation) where
  pub meeting_skip : length s.vars ≡ 0 → s.c ≡ 0 → meeting r s ≡ both r s
  meeting_skip e z = skip r s.vars s.c e z

  pub meeting_clash : length s.vars ≡ 0 → s.c ≢ 0 → meeting r s ≡ clash
  meeting_clash e z = bad r s.vars s.c e z

  module _ (f : length s.vars ≢ 0) (g : length r.vars ≢ 0) where
    pub meeting_stay : get_or r.vars 0 0 < get_or s.vars 0 0 → meeting r s ≡ both r s
    meeting_stay h = stay r.vars r.c s.vars s.c f g h

    pub meeting_swap : get_or s.vars 0 0 < get_or r.vars 0 0 → meeting r s ≡ both s r
    meeting_swap h = swap r.vars r.c s.vars s.c f g h

    pub meeting_sum : get_or r.vars 0 0 ≡ get_or s.vars 0 0 → meeting r s ≡ summed (sum r s) (get_or s.vars 0 0) s
    meeting_sum h = equal r.vars r.c s.vars s.c f g h

-- ---- after a sum

gone : (us : List ℕ) (a v : ℕ) (s : Equation) → length us ≡ 0 → a ≡ 0 → summed (eqn us a) v s ≡ identity (eqn us a)
unfolding summed
gone [] zero v s e z = refl
gone [] (suc a) v s e z = absurd (omega arith)
gone (u ∷ us) a v s e z = absurd (omega arith)

wrong : (us : List ℕ) (a v : ℕ) (s : Equation) → length us ≡ 0 → a ≢ 0 → summed (eqn us a) v s ≡ clash
unfolding summed
wrong [] zero v s e z = absurd (z refl)
wrong [] (suc a) v s e z = refl
wrong (u ∷ us) a v s e z = absurd (omega arith)

falls : (us : List ℕ) (a v : ℕ) (s : Equation) → length us ≢ 0 → v < first_of us → summed (eqn us a) v s ≡ both s (eqn us a)
unfolding summed
falls [] a v s f h = absurd (f refl)
falls (u ∷ us) a v s f h = rw (compare_gt u v h, summed)

holds : (us : List ℕ) (a v : ℕ) (s : Equation) → length us ≢ 0 → first_of us ≤ v → summed (eqn us a) v s ≡ both (eqn us a) s
unfolding summed
holds [] a v s f h = absurd (f refl)
holds (u ∷ us) a v s f h = go (cmp u v)
  where
    go : {o : Ordering} → Cmp u v o → summed (eqn (u ∷ us) a) v s ≡ both (eqn (u ∷ us) a) s
    go (is_lt l) = rw (compare_lt u v l, summed)
    go (is_eq l) = rw (compare_eq u v l, summed)
    go (is_gt l) = absurd (omega arith)

module _ (r : Equation) (v : ℕ) (s : Equation) where
  pub summed_identity : length r.vars ≡ 0 → r.c ≡ 0 → summed r v s ≡ identity r
  summed_identity e z = gone r.vars r.c v s e z

  pub summed_clash : length r.vars ≡ 0 → r.c ≢ 0 → summed r v s ≡ clash
  summed_clash e z = wrong r.vars r.c v s e z

  pub summed_swap : length r.vars ≢ 0 → v < get_or r.vars 0 0 → summed r v s ≡ both s r
  summed_swap f h = falls r.vars r.c v s f h

-- ---- a row that no values meet, and a row that pins its first variable

blank_row : (vs : List ℕ) (c : ℕ) (rest : List Equation) → length vs ≡ 0 → c ≡ 0 → contradicted (eqn vs c ∷ rest) ≡ contradicted rest
unfolding contradicted
blank_row [] zero rest e z = refl
blank_row [] (suc c) rest e z = absurd (omega arith)
blank_row (v ∷ vs) c rest e z = absurd (omega arith)

wrong_row : (vs : List ℕ) (c : ℕ) (rest : List Equation) → length vs ≡ 0 → c ≢ 0 → contradicted (eqn vs c ∷ rest) ≡ true
unfolding contradicted
wrong_row [] zero rest e z = absurd (z refl)
wrong_row [] (suc c) rest e z = refl
wrong_row (v ∷ vs) c rest e z = absurd (omega arith)

full_row : (vs : List ℕ) (c : ℕ) (rest : List Equation) → length vs ≢ 0 → contradicted (eqn vs c ∷ rest) ≡ contradicted rest
unfolding contradicted
full_row [] c rest f = absurd (f refl)
full_row (v ∷ vs) c rest f = refl

pin_none : (vs : List ℕ) (c : ℕ) (x : List ℕ) → length vs ≡ 0 → pin (eqn vs c) x ≡ x
unfolding pin
pin_none [] c x e = refl
pin_none (v ∷ vs) c x e = absurd (omega arith)

pin_first : (vs : List ℕ) (c : ℕ) (x : List ℕ) → length vs ≢ 0 → pin (eqn vs c) x ≡ set x (first_of vs) (bit_xor c (eval_vars vs x))
unfolding pin
pin_first [] c x f = absurd (f refl)
pin_first (v ∷ vs) c x f = refl

module _ (r : Equation) where
  pub contradicted_blank : (rest : List Equation) → length r.vars ≡ 0 → r.c ≡ 0 → contradicted (r ∷ rest) ≡ contradicted rest
  contradicted_blank rest e z = blank_row r.vars r.c rest e z

  pub contradicted_wrong : (rest : List Equation) → length r.vars ≡ 0 → r.c ≢ 0 → contradicted (r ∷ rest) ≡ true
  contradicted_wrong rest e z = wrong_row r.vars r.c rest e z

  pub contradicted_full : (rest : List Equation) → length r.vars ≢ 0 → contradicted (r ∷ rest) ≡ contradicted rest
  contradicted_full rest f = full_row r.vars r.c rest f

  pub pin_empty : (x : List ℕ) → length r.vars ≡ 0 → pin r x ≡ x
  pin_empty x e = pin_none r.vars r.c x e

  pub pin_full : (x : List ℕ) → length r.vars ≢ 0 → pin r x ≡ set x (get_or r.vars 0 0) (bit_xor r.c (eval_vars r.vars x))
  pin_full x f = pin_first r.vars r.c x f
