-- Two rows meet: what becomes of them has the same solutions and no other variables, and row i leads.
use mathlib.Core.Path.{◌≡◌, refl, sym, ap, ap₂, ◌∙◌, subst}
use mathlib.Core.List.{List, [], ◌∷◌}
use Prim.Native.Nat.{ℕ, zero, suc, ◌≤◌, ◌<◌, compare, Ordering}
use native.Mathlib.Omega.{arith}
use lib.Bits.{bit_xor}
use Rattle.gf2.specs.Equation.{Equation, Each, Above, Increasing, Meets, sym_diff, sum}
use Rattle.gf2.proofs.SymDiff.{Cmp, is_lt, is_eq, is_gt, cmp, sym_diff_same, each_sym_diff}
use Rattle.gf2.proofs.VarLists.{increasing_sym_diff, above_trans}
use Rattle.gf2.proofs.Sums.{Closed, Refuted, meets_sum, meets_part}
use Rattle.sparse_rules.specs.Eliminate.{Meeting, clash, identity, both, summed, meeting}

-- two lists with one first variable: it falls away
above_sym_diff : (u : ℕ) (us vs : List ℕ) → Increasing (u ∷ us) → Increasing (u ∷ vs) → Above u (sym_diff (u ∷ us) (u ∷ vs))
above_sym_diff u us vs h k = rw (sym_diff_same u us u vs refl) (each_sym_diff (λ w. u < w) us vs h.0 k.0)

-- ---- what two rows become

pub record Fits (i j i' j' : Equation) : Type 1 where
  pub closed : (Q : Equation → Type 0) → Closed Q → Q i → Q j → Q i' × Q j'
  pub forth : (x : List ℕ) → Meets x i → Meets x j → Meets x i' × Meets x j'
  pub back : (x : List ℕ) → Meets x i' → Meets x j' → Meets x i × Meets x j
  pub support : (P : ℕ → Type 0) → Each P i.vars → Each P j.vars → Each P i'.vars × Each P j'.vars
  pub rising : Increasing i.vars → Increasing j.vars → Increasing i'.vars × Increasing j'.vars

pub fits_same : (i j : Equation) → Fits i j i j
fits_same i j = record { closed = λ Q cl a b. (a, b); forth = λ x a b. (a, b); back = λ x a b. (a, b); support = λ P a b. (a, b); rising = λ a b. (a, b) }

pub fits_swap : (i j i' j' : Equation) → Fits i j i' j' → Fits i j j' i'
fits_swap i j i' j' f =
    record {
      closed = λ Q cl a b. let p = f.closed Q cl a b in (p.1, p.0);
      forth = λ x a b. let p = f.forth x a b in (p.1, p.0);
      back = λ x a b. f.back x b a;
      support = λ P a b. let p = f.support P a b in (p.1, p.0);
      rising = λ a b. let p = f.rising a b in (p.1, p.0);
    }

fits_sum : (i j : Equation) → Fits i j (sum i j) j
fits_sum i j =
    record {
      closed = λ Q cl a b. (cl i j a b, b);
      forth = λ x a b. (meets_sum x i j a b, b);
      back = λ x a b. (meets_part x i j a b, b);
      support = λ P a b. (each_sym_diff P i.vars j.vars a b, b);
      rising = λ a b. (increasing_sym_diff i.vars j.vars a b, b);
    }

-- row i has a first variable; after the meeting row i has one that is not above it, and row j only variables above that one
pub record Leads (u : ℕ) (i' : Equation) (later : List Equation) : Type 0 where
  pub first : ℕ
  pub others : List ℕ
  pub vars_are : i'.vars ≡ first ∷ others
  pub not_above : first ≤ u
  pub lower : Each (λ r. Above first r.vars) later

pub data Met (i j : Equation) (u : ℕ) : Meeting → Type 1 where
  met_clash : Refuted (i ∷ j ∷ []) → Met i j u clash
  met_identity : (i' : Equation) → i'.vars ≡ [] → i'.c ≡ 0 → Fits i j i' j → Met i j u (identity i')
  met_both : (i' j' : Equation) → Fits i j i' j' → Leads u i' (j' ∷ []) → Met i j u (both i' j')

module _ (i j : Equation) (u : ℕ) (us : List ℕ) (iv : i.vars ≡ u ∷ us) (ii : Increasing i.vars) (ji : Increasing j.vars) where
  i_inc : Increasing (u ∷ us)
  i_inc = subst Increasing iv ii

  -- one first variable: row j becomes row i, and the sum row j, unless it has no variables
  by_sum : (v : ℕ) (vs : List ℕ) → j.vars ≡ v ∷ vs → u ≡ v → Met i j u (summed (sum i j) v j)
  unfolding summed
  by_sum v vs jv e = by_vars (sym_diff i.vars j.vars) refl
    where
      j_inc : Increasing (u ∷ vs)
      j_inc = subst Increasing (jv ∙ ap (λ x. x ∷ vs) (sym e)) ji

      above : Above u (sym_diff i.vars j.vars)
      above = subst (Above u) (sym (ap₂ sym_diff iv (jv ∙ ap (λ x. x ∷ vs) (sym e)))) (above_sym_diff u us vs i_inc j_inc)

      leads : Leads u j (sum i j ∷ [])
      leads = record { first = u; others = vs; vars_are = jv ∙ ap (λ x. x ∷ vs) (sym e); not_above = omega arith; lower = (above, tt) }

      by_c : sym_diff i.vars j.vars ≡ [] → (k : ℕ) → bit_xor i.c j.c ≡ k → Met i j u (elim k [ zero ↦ identity (sum i j) | suc _ ↦ clash ])
      by_c p zero q = met_identity (sum i j) p q (fits_sum i j)
      by_c p (suc k) q = met_clash (λ Q cl h. (sum i j, cl i j h.0 h.1.0, p, λ z. let w : bit_xor i.c j.c ≡ 0 = z in omega arith))

      by_order : (w : ℕ) (ws : List ℕ) → sym_diff i.vars j.vars ≡ w ∷ ws → (o : Ordering) → Cmp w v o
          → Met i j u (elim o [ Ordering.lt ↦ both (sum i j) j | Ordering.eq ↦ both (sum i j) j | Ordering.gt ↦ both j (sum i j) ])
      by_order w ws p o (is_lt q) = let b = (subst (Above u) p above).0 in absurd (omega arith)
      by_order w ws p o (is_eq q) = let b = (subst (Above u) p above).0 in absurd (omega arith)
      by_order w ws p o (is_gt q) = met_both j (sum i j) (fits_swap i j (sum i j) j (fits_sum i j)) leads

      by_vars : (l : List ℕ) → sym_diff i.vars j.vars ≡ l
          → Met i j u (elim l [
            | [] ↦ elim (bit_xor i.c j.c) [ zero ↦ identity (sum i j) | suc _ ↦ clash ]
            | w ∷ _ ↦ elim (compare w v) [ Ordering.lt ↦ both (sum i j) j | Ordering.eq ↦ both (sum i j) j | Ordering.gt ↦ both j (sum i j) ]
          ])
      by_vars [] p = by_c p (bit_xor i.c j.c) refl
      by_vars (w ∷ ws) p = by_order w ws p (compare w v) (cmp w v)

  pub meeting_met : Met i j u (meeting i j)
  unfolding meeting
  meeting_met = by_j j.vars refl
    where
      by_c : j.vars ≡ [] → (k : ℕ) → j.c ≡ k → Met i j u (elim k [ zero ↦ both i j | suc _ ↦ clash ])
      by_c p zero q = met_both i j (fits_same i j) (record { first = u; others = us; vars_are = iv; not_above = omega arith; lower = (subst (Above u) (sym p) tt, tt) })
      by_c p (suc k) q = met_clash (λ Q cl h. (j, h.1.0, p, λ z. omega arith))

      by_order : (v : ℕ) (vs : List ℕ) → j.vars ≡ v ∷ vs → (o : Ordering) → Cmp u v o
          → Met i j u (elim o [ Ordering.lt ↦ both i j | Ordering.eq ↦ summed (sum i j) v j | Ordering.gt ↦ both j i ])
      by_order v vs p o (is_lt e) =
          met_both i j (fits_same i j) (record {
            first = u;
            others = us;
            vars_are = iv;
            not_above = omega arith;
            lower = (subst (Above u) (sym p) (e, above_trans vs (e) (subst Increasing p ji).0), tt);
          })
      by_order v vs p o (is_eq e) = by_sum v vs p e
      by_order v vs p o (is_gt e) =
          met_both j i (fits_swap i j i j (fits_same i j)) (record {
            first = v;
            others = vs;
            vars_are = p;
            not_above = omega arith;
            lower = (subst (Above v) (sym iv) (e, above_trans us (e) i_inc.0), tt);
          })

      by_i : (v : ℕ) (vs : List ℕ) → j.vars ≡ v ∷ vs
          → Met i j u (elim i.vars [
            | [] ↦ both i j
            | w ∷ _ ↦ elim (compare w v) [ Ordering.lt ↦ both i j | Ordering.eq ↦ summed (sum i j) v j | Ordering.gt ↦ both j i ]
          ])
      by_i v vs p =
          subst (λ l. Met i j u (elim l [
            | [] ↦ both i j
            | w ∷ _ ↦ elim (compare w v) [ Ordering.lt ↦ both i j | Ordering.eq ↦ summed (sum i j) v j | Ordering.gt ↦ both j i ]
          ])) (sym iv) (by_order v vs p (compare u v) (cmp u v))

      by_j : (vs : List ℕ) → j.vars ≡ vs
          → Met i j u (elim vs [
            | [] ↦ elim j.c [ zero ↦ both i j | suc _ ↦ clash ]
            | v ∷ _ ↦
                elim i.vars [
                  | [] ↦ both i j
                  | w ∷ _ ↦ elim (compare w v) [ Ordering.lt ↦ both i j | Ordering.eq ↦ summed (sum i j) v j | Ordering.gt ↦ both j i ]
                ]
          ])
      by_j [] p = by_c p j.c refl
      by_j (v ∷ vs) p = by_i v vs p
