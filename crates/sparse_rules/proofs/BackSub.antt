-- The last check and back substitution: the vector meets rows in order, and is 0 where no row begins.
use mathlib.Core.Path.{◌≡◌, refl, sym, ap, ◌∙◌, subst}
use mathlib.Core.Logic.{◌≢◌, ◌⊎◌, inl, inr}
use mathlib.Core.List.{List, [], ◌∷◌, Memᴰ, cons≢nil}
use mathlib.Core.Bool.{true, false, true≢false, false≢true}
use Prim.Native.Nat.{ℕ, zero, suc, ◌<◌, ◌^◌}
use native.Mathlib.Omega.{arith}
use lib.ListN.{length, get_or, set, length-set}
use lib.Seq.{get_or-set_other}
use lib.Bits.{bit_xor, xor_lt}
use lib.Dec.{eqb}
use Rattle.gf2.specs.Equation.{Equation, Each, Above, Sorted, eval_vars, lists, MeetsAll}
use Rattle.gf2.proofs.Tests.{eqb_same}
use Rattle.gf2.proofs.VarLists.{above_not_listed}
use Rattle.gf2.proofs.Members.{Same, eq, ne, same?, or_false, head_listed, increasing_distinct}
use Rattle.gf2.proofs.Sums.{Refuted}
use Rattle.gf2.proofs.OneValue.{set_meets, meets_unlisted, Small, eval_vars_small, set_small}
use Rattle.sparse_rules.specs.Eliminate.{contradicted, pin, back_sub}
use Rattle.sparse_rules.proofs.OuterRow.{Ahead, Triangular}

-- ---- the last checks

pub contradicted_clash : (rows : List Equation) → contradicted rows ≡ true → Refuted rows
unfolding contradicted
contradicted_clash [] h Q cl m = absurd (false≢true h)
contradicted_clash (i ∷ rest) h Q cl m = by_vars i.vars refl h (λ k. contradicted_clash rest k Q cl m.1)
  where
    Bad : Type 0
    Bad = (r : Equation) × Q r × (r.vars ≡ []) × (r.c ≢ 0)

    by_c : i.vars ≡ [] → (k : ℕ) → i.c ≡ k → elim k [ zero ↦ contradicted rest | suc _ ↦ true ] ≡ true → (contradicted rest ≡ true → Bad) → Bad
    by_c p zero q h ih = ih h
    by_c p (suc k) q h ih = (i, m.0, p, λ z. omega arith)

    by_vars : (vs : List ℕ) → i.vars ≡ vs → elim vs [ [] ↦ elim i.c [ zero ↦ contradicted rest | suc _ ↦ true ] | _ ∷ _ ↦ contradicted rest ] ≡ true
        → (contradicted rest ≡ true → Bad) → Bad
    by_vars [] p h ih = by_c p i.c refl h ih
    by_vars (v ∷ vs) p h ih = ih h

-- an equation without variables has constant 0
abbrev pub Sound : Equation → Type 0
Sound r = r.vars ≡ [] → r.c ≡ 0

pub not_contradicted : (rows : List Equation) → contradicted rows ≡ false → Each Sound rows
unfolding contradicted
not_contradicted [] h = tt
not_contradicted (i ∷ rest) h = by_vars i.vars refl h (not_contradicted rest)
  where
    by_c : i.vars ≡ [] → (k : ℕ) → i.c ≡ k → elim k [ zero ↦ contradicted rest | suc _ ↦ true ] ≡ false → (contradicted rest ≡ false → Each Sound rest) → Sound i × Each Sound rest
    by_c p zero q h ih = (λ z. q, ih h)
    by_c p (suc k) q h ih = absurd (true≢false h)

    by_vars : (vs : List ℕ) → i.vars ≡ vs → elim vs [ [] ↦ elim i.c [ zero ↦ contradicted rest | suc _ ↦ true ] | _ ∷ _ ↦ contradicted rest ] ≡ false
        → (contradicted rest ≡ false → Each Sound rest) → Sound i × Each Sound rest
    by_vars [] p h ih = by_c p i.c refl h ih
    by_vars (v ∷ vs) p h ih = (λ z. absurd (cons≢nil (sym p ∙ z)), ih h)

-- ---- back substitution

pub length-back_sub : (rows : List Equation) (x : List ℕ) → length (back_sub rows x) ≡ length x
unfolding back_sub pin
length-back_sub [] x = refl
length-back_sub (i ∷ rest) x = go i.vars (length-back_sub rest x)
  where
    go : (vs : List ℕ) → length (back_sub rest x) ≡ length x
        → length {A = ℕ} (elim vs [ [] ↦ back_sub rest x | v ∷ _ ↦ set (back_sub rest x) v (bit_xor i.c (eval_vars i.vars (back_sub rest x))) ]) ≡ length x
    go [] ih = ih
    go (v ∷ vs) ih = length-set (back_sub rest x) v (bit_xor i.c (eval_vars i.vars (back_sub rest x))) ∙ ih

-- a variable that no row lists stays
pub back_sub_other : (rows : List Equation) (x : List ℕ) (v : ℕ) → Each (λ r. lists v r.vars ≡ false) rows → get_or (back_sub rows x) v 0 ≡ get_or x v 0
unfolding back_sub pin lists
back_sub_other [] x v h = refl
back_sub_other (i ∷ rest) x v h = go i.vars h.0 (back_sub_other rest x v h.1)
  where
    go : (vs : List ℕ) → lists v vs ≡ false → get_or (back_sub rest x) v 0 ≡ get_or x v 0
        → get_or (elim vs [ [] ↦ back_sub rest x | w ∷ _ ↦ set (back_sub rest x) w (bit_xor i.c (eval_vars i.vars (back_sub rest x))) ]) v 0 ≡ get_or x v 0
    go [] k ih = ih
    go (w ∷ ws) k ih =
        get_or-set_other (back_sub rest x) w v (bit_xor i.c (eval_vars i.vars (back_sub rest x))) 0
        (λ p. true≢false (sym (ap (λ y. eqb y w) p ∙ eqb_same w) ∙ (or_false (eqb v w) (lists v ws) k).0))
        ∙ ih

unlisted_ahead : (v : ℕ) (rows : List Equation) → Each (λ r. Above v r.vars) rows → Each (λ r. lists v r.vars ≡ false) rows
unlisted_ahead v [] h = tt
unlisted_ahead v (r ∷ rows) h = (above_not_listed v r.vars h.0, unlisted_ahead v rows h.1)

-- the variables of the rows are 0 to begin with
pub back_sub_meets : (rows : List Equation) (x : List ℕ) → Triangular rows → Sorted rows → Each Sound rows
    → Each (λ r. Each (λ v. v < length x) r.vars) rows → ((v : ℕ) → get_or x v 0 ≡ 0) → MeetsAll (back_sub rows x) rows
unfolding back_sub pin
back_sub_meets [] x t s c b z = tt
back_sub_meets (i ∷ rest) x t s c b z = go i.vars refl (back_sub_meets rest x t.1 s.1 c.1 b.1 z)
  where
    y : List ℕ
    y = back_sub rest x

    go : (vs : List ℕ) → i.vars ≡ vs → MeetsAll y rest
        → MeetsAll (elim vs [ [] ↦ y | v ∷ _ ↦ set y v (bit_xor i.c (eval_vars i.vars y)) ]) (i ∷ rest)
    go [] p ih = (unfold eval_vars in ap (λ l. eval_vars l y) p ∙ sym (c.0 p), ih)
    go (v ∷ vs) p ih =
        let free : Each (λ r. lists v r.vars ≡ false) rest = unlisted_ahead v rest (subst (λ l. Ahead l rest) p t.0) in (
          set_meets i y v (increasing_distinct i.vars s.0) (ap (lists v) p ∙ head_listed v vs) (back_sub_other rest x v free ∙ z v)
              (rw (length-back_sub rest x) (subst (Each (λ w. w < length x)) p b.0).0),
          meets_unlisted rest y v (bit_xor i.c (eval_vars i.vars y)) free ih,
        )

-- v is the first variable of one of the rows
pub record Leader (rows : List Equation) (v : ℕ) : Type 0 where
  pub row : Equation
  pub member : Memᴰ row rows
  pub others : List ℕ
  pub vars_are : row.vars ≡ v ∷ others

-- back substitution writes first variables only
pub back_sub_lead : (rows : List Equation) (x : List ℕ) (v : ℕ) → (get_or (back_sub rows x) v 0 ≡ get_or x v 0) ⊎ Leader rows v
unfolding back_sub pin
back_sub_lead [] x v = inl refl
back_sub_lead (i ∷ rest) x v = go i.vars refl (back_sub_lead rest x v)
  where
    up : Leader rest v → Leader (i ∷ rest) v
    up l = record { row = l.row; member = Memᴰ.tail l.member; others = l.others; vars_are = l.vars_are }

    same_here : (w a : ℕ) (ws : List ℕ) → i.vars ≡ w ∷ ws → Same v w → (get_or (back_sub rest x) v 0 ≡ get_or x v 0) ⊎ Leader rest v
        → (get_or (set (back_sub rest x) w a) v 0 ≡ get_or x v 0) ⊎ Leader (i ∷ rest) v
    same_here w a ws p (eq r t) ih = inr (record { row = i; member = Memᴰ.head refl; others = ws; vars_are = p ∙ ap (λ u. u ∷ ws) (sym r) })
    same_here w a ws p (ne r t) (inl e) = inl (get_or-set_other (back_sub rest x) w v a 0 r ∙ e)
    same_here w a ws p (ne r t) (inr l) = inr (up l)

    go : (vs : List ℕ) → i.vars ≡ vs → (get_or (back_sub rest x) v 0 ≡ get_or x v 0) ⊎ Leader rest v
        → (get_or {A = ℕ} (elim vs [ [] ↦ back_sub rest x | w ∷ _ ↦ set (back_sub rest x) w (bit_xor i.c (eval_vars i.vars (back_sub rest x))) ]) v 0 ≡ get_or x v 0) ⊎ Leader (i ∷ rest) v
    go [] p (inl e) = inl e
    go [] p (inr l) = inr (up l)
    go (w ∷ ws) p ih = same_here w (bit_xor i.c (eval_vars i.vars (back_sub rest x))) ws p (same? v w) ih

-- ---- words of k digits

pub back_sub_small : (k : ℕ) (rows : List Equation) → Each (λ r. r.c < 2 ^ k) rows → (x : List ℕ) → Small k x → Small k (back_sub rows x)
unfolding back_sub pin
back_sub_small k [] h x s = s
back_sub_small k (i ∷ rest) h x s = go i.vars (back_sub_small k rest h.1 x s)
  where
    go : (vs : List ℕ) → Small k (back_sub rest x)
        → Small k (elim vs [ [] ↦ back_sub rest x | v ∷ _ ↦ set (back_sub rest x) v (bit_xor i.c (eval_vars i.vars (back_sub rest x))) ])
    go [] ih = ih
    go (v ∷ vs) ih =
        set_small k (back_sub rest x) v (bit_xor i.c (eval_vars i.vars (back_sub rest x)))
        (xor_lt k i.c (eval_vars i.vars (back_sub rest x)) h.0 (eval_vars_small k i.vars (back_sub rest x) ih)) ih
