-- Which variables become active, through a pop.
use mathlib.Core.Path.{◌≡◌, sym, ap, ◌∙◌, subst, subst₂}
use mathlib.Core.Logic.{◌≢◌, inl, inr}
use mathlib.Core.List.{List, [], ◌∷◌, ◌++◌}
use mathlib.Core.Bool.{Bool, true, false, true≢false}
use Prim.Native.Nat.{ℕ, ◌<◌}
use native.Mathlib.Omega.{arith}
use lib.ListN.{get_or, set}
use lib.Seq.{get_or-set_other}
use Rattle.gf2.specs.ByNumber.{row_of, lists_at}
use Rattle.gf2.specs.Equation.{Equation, lists}
use Rattle.gf2.specs.NumberLists.{count}
use Rattle.lazy.specs.Invariant.{free, Stopping, TakenBefore, Active, Spared, Reason, ActiveInv, WeightInv, solves}
use Rattle.lazy.specs.Lazy.{Solved}
use Rattle.gf2.proofs.Counting.{count_one, count_mono}
use Rattle.gf2.proofs.Members.{Same, eq, ne, same?, or_r, head_listed, tail_listed}
use Rattle.gf2.proofs.Tests.{not_true→false, eqb_same}
use Rattle.lazy.proofs.Pivots.{get_or-set_default, free_idle, free_weight, activated_other, weightless_other, solves_snoc}

pub before_not : (sys : List Equation) (u v : ℕ) → TakenBefore sys u v → TakenBefore sys v u → ⊥
before_not sys u v (inl a) (inl b) = omega arith
before_not sys u v (inl a) (inr b) = omega arith
before_not sys u v (inr a) (inl b) = omega arith
before_not sys u v (inr a) (inr b) = omega arith

-- v, the next variable, has weight 0
pub skip_active : (n : ℕ) (sys : List Equation) (idle : List Bool) (weight : List ℕ) (v : ℕ) (vs : List ℕ) → get_or weight v 0 ≡ 0
    → ActiveInv n sys idle weight (v ∷ vs) → ActiveInv n sys idle weight vs
unfolding lists
skip_active n sys idle weight v vs z i =
    record {
      in_order = i.in_order.1;
      earlier = λ u w a h. i.earlier u w a (tail_listed w v vs h);
      kept = i.kept;
      reason = i.reason;
      skipped = λ w e d h l S st sp. go w e d h l S st sp (same? w v);
    }
  where
    go : (w e : ℕ) → get_or idle w false ≡ true → lists w vs ≡ false → lists_at sys w e ≡ true
        → (S : ℕ → Bool) → Stopping sys S → Spared sys n idle S w → Same w v → S w ≡ false
    go w e d h l S st sp (eq r t) =
        not_true→false (S w) (λ k.
        free_weight idle weight w (i.kept S st (λ u a. sp u a (subst (TakenBefore sys u) (sym r) (i.earlier u v a (head_listed v vs)))) w e k l)
        (ap (λ x. get_or weight x 0) r ∙ z))
    go w e d h l S st sp (ne r t) = i.skipped w e d (rw t h) l S st sp

-- v, the next variable, becomes active, where the free variables are a stopping set
pub activate_active : (n : ℕ) (sys : List Equation) (idle : List Bool) (weight : List ℕ) (v : ℕ) (vs : List ℕ)
    → v < n → free idle weight v ≡ true → Stopping sys (free idle weight)
    → ActiveInv n sys idle weight (v ∷ vs) → ActiveInv n sys (set idle v false) weight vs
unfolding lists
activate_active n sys idle weight v vs vn fv st i =
    record {
      in_order = i.in_order.1;
      earlier = λ u w a h. early u w a h (same? u v);
      kept = λ S k d w e sw l. kept' S k d w e sw l (same? w v);
      reason = λ w a. reason' w a (same? w v);
      skipped = λ w e d h l S k sp. skipped' w e d h l S k sp (same? w v);
    }
  where
    idle' : List Bool
    idle' = set idle v false

    -- what is active and not v was active
    was : (u : ℕ) → u ≢ v → Active n idle' u → Active n idle u
    was u d a = (a.0, sym (get_or-set_other idle v u false false d) ∙ a.1)

    becomes : (u : ℕ) → Active n idle u → Active n idle' u
    becomes u a = (a.0, go (same? u v))
      where
        go : Same u v → get_or (set idle v false) u false ≡ false
        go (eq r t) = rw r (get_or-set_default idle v false)
        go (ne r t) = get_or-set_other idle v u false false r ∙ a.1

    early : (u w : ℕ) → Active n idle' u → lists w vs ≡ true → Same u v → TakenBefore sys u w
    early u w a h (eq r t) = subst (λ x. TakenBefore sys x w) (sym r) (i.in_order.0 w h)
    early u w a h (ne r t) = i.earlier u w (was u r a) (tail_listed w v vs h)

    kept' : (S : ℕ → Bool) → Stopping sys S → ((u : ℕ) → Active n idle' u → S u ≡ false) → (w e : ℕ) → S w ≡ true → lists_at sys w e ≡ true → Same w v
        → free idle' weight w ≡ true
    kept' S k d w e sw l (eq r t) = absurd (true≢false (sym sw ∙ ap S r ∙ d v (vn, get_or-set_default idle v false)))
    kept' S k d w e sw l (ne r t) = activated_other idle weight v w r ∙ i.kept S k (λ u a. d u (becomes u a)) w e sw l

    reason' : (w : ℕ) → Active n idle' w → Same w v → Reason sys n idle' w
    reason' w a (eq r t) =
        record { S = free idle weight; holds = ap (free idle weight) r ∙ fv; stopping = st; spared = λ u b c. spare u b c (same? u v) }
      where
        spare : (u : ℕ) → Active n idle' u → TakenBefore sys u w → Same u v → free idle weight u ≡ false
        spare u b c (eq q t) = absurd (before_not sys v v (subst₂ (TakenBefore sys) q r c) (subst₂ (TakenBefore sys) q r c))
        spare u b c (ne q t) = not_true→false (free idle weight u) (λ k. true≢false (sym (free_idle idle weight u k) ∙ (was u q b).1))
    reason' w a (ne r t) =
        let o = i.reason w (was w r a) in
        record { S = o.S; holds = o.holds; stopping = o.stopping; spared = λ u b c. spare o u b c (same? u v) }
      where
        spare : (o : Reason sys n idle w) (u : ℕ) → Active n idle' u → TakenBefore sys u w → Same u v → o.S u ≡ false
        spare o u b c (eq q t) = absurd (before_not sys u w c (subst (TakenBefore sys w) (sym q) (i.earlier w v (was w r a) (head_listed v vs))))
        spare o u b c (ne q t) = o.spared u (was u q b) c

    skipped' : (w e : ℕ) → get_or idle' w false ≡ true → lists w vs ≡ false → lists_at sys w e ≡ true
        → (S : ℕ → Bool) → Stopping sys S → Spared sys n idle' S w → Same w v → S w ≡ false
    skipped' w e d h l S k sp (eq r t) = absurd (true≢false (sym d ∙ ap (λ x. get_or idle' x false) r ∙ get_or-set_default idle v false))
    skipped' w e d h l S k sp (ne r t) =
        i.skipped w e (sym (get_or-set_other idle v w false false r) ∙ d) (rw t h) l S k (λ u a b. sp u (becomes u a) b)

-- equation e, of one free variable v, is solved for it
pub solve_active : (n : ℕ) (sys : List Equation) (idle : List Bool) (weight variables : List ℕ) (e v : ℕ)
    → free idle weight v ≡ true → lists_at sys v e ≡ true → count (free idle weight) (row_of sys e).vars ≡ 1
    → ActiveInv n sys idle weight variables → ActiveInv n sys idle (set weight v 0) variables
solve_active n sys idle weight variables e v fv l c i =
    record {
      in_order = i.in_order;
      earlier = i.earlier;
      reason = i.reason;
      skipped = i.skipped;
      kept = λ S k d w f sw h. go S k d w f sw h (same? w v);
    }
  where
    go : (S : ℕ → Bool) → Stopping sys S → ((u : ℕ) → Active n idle u → S u ≡ false) → (w f : ℕ) → S w ≡ true → lists_at sys w f ≡ true → Same w v
        → free idle (set weight v 0) w ≡ true
    go S k d w f sw h (eq r t) =
        let a = count_mono S (free idle weight) (row_of sys e).vars (λ u g q. i.kept S k d u e q g) in
        let b = count_one S v (row_of sys e).vars (sym (ap S r) ∙ sw) l in
        absurd (k e (omega arith))
    go S k d w f sw h (ne r t) = weightless_other idle weight v w r ∙ i.kept S k d w f sw h

pub solve_weight : (sys : List Equation) (weight : List ℕ) (solved : List Solved) (d : Solved)
    → WeightInv sys weight solved → WeightInv sys (set weight d.pivot 0) (solved ++ (d ∷ []))
solve_weight sys weight solved d i v e l z = go (same? v d.pivot)
  where
    go : Same v d.pivot → (f : ℕ) × (solves (solved ++ (d ∷ [])) f v ≡ true)
    go (eq r t) = (d.equation, solves_snoc solved d d.equation v ∙ or_r (solves solved d.equation v) (rw (eqb_same d.equation, t)))
    go (ne r t) = let k = i v e l (sym (get_or-set_other weight d.pivot v 0 0 r) ∙ z) in (k.0, solves_snoc solved d k.0 v ∙ rw k.1)
