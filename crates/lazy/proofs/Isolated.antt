-- Two systems with the same equations on our cells: where both are solved, our cells get the same values.
use mathlib.Core.Path.{◌≡◌, refl, sym, ap, ◌∙◌, subst}
use mathlib.Core.Logic.{◌⊎◌, inl, inr}
use mathlib.Core.List.Memᴰ
use mathlib.Core.List.{List, [], ◌∷◌, map, Memᴰ}
use mathlib.Core.Bool.{Bool, true, false, cond, ◌&&◌, true≢false}
use Prim.Native.Nat.{ℕ, zero, suc, ◌+◌, ◌≤◌, ◌<◌}
use native.Mathlib.Omega.{arith}
use native.Mathlib.Decide.{dec_lt, ℕ_discrete}
use lib.ListN.{length, get_or, length-map, get_or-eq_default}
use Rattle.gf2.specs.ByNumber.{row_of, lists_at, MeetsRows}
use Rattle.gf2.specs.Equation.{Equation, lists, Meets}
use Rattle.gf2.specs.NumberLists.{up_from, keep, one, count}
use Rattle.gf2.specs.Ours.{any_ours, our_part}
use Rattle.lazy.specs.Description.{Described, Chosen, Fixed}
use Rattle.lazy.specs.Invariant.{Lent, Stopping, TakenBefore}
use Rattle.lazy.specs.Lazy.{listing}
use Rattle.gf2.proofs.Counting.{count_some, count_one, count_same}
use Rattle.gf2.proofs.Members.{head_listed, and_true}
use Rattle.gf2.proofs.OurCells.{any_listed}
use Rattle.gf2.proofs.OneValue.{eval_vars_same}
use Rattle.gf2.proofs.Selecting.{get_or-map_up, length_up, length_zero, length-keep}
use Rattle.gf2.proofs.Tests.{not_true→false}
use Rattle.lazy.proofs.Pivots.{lists_listing, lists_at_below}
use Rattle.lazy.proofs.Shares.{ApartAt, Shares}

-- ---- weights and lists

some_listed : (l : List ℕ) → 0 < length l → (v : ℕ) × (lists v l ≡ true)
some_listed [] h = absurd (omega arith)
some_listed (v ∷ vs) h = (v, head_listed v vs)

pub weight_listed : (sys : List Equation) (v : ℕ) → 0 < length (listing sys v) → (e : ℕ) × (lists_at sys v e ≡ true)
weight_listed sys v h = let k = some_listed (listing sys v) h in (k.0, sym (lists_listing sys v k.0) ∙ k.1)

pub weight_unlisted : (sys : List Equation) (v : ℕ) → length (listing sys v) ≡ 0 → (e : ℕ) → lists_at sys v e ≡ false
weight_unlisted sys v h e = sym (lists_listing sys v e) ∙ length_zero (listing sys v) e h

pub shares_sym : (P : ℕ → Bool) (a b : List Equation) → Shares P a b → Shares P b a
shares_sym P a b s = record { forth = s.back; back = s.forth; weights = λ v h. sym (s.weights v h) }

before_heavy : (sys : List Equation) (u v : ℕ) → TakenBefore sys u v → length (listing sys v) ≤ length (listing sys u)
before_heavy sys u v (inl h) = omega arith
before_heavy sys u v (inr h) = omega arith

-- ---- what is active

module _ (P : ℕ → Bool) (a b : List Equation) (s : Shares P a b) where
  before_same : (u v : ℕ) → P u ≡ true → P v ≡ true → TakenBefore b u v → TakenBefore a u v
  before_same u v pu pv (inl h) = let x = s.weights u pu in let y = s.weights v pv in inl (omega arith)
  before_same u v pu pv (inr h) = let x = s.weights u pu in let y = s.weights v pv in inr (omega arith, h.1)

  -- our part of a stopping set
  stopping_ours : ApartAt P b → (S : ℕ → Bool) → Stopping a S → Stopping b (λ u. P u && S u)
  stopping_ours ap-b S st f h =
      let w = count_some (λ u. P u && S u) (row_of b f).vars (omega arith) in
      let q = and_true (P w.0) (S w.0) w.1 in
      let e = s.back w.0 f w.2 q.0 in
      let c = count_same (λ u. P u && S u) S (row_of b f).vars (λ u l. both u (ap-b w.0 u f w.2 l q.0)) in
      st e.0 (ap (λ (r : Equation). count S r.vars) e.1 ∙ sym c ∙ h)
    where
      both : (u : ℕ) → P u ≡ true → S u ≡ (P u && S u)
      both u p = rw p

  -- v is active in a, and what is taken before it is active in a wherever it is in b
  chosen_ours : ApartAt P b → (A B : ℕ → Bool) (v : ℕ) → P v ≡ true → Chosen a A v
      → ((u : ℕ) → P u ≡ true → B u ≡ true → TakenBefore b u v → A u ≡ true) → Chosen b B v
  chosen_ours ap-b A B v pv c earlier =
      record {
        S = λ u. P u && c.S u;
        holds = rw (pv, c.holds);
        stopping = stopping_ours ap-b c.S c.stopping;
        spared = λ u bu be. go u bu be (P u) refl;
      }
    where
      go : (u : ℕ) → B u ≡ true → TakenBefore b u v → (p : Bool) → P u ≡ p → (p && c.S u) ≡ false
      go u bu be true pu = c.spared u (earlier u pu bu be) (before_same u v pu pv be)
      go u bu be false pu = refl

module _ (P : ℕ → Bool) (a b : List Equation) (s : Shares P a b) (ap-a : ApartAt P a) (ap-b : ApartAt P b) (n m : ℕ) (lent-a : Lent n a) (lent-b : Lent m b)
    (x y : List ℕ) (ans-a : Described n a x) (ans-b : Described m b y) where
  W : ℕ → ℕ
  W v = length (listing a v)

  -- v is active in both or in neither
  Agree : ℕ → Type 0
  Agree v = (ans-a.active v ≡ true → ans-b.active v ≡ true) × (ans-b.active v ≡ true → ans-a.active v ≡ true)

  -- if all that is taken before v agrees, so does v
  agree_step : (v : ℕ) → P v ≡ true → 0 < W v → ((u : ℕ) → P u ≡ true → 0 < W u → TakenBefore a u v → Agree u) → Agree v
  unfolding W Agree
  agree_step v pv w ih = (
    λ h. ans-b.because v (weight_listed b v wb).0 (weight_listed b v wb).1
        (chosen_ours P a b s ap-b ans-a.active ans-b.active v pv (ans-a.why v h)
        (λ u pu bu be. (ih u pu (heavy u (before_same P a b s u v pu pv be)) (before_same P a b s u v pu pv be)).1 bu)),
    λ h. ans-a.because v (weight_listed a v w).0 (weight_listed a v w).1
        (chosen_ours P b a (shares_sym P a b s) ap-a ans-b.active ans-a.active v pv (ans-b.why v h)
        (λ u pu au be. (ih u pu (heavy u be) be).0 au)),
  )
    where
      wb : 0 < length (listing b v)
      wb = rw (s.weights v pv) at w

      heavy : (u : ℕ) → TakenBefore a u v → 0 < length (listing a u)
      heavy u be = let h = before_heavy a u v be in omega arith

  -- by weight, then by number, from the heavy end
  by_number : (M N k : ℕ) → ((u : ℕ) → P u ≡ true → 0 < W u → M < k + W u → Agree u)
      → (j v : ℕ) → P v ≡ true → 0 < W v → M < suc k + W v → N < j + v → ((u : ℕ) → 0 < W u → u ≤ N) → Agree v
  by_number M N k heavier zero v pv w h g bound = let z = bound v w in absurd (omega arith)
  by_number M N k heavier (suc j) v pv w h g bound =
      agree_step v pv w (λ u pu wu be. go u pu wu be (λ pu wu h g. by_number M N k heavier j u pu wu h g bound))
    where
      go : (u : ℕ) → P u ≡ true → 0 < W u → TakenBefore a u v → (P u ≡ true → 0 < W u → M < suc k + W u → N < j + u → Agree u) → Agree u
      go u pu wu (inl l) rec = heavier u pu wu (unfold W in omega arith)
      go u pu wu (inr l) rec = rec pu wu (unfold W in omega arith) (omega arith)

  by_weight : (M N k v : ℕ) → P v ≡ true → 0 < W v → M < k + W v → ((u : ℕ) → W u ≤ M) → ((u : ℕ) → 0 < W u → u ≤ N) → Agree v
  by_weight M N zero v pv w h light bound = let z = light v in absurd (omega arith)
  by_weight M N (suc k) v pv w h light bound =
      by_number M N k (λ u pu wu g. by_weight M N k u pu wu g light bound) (suc N) v pv w h (omega arith) bound

  agree : (v : ℕ) → P v ≡ true → 0 < W v → Agree v
  agree v pv w = by_weight (length a) n (suc (length a)) v pv w (omega arith) light bound
    where
      light : (u : ℕ) → W u ≤ length a
      light u = unfold W listing in (let h = length-keep (lists_at a u) (up_from 0 (length a)) in let k = length_up 0 (length a) in omega arith)

      bound : (u : ℕ) → 0 < W u → u ≤ n
      bound u h = let k = weight_listed a u (unfold W in h) in let l = lent-a.inside u k.0 k.1 in omega arith

-- ---- the values

-- p on our cells, q on the others
unfoldable glued : (ℕ → Bool) → List ℕ → List ℕ → List ℕ
glued P p q = map (λ u. cond (P u) (get_or p u 0) (get_or q u 0)) (up_from 0 (length p + length q))

glued_at : (P : ℕ → Bool) (p q : List ℕ) (u : ℕ) → get_or (glued P p q) u 0 ≡ cond (P u) (get_or p u 0) (get_or q u 0)
unfolding glued
glued_at P p q u = go (dec_lt u (length p + length q))
  where
    go : Dec (u < length p + length q) → get_or (map (λ u. cond (P u) (get_or p u 0) (get_or q u 0)) (up_from 0 (length p + length q))) u 0 ≡ cond (P u) (get_or p u 0) (get_or q u 0)
    go (yes h) = get_or-map_up (λ u. cond (P u) (get_or p u 0) (get_or q u 0)) 0 (length p + length q) u h ∙ ap (λ u. cond (P u) (get_or p u 0) (get_or q u 0)) (omega arith)
    go (no h) =
        get_or-eq_default (map (λ u. cond (P u) (get_or p u 0) (get_or q u 0)) (up_from 0 (length p + length q))) 0 {n = u}
        (rw (length-map (up_from 0 (length p + length q)) (λ u. cond (P u) (get_or p u 0) (get_or q u 0)), length_up 0 (length p + length q)) (omega arith))
        ∙ sym (both (P u))
      where
        both : (t : Bool) → cond t (get_or p u 0) (get_or q u 0) ≡ 0
        both true = get_or-eq_default p 0 {n = u} (omega arith)
        both false = get_or-eq_default q 0 {n = u} (omega arith)

glued_ours : (P : ℕ → Bool) (p q : List ℕ) (u : ℕ) → P u ≡ true → get_or (glued P p q) u 0 ≡ get_or p u 0
glued_ours P p q u h = glued_at P p q u ∙ rw h

glued_other : (P : ℕ → Bool) (p q : List ℕ) (u : ℕ) → P u ≡ false → get_or (glued P p q) u 0 ≡ get_or q u 0
glued_other P p q u h = glued_at P p q u ∙ rw h

-- a solution of b on our cells and one of a on the others make one of a
glued_meets : (P : ℕ → Bool) (a b : List Equation) → Shares P a b → ApartAt P a → (x y : List ℕ) → MeetsRows x a → MeetsRows y b → MeetsRows (glued P y x) a
glued_meets P a b s ap-a x y mx my e = go (ℕ_discrete (count P (row_of a e).vars) 0)
  where
    go : Dec (count P (row_of a e).vars ≡ 0) → Meets (glued P y x) (row_of a e)
    go (yes z) =
        eval_vars_same (row_of a e).vars (glued P y x) x (λ v l.
        glued_other P y x v (not_true→false (P v) (λ p. let c = count_one P v (row_of a e).vars p l in omega arith)))
        ∙ mx e
    go (no z) =
        let w = count_some P (row_of a e).vars (omega arith) in
        let f = s.forth w.0 e w.2 w.1 in
        eval_vars_same (row_of a e).vars (glued P y x) y (λ v l. glued_ours P y x v (ap-a w.0 v e w.2 l w.1))
        ∙ subst (Meets y) f.1 (my f.0)

-- one variable: all others that are used agree
module _ (P : ℕ → Bool) (a b : List Equation) (s : Shares P a b) (ap-a : ApartAt P a) (x y : List ℕ) (mx : MeetsRows x a) (my : MeetsRows y b) where
  fixed_ours : (Q : ℕ → Type 0) (v : ℕ) → P v ≡ true → Fixed a Q v → ((u : ℕ) → P u ≡ true → Q u → get_or x u 0 ≡ get_or y u 0) → get_or x v 0 ≡ get_or y v 0
  fixed_ours Q v pv f h =
      f x (glued P y x) mx (glued_meets P a b s ap-a x y mx my) (λ u q. go u q (P u) refl) ∙ glued_ours P y x v pv
    where
      go : (u : ℕ) → Q u → (p : Bool) → P u ≡ p → get_or x u 0 ≡ get_or (glued P y x) u 0
      go u q true pu = h u pu q ∙ sym (glued_ours P y x u pu)
      go u q false pu = sym (glued_other P y x u pu)

module _ (P : ℕ → Bool) (a b : List Equation) (s : Shares P a b) (ap-a : ApartAt P a) (ap-b : ApartAt P b) (n m : ℕ) (lent-a : Lent n a) (lent-b : Lent m b)
    (x y : List ℕ) (ans-a : Described n a x) (ans-b : Described m b y) where
  -- a variable that no equation lists
  nowhere : (v : ℕ) → P v ≡ true → length (listing a v) ≡ 0 → get_or x v 0 ≡ get_or y v 0
  nowhere v pv w = ans-a.unlisted v (weight_unlisted a v w) ∙ sym (ans-b.unlisted v (weight_unlisted b v (sym (s.weights v pv) ∙ w)))

  -- from the highest active variable down
  active_same : (j v : ℕ) → P v ≡ true → ans-a.active v ≡ true → n < j + v → get_or x v 0 ≡ get_or y v 0
  active_same zero v pv av h = go (ℕ_discrete (length (listing a v)) 0)
    where
      go : Dec (length (listing a v) ≡ 0) → get_or x v 0 ≡ get_or y v 0
      go (yes z) = nowhere v pv z
      go (no z) = let e = weight_listed a v (omega arith) in let l = lent-a.inside v e.0 e.1 in absurd (omega arith)
  active_same (suc j) v pv av h = go (ℕ_discrete (length (listing a v)) 0) (λ u pu au g. active_same j u pu au g)
    where
      go : Dec (length (listing a v) ≡ 0) → ((u : ℕ) → P u ≡ true → ans-a.active u ≡ true → n < j + u → get_or x u 0 ≡ get_or y u 0) → get_or x v 0 ≡ get_or y v 0
      go (yes z) rec = nowhere v pv z
      go (no z) rec = by_lowest (ans-a.lowest v av) (ans-b.lowest v bv)
        where
          bv : ans-b.active v ≡ true
          bv = unfold Agree in ((agree P a b s ap-a ap-b n m lent-a lent-b x y ans-a ans-b v pv (unfold W in omega arith)).0 av)

          by_lowest : (get_or x v 0 ≡ 0) ⊎ Fixed a (λ u. (ans-a.active u ≡ true) × (v < u)) v → (get_or y v 0 ≡ 0) ⊎ Fixed b (λ u. (ans-b.active u ≡ true) × (v < u)) v
              → get_or x v 0 ≡ get_or y v 0
          by_lowest (inl p) (inl q) = p ∙ sym q
          by_lowest (inr f) q = fixed_ours P a b s ap-a x y ans-a.meets ans-b.meets (λ u. (ans-a.active u ≡ true) × (v < u)) v pv f
              (λ u pu k. let l = k.1 in rec u pu k.0 (omega arith))
          by_lowest (inl p) (inr f) =
              sym (fixed_ours P b a (shares_sym P a b s) ap-b y x ans-b.meets ans-a.meets (λ u. (ans-b.active u ≡ true) × (v < u)) v pv f
              (λ u pu k. back u pu k (ℕ_discrete (length (listing a u)) 0)))
            where
              back : (u : ℕ) → P u ≡ true → (ans-b.active u ≡ true) × (v < u) → Dec (length (listing a u) ≡ 0) → get_or y u 0 ≡ get_or x u 0
              back u pu k (yes w) = sym (nowhere u pu w)
              back u pu k (no w) =
                  let l = k.1 in
                  sym (rec u pu (unfold Agree in ((agree P a b s ap-a ap-b n m lent-a lent-b x y ans-a ans-b u pu (unfold W in omega arith)).1 k.0)) (omega arith))

  -- our cells get the same values
  pub ours_same : (v : ℕ) → P v ≡ true → get_or x v 0 ≡ get_or y v 0
  ours_same v pv = go (ℕ_discrete (length (listing a v)) 0) (ans-a.active v) refl
    where
      go : Dec (length (listing a v) ≡ 0) → (t : Bool) → ans-a.active v ≡ t → get_or x v 0 ≡ get_or y v 0
      go (yes z) t h = nowhere v pv z
      go (no z) true h = active_same (suc n) v pv h (omega arith)
      go (no z) false h =
          let e = weight_listed a v (omega arith) in
          fixed_ours P a b s ap-a x y ans-a.meets ans-b.meets (λ u. ans-a.active u ≡ true) v pv (ans-a.others v e.0 e.1 h)
          (λ u pu k. active_same (suc n) u pu k (omega arith))

-- ---- the same equations, in the same order

-- how many equations list v
listing_count : ℕ → List Equation → ℕ
listing_count v [] = 0
listing_count v (q ∷ qs) = one (lists v q.vars) + listing_count v qs

shift_keep : (p : ℕ → Bool) (k n : ℕ) → length (keep p (up_from (suc k) n)) ≡ length (keep (λ e. p (suc e)) (up_from k n))
unfolding keep up_from
shift_keep p k zero = refl
shift_keep p k (suc n) = go (p (suc k)) (shift_keep p (suc k) n)
  where
    go : (b : Bool) → length (keep p (up_from (suc (suc k)) n)) ≡ length (keep (λ e. p (suc e)) (up_from (suc k) n))
        → length (cond b (suc k ∷ keep p (up_from (suc (suc k)) n)) (keep p (up_from (suc (suc k)) n)))
        ≡ length (cond b (k ∷ keep (λ e. p (suc e)) (up_from (suc k) n)) (keep (λ e. p (suc e)) (up_from (suc k) n)))
    go true ih = ap suc ih
    go false ih = ih

listing_is : (sys : List Equation) (v : ℕ) → length (listing sys v) ≡ listing_count v sys
unfolding listing listing_count keep up_from one
listing_is [] v = refl
listing_is (q ∷ qs) v = go (lists v q.vars) (shift_keep (lists_at (q ∷ qs) v) 0 (length qs) ∙ listing_is qs v)
  where
    go : (b : Bool) → length (keep (lists_at (q ∷ qs) v) (up_from 1 (length qs))) ≡ listing_count v qs
        → length (cond b (0 ∷ keep (lists_at (q ∷ qs) v) (up_from 1 (length qs))) (keep (lists_at (q ∷ qs) v) (up_from 1 (length qs)))) ≡ one b + listing_count v qs
    go true ih = let z : suc (length (keep (lists_at (q ∷ qs) v) (up_from 1 (length qs)))) ≡ 1 + listing_count v qs = omega arith in z
    go false ih = let z : length (keep (lists_at (q ∷ qs) v) (up_from 1 (length qs))) ≡ 0 + listing_count v qs = omega arith in z

count_ours : (P : ℕ → Bool) (v : ℕ) → P v ≡ true → (sys : List Equation) → listing_count v (our_part P sys) ≡ listing_count v sys
unfolding listing_count our_part one
count_ours P v pv [] = refl
count_ours P v pv (q ∷ qs) = go (any_ours P q.vars) refl (count_ours P v pv qs)
  where
    go : (b : Bool) → any_ours P q.vars ≡ b → listing_count v (our_part P qs) ≡ listing_count v qs
        → listing_count v (cond b (q ∷ our_part P qs) (our_part P qs)) ≡ one (lists v q.vars) + listing_count v qs
    go true e ih = ap (λ k. one (lists v q.vars) + k) ih
    go false e ih = rw (not_true→false (lists v q.vars) (λ l. true≢false (sym (any_listed P v q.vars l pv) ∙ e))) (ih ∙ (let z : listing_count v qs ≡ 0 + listing_count v qs = omega arith in z))

mem_ours : (P : ℕ → Bool) (r : Equation) (sys : List Equation) → any_ours P r.vars ≡ true → Memᴰ r sys → Memᴰ r (our_part P sys)
unfolding our_part
mem_ours P r sys h (Memᴰ.head {x = q} {xs = qs} e) = rw (sym (ap (λ (z : Equation). any_ours P z.vars) e) ∙ h) (Memᴰ.head e)
mem_ours P r sys h (Memᴰ.tail {x = q} {xs = qs} k) = go (any_ours P q.vars) (mem_ours P r qs h k)
  where
    go : (b : Bool) → Memᴰ r (our_part P qs) → Memᴰ r (cond b (q ∷ our_part P qs) (our_part P qs))
    go true ih = Memᴰ.tail ih
    go false ih = ih

ours_mem : (P : ℕ → Bool) (sys : List Equation) (r : Equation) → Memᴰ r (our_part P sys) → Memᴰ r sys
unfolding our_part
ours_mem P [] r k = k
ours_mem P (q ∷ qs) r k = go (any_ours P q.vars) k (ours_mem P qs r)
  where
    step : (a : (r ≡ q) ⊎ Memᴰ r (our_part P qs)) → (Memᴰ r (our_part P qs) → Memᴰ r qs) → Memᴰ r (q ∷ qs)
    step (inl e) ih = Memᴰ.head e
    step (inr l) ih = Memᴰ.tail (ih l)

    go : (b : Bool) → Memᴰ r (cond b (q ∷ our_part P qs) (our_part P qs)) → (Memᴰ r (our_part P qs) → Memᴰ r qs) → Memᴰ r (q ∷ qs)
    go true k ih = step (Memᴰ.cases_cons k) ih
    go false k ih = Memᴰ.tail (ih k)

row_mem : (sys : List Equation) (e : ℕ) → e < length sys → Memᴰ (row_of sys e) sys
row_mem [] e h = absurd (omega arith)
row_mem (q ∷ qs) zero h = Memᴰ.head refl
row_mem (q ∷ qs) (suc e) h = Memᴰ.tail (row_mem qs e (omega arith))

mem_row : (r : Equation) (sys : List Equation) → Memᴰ r sys → (f : ℕ) × (row_of sys f ≡ r)
mem_row r sys (Memᴰ.head e) = (0, sym e)
mem_row r sys (Memᴰ.tail {xs = qs} k) = let f = mem_row r qs k in (suc f.0, f.1)

half : (P : ℕ → Bool) (a b : List Equation) → our_part P a ≡ our_part P b → (v e : ℕ) → lists_at a v e ≡ true → P v ≡ true → (f : ℕ) × (row_of b f ≡ row_of a e)
half P a b h v e l pv =
    mem_row (row_of a e) b (ours_mem P b (row_of a e) (subst (Memᴰ (row_of a e)) h
    (mem_ours P (row_of a e) a (any_listed P v (row_of a e).vars l pv) (row_mem a e (lists_at_below a v e l)))))

pub shares : (P : ℕ → Bool) (a b : List Equation) → our_part P a ≡ our_part P b → Shares P a b
shares P a b h =
    record {
      forth = half P a b h;
      back = half P b a (sym h);
      weights = λ v pv. listing_is a v ∙ sym (count_ours P v pv a) ∙ ap (listing_count v) h ∙ count_ours P v pv b ∙ sym (listing_is b v);
    }
