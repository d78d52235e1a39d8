-- The foreign edges do not change our cells.
use mathlib.Core.Path.{◌≡◌, refl, sym, ap, ◌∙◌}
use mathlib.Core.List.{List, [], ◌∷◌}
use mathlib.Core.Bool.{Bool, true, false, cond, true≢false}
use mathlib.Core.Option.{Option, none, some}
use mathlib.Core.Logic.{◌⊎◌, inl, inr}
use Prim.Native.Nat.{ℕ, zero, suc, ◌≤◌, ◌<◌}
use native.Mathlib.Omega.{arith}
use lib.ListN.{length, get_or, set, replicate, length-set}
use lib.Seq.{get_or-set_same, get_or-set_other, set_out}
use lib.Bits.{bit_xor}
use lib.Dec.{eqb, ltb}
use borrow.Author.Tests.{ltb-true, ltb-false, eqb-true, eqb-false}
use Rattle.peel_rules.specs.Peel.{Peeled, State, push, popped, pop, step, run, ones, start, peel, fill_one, fill, solved, answer}
use Rattle.peel_rules.proofs.PeelBasic.{pivot_of_lem, at_touches, all_at, all_without, step-inv}
use Rattle.peel_rules.proofs.PeelSolved.{edges_of, peel_all, solved_is}
use Rattle.peel_rules.proofs.PeelEmpty.{peel_empties, run_idle}
use Rattle.gf2.specs.Equation.{Each}
use Rattle.peel_rules.specs.Edges.{Valid, touches, bump, degree, edge_at, without, Side, side0, side1, side2, side_of, pivot, first, second}
use Rattle.peel_rules.specs.Ours.{Closed, keep}
use Rattle.peeling.specs.declared.numbers.Edge.{Edge}

mk_path : {l l' : List Edge} {s s' : List ℕ} {p p' : List Peeled} → l ≡ l' → s ≡ s' → p ≡ p'
    → ◌≡◌ {A = State} (record { left = l; stack = s; peeled = p }) (record { left = l'; stack = s'; peeled = p' })
mk_path a b c = λ i. record { left = a i; stack = b i; peeled = c i }

module _ (ours : ℕ → Bool) where
  -- ---- what is left of a state without the foreign
  unfoldable pub keep_v : List ℕ → List ℕ
  keep_v [] = []
  keep_v (v ∷ st) = cond (ours v) (v ∷ keep_v st) (keep_v st)

  unfoldable pub keep_p : List Peeled → List Peeled
  keep_p [] = []
  keep_p (p ∷ ps) = cond (ours p.edge.a.0) (p ∷ keep_p ps) (keep_p ps)

  unfoldable pub forget : State → State
  forget s = record { left = keep ours s.left; stack = keep_v s.stack; peeled = keep_p s.peeled }

  -- ---- the vertices of an edge go together
  closed_pivot : {e : Edge} → Closed ours e → (s : Side) → ours (pivot s e) ≡ ours e.a.0
  unfolding pivot
  closed_pivot c side0 = refl
  closed_pivot c side1 = c.same_b
  closed_pivot c side2 = c.same_c

  closed_first : {e : Edge} → Closed ours e → (s : Side) → ours (first s e) ≡ ours e.a.0
  unfolding first
  closed_first c side0 = c.same_b
  closed_first c side1 = refl
  closed_first c side2 = refl

  closed_second : {e : Edge} → Closed ours e → (s : Side) → ours (second s e) ≡ ours e.a.0
  unfolding second
  closed_second c side0 = c.same_c
  closed_second c side1 = c.same_c
  closed_second c side2 = c.same_b

  closed_touch : {e : Edge} → Closed ours e → (v : ℕ) → touches v e ≡ true → ours v ≡ ours e.a.0
  closed_touch {e} c v t = ap ours (sym (pivot_of_lem v e t)) ∙ closed_pivot c (side_of v e)

  -- an edge of the other kind does not touch
  apart : {e : Edge} → Closed ours e → (v : ℕ) → ours v ≡ true → ours e.a.0 ≡ false → touches v e ≡ false
  apart {e} c v h k = go (touches v e) refl
    where
      go : (t : Bool) → touches v e ≡ t → t ≡ false
      go true q = absurd (true≢false (sym h ∙ closed_touch c v q ∙ k))
      go false q = refl

  apart' : {e : Edge} → Closed ours e → (v : ℕ) → ours v ≡ false → ours e.a.0 ≡ true → touches v e ≡ false
  apart' {e} c v h k = go (touches v e) refl
    where
      go : (t : Bool) → touches v e ≡ t → t ≡ false
      go true q = absurd (true≢false (sym k ∙ sym (closed_touch c v q) ∙ h))
      go false q = refl

  -- ---- at a vertex of ours
  degree_keep : (v : ℕ) → ours v ≡ true → (es : List Edge) → Each (Closed ours) es → degree v (keep ours es) ≡ degree v es
  unfolding keep degree
  degree_keep v h [] c = refl
  degree_keep v h (e ∷ es) c = go (ours e.a.0) refl (degree_keep v h es c.1)
    where
      go : (b : Bool) → ours e.a.0 ≡ b → degree v (keep ours es) ≡ degree v es → degree v (cond b (e ∷ keep ours es) (keep ours es)) ≡ bump (touches v e) (degree v es)
      go true q ih = ap (bump (touches v e)) ih
      go false q ih = rw (apart c.0 v h q) ih

  edge_at_keep : (v : ℕ) → ours v ≡ true → (es : List Edge) → Each (Closed ours) es → edge_at v (keep ours es) ≡ edge_at v es
  unfolding keep edge_at
  edge_at_keep v h [] c = refl
  edge_at_keep v h (e ∷ es) c = go (ours e.a.0) refl (edge_at_keep v h es c.1)
    where
      go : (b : Bool) → ours e.a.0 ≡ b → edge_at v (keep ours es) ≡ edge_at v es → edge_at v (cond b (e ∷ keep ours es) (keep ours es)) ≡ cond (touches v e) (some e) (edge_at v es)
      go true q ih = ap (λ (o : Option Edge). cond (touches v e) (some e) o) ih
      go false q ih = rw (apart c.0 v h q) ih

  without_keep : (v : ℕ) → ours v ≡ true → (es : List Edge) → Each (Closed ours) es → keep ours (without v es) ≡ without v (keep ours es)
  unfolding keep without
  without_keep v h [] c = refl
  without_keep v h (e ∷ es) c = go (ours e.a.0) refl (touches v e) refl (without_keep v h es c.1)
    where
      go : (b : Bool) → ours e.a.0 ≡ b → (t : Bool) → touches v e ≡ t → keep ours (without v es) ≡ without v (keep ours es)
          → keep ours (cond t es (e ∷ without v es)) ≡ without v (cond b (e ∷ keep ours es) (keep ours es))
      go true q true r ih = rw r
      go true q false r ih = rw (r, q) (ap (λ (l : List Edge). e ∷ l) ih)
      go false q true r ih = absurd (true≢false (sym r ∙ apart c.0 v h q))
      go false q false r ih = rw q ih

  push_keep : (w : ℕ) → ours w ≡ true → (es : List Edge) → Each (Closed ours) es → (st : List ℕ) → keep_v (push es w st) ≡ push (keep ours es) w (keep_v st)
  unfolding keep_v push
  push_keep w h es c st = rw (degree_keep w h es c) (go (eqb (degree w es) 2))
    where
      go : (b : Bool) → keep_v (cond b (w ∷ st) st) ≡ cond b (w ∷ keep_v st) (keep_v st)
      go true = rw h
      go false = refl

  -- ---- at a foreign vertex
  degree_foreign : (v : ℕ) → ours v ≡ false → (es : List Edge) → Each (Closed ours) es → degree v (keep ours es) ≡ 0
  unfolding keep degree
  degree_foreign v h [] c = refl
  degree_foreign v h (e ∷ es) c = go (ours e.a.0) refl (degree_foreign v h es c.1)
    where
      go : (b : Bool) → ours e.a.0 ≡ b → degree v (keep ours es) ≡ 0 → degree v (cond b (e ∷ keep ours es) (keep ours es)) ≡ 0
      go true q ih = rw (apart' c.0 v h q) ih
      go false q ih = ih

  without_foreign : (v : ℕ) → ours v ≡ false → (es : List Edge) → Each (Closed ours) es → keep ours (without v es) ≡ keep ours es
  unfolding keep without
  without_foreign v h [] c = refl
  without_foreign v h (e ∷ es) c = go (ours e.a.0) refl (touches v e) refl (without_foreign v h es c.1)
    where
      go : (b : Bool) → ours e.a.0 ≡ b → (t : Bool) → touches v e ≡ t → keep ours (without v es) ≡ keep ours es
          → keep ours (cond t es (e ∷ without v es)) ≡ cond b (e ∷ keep ours es) (keep ours es)
      go true q true r ih = absurd (true≢false (sym r ∙ apart' c.0 v h q))
      go true q false r ih = rw q (ap (λ (l : List Edge). e ∷ l) ih)
      go false q true r ih = refl
      go false q false r ih = rw q ih

  push_foreign : (w : ℕ) → ours w ≡ false → (es : List Edge) (st : List ℕ) → keep_v (push es w st) ≡ keep_v st
  unfolding keep_v push
  push_foreign w h es st = go (eqb (degree w es) 2)
    where
      go : (b : Bool) → keep_v (cond b (w ∷ st) st) ≡ keep_v st
      go true = rw h
      go false = refl

  -- ---- the start
  ones_keep : (n : ℕ) (es : List Edge) → Each (Closed ours) es → keep_v (ones n es) ≡ ones n (keep ours es)
  unfolding keep_v ones
  ones_keep zero es c = refl
  ones_keep (suc v) es c = go (ours v) refl (ones_keep v es c)
    where
      mine : (b : Bool) → ours v ≡ true → keep_v (ones v es) ≡ ones v (keep ours es)
          → keep_v (cond b (v ∷ ones v es) (ones v es)) ≡ cond b (v ∷ ones v (keep ours es)) (ones v (keep ours es))
      mine true q ih = rw q (ap (λ (l : List ℕ). v ∷ l) ih)
      mine false q ih = ih

      other : (b : Bool) → ours v ≡ false → keep_v (ones v es) ≡ ones v (keep ours es) → keep_v (cond b (v ∷ ones v es) (ones v es)) ≡ ones v (keep ours es)
      other true q ih = rw q ih
      other false q ih = ih

      go : (b : Bool) → ours v ≡ b → keep_v (ones v es) ≡ ones v (keep ours es)
          → keep_v (cond (eqb (degree v es) 1) (v ∷ ones v es) (ones v es)) ≡ cond (eqb (degree v (keep ours es)) 1) (v ∷ ones v (keep ours es)) (ones v (keep ours es))
      go true q ih = rw (degree_keep v q es c) (mine (eqb (degree v es) 1) q ih)
      go false q ih = rw (degree_foreign v q es c) (other (eqb (degree v es) 1) q ih)

  pub forget_start : (n : ℕ) (es : List Edge) → Each (Closed ours) es → forget (start n es) ≡ start n (keep ours es)
  unfolding forget start keep_p
  forget_start n es c = mk_path refl (ones_keep n es c) refl

  -- ---- a step is a step of ours, or nothing
  abbrev Echo : State → State → Type 0
  Echo s t = (forget t ≡ step (forget s)) ⊎ (forget t ≡ forget s)

  forget_step : (s : State) → Each (Closed ours) s.left → Echo s (step s)
  unfolding step forget pop popped keep_v keep_p
  forget_step s c = go s.left s.stack s.peeled c
    where
      mine : (es : List Edge) (v : ℕ) (st : List ℕ) (ps : List Peeled) (o : Option Edge) → edge_at v es ≡ o → Each (Closed ours) es → ours v ≡ true
          → forget (popped v es st ps o) ≡ popped v (keep ours es) (keep_v st) (keep_p ps) o
      mine es v st ps none h c q = refl
      mine es v st ps (some e) h c q =
          let s = side_of v e in
          let ce : Closed ours e = all_at (Closed ours) v es h c in
          let pe : ours e.a.0 ≡ true = sym (closed_touch ce v (at_touches v es h)) ∙ q in
          mk_path (without_keep v q es c)
          (push_keep (second s e) (closed_second ce s ∙ pe) es c (push es (first s e) st)
          ∙ ap (push (keep ours es) (second s e)) (push_keep (first s e) (closed_first ce s ∙ pe) es c st))
          (rw pe)

      other : (es : List Edge) (v : ℕ) (st : List ℕ) (ps : List Peeled) (o : Option Edge) → edge_at v es ≡ o → Each (Closed ours) es → ours v ≡ false
          → forget (popped v es st ps o) ≡ record { left = keep ours es; stack = keep_v st; peeled = keep_p ps }
      other es v st ps none h c q = refl
      other es v st ps (some e) h c q =
          let s = side_of v e in
          let ce : Closed ours e = all_at (Closed ours) v es h c in
          let pe : ours e.a.0 ≡ false = sym (closed_touch ce v (at_touches v es h)) ∙ q in
          mk_path (without_foreign v q es c)
          (push_foreign (second s e) (closed_second ce s ∙ pe) es (push es (first s e) st) ∙ push_foreign (first s e) (closed_first ce s ∙ pe) es st)
          (rw pe)

      pick : (es : List Edge) (v : ℕ) (st : List ℕ) (ps : List Peeled) (b : Bool) → ours v ≡ b → Each (Closed ours) es
          → Echo (record { left = es; stack = v ∷ st; peeled = ps }) (pop es (v ∷ st) ps)
      pick es v st ps true q c = inl (rw q (rw (edge_at_keep v q es c) (mine es v st ps (edge_at v es) refl c q)))
      pick es v st ps false q c = inr (rw q (other es v st ps (edge_at v es) refl c q))

      go : (es : List Edge) (st : List ℕ) (ps : List Peeled) → Each (Closed ours) es → Echo (record { left = es; stack = st; peeled = ps }) (pop es st ps)
      go es [] ps c = inr refl
      go es (v ∷ st) ps c = pick es v st ps (ours v) refl c

  closed_step : (s : State) → Each (Closed ours) s.left → Each (Closed ours) (step s).left
  unfolding popped
  closed_step = step-inv (λ s. Each (Closed ours) s.left) (λ es v st ps h c. c) (λ es v st ps e h c. all_without (Closed ours) v es c)

  -- ---- the run of all, the foreign forgotten, is the run of ours, given at least as many pops
  forget_run : (k m : ℕ) (s : State) → Each (Closed ours) s.left → (run k s).stack ≡ [] → k ≤ m → forget (run k s) ≡ run m (forget s)
  unfolding run forget keep_v
  forget_run zero m s c h l = idle s.left s.stack s.peeled h
    where
      idle : (es : List Edge) (st : List ℕ) (ps : List Peeled) → st ≡ [] → forget (record { left = es; stack = st; peeled = ps }) ≡ run m (forget (record { left = es; stack = st; peeled = ps }))
      idle es st ps q = rw q (sym (run_idle m (keep ours es) (keep_p ps)))
  forget_run (suc k) zero s c h l = absurd (omega arith)
  forget_run (suc k) (suc m) s c h l = go (forget_step s c) (forget_run k m (step s) (closed_step s c) h (omega arith)) (forget_run k (suc m) (step s) (closed_step s c) h (omega arith))
    where
      go : Echo s (step s) → forget (run k (step s)) ≡ run m (forget (step s)) → forget (run k (step s)) ≡ run m (step (forget (step s)))
          → forget (run k (step s)) ≡ run m (step (forget s))
      go (inl q) i j = i ∙ ap (run m) q
      go (inr q) i j = j ∙ ap (λ (t : State). run m (step t)) q

  pub forget_peel : (n : ℕ) (es : List Edge) → Each (Valid n) es → Each (Closed ours) es → forget (peel n es) ≡ peel n (keep ours es)
  unfolding peel start
  forget_peel n es v c = forget_run n n (start n es) c (peel_empties n es v) (omega arith) ∙ ap (run n) (forget_start n es c)

  -- ---- filling
  abbrev Agree : List ℕ → List ℕ → Type 0
  Agree x y = (w : ℕ) → ours w ≡ true → get_or x w 0 ≡ get_or y w 0

  agree_set : (x y : List ℕ) (v a : ℕ) → length x ≡ length y → Agree x y → Agree (set x v a) (set y v a)
  agree_set x y v a l h w o = go (eqb w v) refl (ltb v (length x)) refl
    where
      go : (b : Bool) → eqb w v ≡ b → (c : Bool) → ltb v (length x) ≡ c → get_or (set x v a) w 0 ≡ get_or (set y v a) w 0
      go true p true q =
          let i : v < length x = ltb-true v (length x) q in
          rw (eqb-true w v p) (get_or-set_same x v a 0 i ∙ sym (get_or-set_same y v a 0 (omega arith)))
      go true p false q =
          let i : length x ≤ v = ltb-false v (length x) q in
          rw (set_out x v a i, set_out y v a (omega arith)) (h w o)
      go false p c q = get_or-set_other x v w a 0 (eqb-false w v p) ∙ h w o ∙ sym (get_or-set_other y v w a 0 (eqb-false w v p))

  agree_off : (x y : List ℕ) (v a : ℕ) → ours v ≡ false → Agree x y → Agree (set x v a) y
  agree_off x y v a q h w o = get_or-set_other x v w a 0 (λ k. true≢false (sym o ∙ ap ours k ∙ q)) ∙ h w o

  -- our cells are filled by our edges
  fill_keep : (ps : List Peeled) (x y : List ℕ) → Each (Closed ours) (edges_of ps) → length x ≡ length y → Agree x y → Agree (fill ps x) (fill (keep_p ps) y)
  unfolding fill fill_one keep_p
  fill_keep [] x y c l h = h
  fill_keep (p ∷ ps) x y c l h = go (ours p.edge.a.0) refl (fill_keep ps)
    where
      e : Edge
      e = p.edge

      s : Side
      s = p.side

      put : List ℕ → ℕ
      put z = bit_xor e.value (bit_xor (get_or z (first s e) 0) (get_or z (second s e) 0))

      same : ours e.a.0 ≡ true → put x ≡ put y
      same q = rw (h (first s e) (closed_first c.0 s ∙ q), h (second s e) (closed_second c.0 s ∙ q))

      go : (b : Bool) → ours e.a.0 ≡ b
          → ((x y : List ℕ) → Each (Closed ours) (edges_of ps) → length x ≡ length y → Agree x y → Agree (fill ps x) (fill (keep_p ps) y))
          → Agree (fill ps (fill_one p x)) (fill (cond b (p ∷ keep_p ps) (keep_p ps)) y)
      go true q ih = ih (fill_one p x) (fill_one p y) c.1 (simp length-set l)
          (rw (← same q) (agree_set x y (pivot s e) (put x) l h))
      go false q ih = ih (fill_one p x) y c.1 (simp length-set l) (agree_off x y (pivot s e) (put x) (closed_pivot c.0 s ∙ q) h)

-- I
pub isolated : (ours : ℕ → Bool) (n : ℕ) (A B : List Edge) (x y : List ℕ)
    → Each (Valid n) A → Each (Valid n) B → Each (Closed ours) A → Each (Closed ours) B → keep ours A ≡ keep ours B
    → answer n A ≡ solved x → answer n B ≡ solved y
    → (w : ℕ) → ours w ≡ true → get_or x w 0 ≡ get_or y w 0
unfolding forget
isolated ours n A B x y va vb ca cb same ha hb w o =
    let a = cells A x va ca ha in
    let b = cells B y vb cb hb in
    a ∙ rw same refl ∙ sym b
  where
    cells : (E : List Edge) (z : List ℕ) → Each (Valid n) E → Each (Closed ours) E → answer n E ≡ solved z
        → get_or z w 0 ≡ get_or (fill (peel n (keep ours E)).peeled (replicate n 0)) w 0
    cells E z v c h =
        let c' = peel_all (Closed ours) n E c in
        let k = fill_keep ours (peel n E).peeled (replicate n 0) (replicate n 0) c'.gone refl (λ w o. refl) w o in
        rw (solved_is n E h).1 (k ∙ ap (λ (s : State). get_or (fill s.peeled (replicate n 0)) w 0) (forget_peel ours n E v c))
