-- What remains at the end is the core.
use mathlib.Core.Path.{◌≡◌, refl, sym, ap, ◌∙◌}
use mathlib.Core.List.Memᴰ
use mathlib.Core.List.{List, [], ◌∷◌, Memᴰ}
use mathlib.Core.Bool.{Bool, true, false, cond, true≢false}
use mathlib.Core.Option.{none, some}
use mathlib.Core.Logic.{◌≢◌, ◌⊎◌, inl, inr}
use Prim.Native.Nat.{ℕ, zero, suc, ◌+◌, ◌-◌, ◌≤◌, ◌<◌}
use native.Mathlib.Omega.{arith}
use lib.ListN.{length, replicate}
use lib.Dec.{eqb}
use borrow.Author.Tests.{eqb-true, eqb-false, eq-eqb}
use Rattle.peel_rules.specs.Peel.{Peeled, State, push, popped, ones, start, peel, fill, solved, stuck, verdict, answer}
use Rattle.peel_rules.proofs.PeelBasic.{bump_le, pivot_of_lem, at_touches, degree_split, at_none, step-inv, run-inv}
use Rattle.peel_rules.proofs.PeelSolved.{Inv, falls_one, inv_skip, inv_takes, start_inv}
use Rattle.peel_rules.proofs.PeelEmpty.{peel_empties}
use Rattle.gf2.specs.Equation.{Each}
use Rattle.peel_rules.specs.Core.{Tight, pick, Within, Core}
use Rattle.peel_rules.specs.Edges.{Valid, touches, bump, degree, edge_at, without, Side, side0, side1, side2, side_of, pivot, first, second}
use Rattle.peeling.specs.declared.numbers.Edge.{Edge}

-- ---- every vertex of degree 1 is on the stack
Ready : List Edge → List ℕ → Type 0
Ready es st = (w : ℕ) → degree w es ≡ 1 → Memᴰ w st

-- the three vertices of an edge, from a side
pub vertex : (s : Side) (w : ℕ) (e : Edge) → touches w e ≡ true → (w ≡ pivot s e) ⊎ ((w ≡ first s e) ⊎ (w ≡ second s e))
unfolding pivot first second
vertex s w e t = go s (side_of w e) (pivot_of_lem w e t)
  where
    go : (s r : Side) → pivot r e ≡ w → (w ≡ pivot s e) ⊎ ((w ≡ first s e) ⊎ (w ≡ second s e))
    go side0 side0 q = inl (sym q)
    go side0 side1 q = inr (inl (sym q))
    go side0 side2 q = inr (inr (sym q))
    go side1 side0 q = inr (inl (sym q))
    go side1 side1 q = inl (sym q)
    go side1 side2 q = inr (inr (sym q))
    go side2 side0 q = inr (inl (sym q))
    go side2 side1 q = inr (inr (sym q))
    go side2 side2 q = inl (sym q)

mem_push : (es : List Edge) (u w : ℕ) (st : List ℕ) → Memᴰ w st → Memᴰ w (push es u st)
unfolding push
mem_push es u w st m = go (eqb (degree u es) 2)
  where
    go : (b : Bool) → Memᴰ w (cond b (u ∷ st) st)
    go true = Memᴰ.tail m
    go false = m

push_mem : (es : List Edge) (w : ℕ) (st : List ℕ) → degree w es ≡ 2 → Memᴰ w (push es w st)
unfolding push
push_mem es w st h = rw (eq-eqb (degree w es) 2 h) (Memᴰ.head refl)

ready_skip : (es : List Edge) (v : ℕ) (st : List ℕ) → edge_at v es ≡ none → Ready es (v ∷ st) → Ready es st
unfolding Ready
ready_skip es v st h r w d = go (Memᴰ.cases_cons (r w d))
  where
    go : (w ≡ v) ⊎ Memᴰ w st → Memᴰ w st
    go (inl q) = absurd (omega (arith, at_none v es h, ap (λ (z : ℕ). degree z es) q))
    go (inr m) = m

ready_takes : (es : List Edge) (v : ℕ) (st : List ℕ) (e : Edge) → edge_at v es ≡ some e → degree v es ≤ 1 → Ready es (v ∷ st)
    → Ready (without v es) (push es (second (side_of v e) e) (push es (first (side_of v e) e) st))
unfolding Ready
ready_takes es v st e h low r w d = go (touches w e) refl
  where
    s : Side
    s = side_of v e

    fs : List Edge
    fs = without v es

    res : Type 0
    res = Memᴰ w (push es (second s e) (push es (first s e) st))

    tv : touches v e ≡ true
    tv = at_touches v es h

    old : Memᴰ w st → res
    old m = mem_push es (second s e) w (push es (first s e) st) (mem_push es (first s e) w st m)

    rest : touches w e ≡ false → (w ≡ v) ⊎ Memᴰ w st → res
    rest t (inl q) = absurd (true≢false (sym tv ∙ sym (ap (λ (z : ℕ). touches z e) q) ∙ t))
    rest t (inr m) = old m

    new : degree w es ≡ 2 → (w ≡ pivot s e) ⊎ ((w ≡ first s e) ⊎ (w ≡ second s e)) → res
    new t (inl q) = absurd (omega (arith, ap (λ (z : ℕ). degree z es) (q ∙ pivot_of_lem v e tv)))
    new t (inr (inl q)) = mem_push es (second s e) w (push es (first s e) st) (rw (← q) (push_mem es w st t))
    new t (inr (inr q)) = rw (← q) (push_mem es w (push es (first s e) st) t)

    go : (b : Bool) → touches w e ≡ b → res
    go true t = new (omega (arith, falls_one v es h w t)) (vertex s w e t)
    go false t = rest t (Memᴰ.cases_cons (r w (degree_split v es h w ∙ ap (λ (b : Bool). bump b (degree w fs)) t ∙ d)))

-- a vertex that is touched is below n
pub touched_below : (n w : ℕ) (es : List Edge) → Each (Valid n) es → 0 < degree w es → w < n
unfolding degree pivot
touched_below n w [] v h = absurd (omega arith)
touched_below n w (e ∷ es) v h = go (touches w e) refl (touched_below n w es v.1) h
  where
    at : (s : Side) → pivot s e ≡ w → w < n
    at side0 q = rw (← q) v.0.a<
    at side1 q = rw (← q) v.0.b<
    at side2 q = rw (← q) v.0.c<

    go : (b : Bool) → touches w e ≡ b → (0 < degree w es → w < n) → 0 < bump b (degree w es) → w < n
    go true t ih g = at (side_of w e) (pivot_of_lem w e t)
    go false t ih g = ih g

ones_mem : (n w : ℕ) (es : List Edge) → degree w es ≡ 1 → w < n → Memᴰ w (ones n es)
unfolding ones
ones_mem zero w es d h = absurd (omega arith)
ones_mem (suc v) w es d h = go (eqb w v) refl (eqb (degree v es) 1) refl (ones_mem v w es d)
  where
    go : (b : Bool) → eqb w v ≡ b → (c : Bool) → eqb (degree v es) 1 ≡ c → (w < v → Memᴰ w (ones v es)) → Memᴰ w (cond c (v ∷ ones v es) (ones v es))
    go true p true q ih = Memᴰ.head (eqb-true w v p)
    go true p false q ih = absurd (eqb-false (degree v es) 1 q (ap (λ (z : ℕ). degree z es) (sym (eqb-true w v p)) ∙ d))
    go false p true q ih = let ne : w ≢ v = eqb-false w v p in Memᴰ.tail (ih (omega arith))
    go false p false q ih = let ne : w ≢ v = eqb-false w v p in ih (omega arith)

-- ---- sets of edges
-- v's first edge is taken out of the set
off : ℕ → List Bool → List Edge → List Bool
off v [] es = []
off v (b ∷ bs) [] = b ∷ bs
off v (true ∷ bs) (e ∷ es) = cond (touches v e) (false ∷ bs) (true ∷ off v bs es)
off v (false ∷ bs) (e ∷ es) = false ∷ off v bs es

pick_off : (v : ℕ) (bs : List Bool) (es : List Edge) → pick (off v bs es) es ≡ without v (pick bs es)
unfolding off pick without
pick_off v [] es = refl
pick_off v (b ∷ bs) [] = refl
pick_off v (true ∷ bs) (e ∷ es) = go (touches v e) (pick_off v bs es)
  where
    go : (t : Bool) → pick (off v bs es) es ≡ without v (pick bs es)
        → pick (cond t (false ∷ bs) (true ∷ off v bs es)) (e ∷ es) ≡ cond t (pick bs es) (e ∷ without v (pick bs es))
    go true ih = refl
    go false ih = ap (λ (l : List Edge). e ∷ l) ih
pick_off v (false ∷ bs) (e ∷ es) = pick_off v bs es

off_length : (v : ℕ) (bs : List Bool) (es : List Edge) → length (off v bs es) ≡ length bs
unfolding off
off_length v [] es = refl
off_length v (b ∷ bs) [] = refl
off_length v (true ∷ bs) (e ∷ es) = go (touches v e) (off_length v bs es)
  where
    go : (t : Bool) → length (off v bs es) ≡ length bs → length (cond t (false ∷ bs) (true ∷ off v bs es)) ≡ suc (length bs)
    go true ih = refl
    go false ih = ap suc ih
off_length v (false ∷ bs) (e ∷ es) = ap suc (off_length v bs es)

-- the degrees in a set are at most those in a larger set
pub within_degree : (v : ℕ) (ms bs : List Bool) (es : List Edge) → Within ms bs → degree v (pick ms es) ≤ degree v (pick bs es)
unfolding pick degree
within_degree v [] bs es w = omega arith
within_degree v (m ∷ ms) [] es w = absurd w
within_degree v (m ∷ ms) (b ∷ bs) [] w = omega arith
within_degree v (m ∷ ms) (b ∷ bs) (e ∷ es) w = go m b w.0 (within_degree v ms bs es w.1)
  where
    up : (t : Bool) (i j : ℕ) → i ≤ j → bump t i ≤ bump t j
    up true i j h = omega arith
    up false i j h = h

    go : (m b : Bool) → (m ≡ true → b ≡ true) → degree v (pick ms es) ≤ degree v (pick bs es) → degree v (cond m (e ∷ pick ms es) (pick ms es)) ≤ degree v (cond b (e ∷ pick bs es) (pick bs es))
    go true true q ih = up (touches v e) (degree v (pick ms es)) (degree v (pick bs es)) ih
    go true false q ih = absurd (true≢false (sym (q refl)))
    go false true q ih = omega (arith, bump_le (touches v e) (degree v (pick bs es)))
    go false false q ih = ih

-- a set in which v is not touched keeps within
pub zero_parts : (v : ℕ) (e : Edge) (l : List Edge) (m : Bool) → degree v (cond m (e ∷ l) l) ≡ 0 → (degree v l ≡ 0) × (m ≡ true → touches v e ≡ false)
unfolding degree
zero_parts v e l false h = (h, λ q. absurd (true≢false (sym q)))
zero_parts v e l true h = go (touches v e) refl h
  where
    go : (t : Bool) → touches v e ≡ t → bump t (degree v l) ≡ 0 → (degree v l ≡ 0) × (true ≡ true → touches v e ≡ false)
    go true q g = absurd (omega arith)
    go false q g = (g, λ _. q)

within_off : (v : ℕ) (ms bs : List Bool) (es : List Edge) → Within ms bs → degree v (pick ms es) ≡ 0 → Within ms (off v bs es)
unfolding pick off
within_off v [] [] es w d = tt
within_off v [] (b ∷ bs) es w d = absurd w
within_off v (m ∷ ms) [] es w d = absurd w
within_off v (m ∷ ms) (b ∷ bs) [] w d = w
within_off v (m ∷ ms) (false ∷ bs) (e ∷ es) w d = (w.0, within_off v ms bs es w.1 (zero_parts v e (pick ms es) m d).0)
within_off v (m ∷ ms) (true ∷ bs) (e ∷ es) w d = go (touches v e) refl (within_off v ms bs es w.1 z.0)
  where
    z : (degree v (pick ms es) ≡ 0) × (m ≡ true → touches v e ≡ false)
    z = zero_parts v e (pick ms es) m d

    go : (t : Bool) → touches v e ≡ t → Within ms (off v bs es) → Within (m ∷ ms) (cond t (false ∷ bs) (true ∷ off v bs es))
    go true q ih = (λ k. absurd (true≢false (sym q ∙ z.1 k)), w.1)
    go false q ih = (λ _. refl, ih)

-- every edge
every : List Edge → List Bool
every [] = []
every (e ∷ es) = true ∷ every es

every_length : (es : List Edge) → length (every es) ≡ length es
unfolding every
every_length [] = refl
every_length (e ∷ es) = ap suc (every_length es)

pick_every : (es : List Edge) → pick (every es) es ≡ es
unfolding every pick
pick_every [] = refl
pick_every (e ∷ es) = ap (λ (l : List Edge). e ∷ l) (pick_every es)

within_every : (bs : List Bool) (es : List Edge) → length bs ≡ length es → Within bs (every es)
unfolding every
within_every [] [] h = tt
within_every [] (e ∷ es) h = absurd (omega arith)
within_every (b ∷ bs) [] h = absurd (omega arith)
within_every (b ∷ bs) (e ∷ es) h = (λ _. refl, within_every bs es (omega arith))

-- ---- what the run keeps, beside `Inv`
pub without_length : (v : ℕ) (es : List Edge) {e : Edge} → edge_at v es ≡ some e → length es ≡ suc (length (without v es))
unfolding edge_at without
without_length v [] h = cc
without_length v (d ∷ es) {e} h = go (touches v d) (without_length v es) h
  where
    go : (t : Bool) → (edge_at v es ≡ some e → length es ≡ suc (length (without v es))) → cond t (some d) (edge_at v es) ≡ some e
        → suc (length es) ≡ suc (length (cond t es (d ∷ without v es)))
    go true ih g = refl
    go false ih g = ap suc (ih g)

pub tight_zero : (d : ℕ) → d ≤ 1 → (0 < d → 2 ≤ d) → d ≡ 0
tight_zero zero h t = refl
tight_zero (suc d) h t = absurd (omega (arith, t (omega arith)))

record Outline (n : ℕ) (es : List Edge) (s : State) : Type 0 where
  inv : Inv n s
  ready : Ready s.left s.stack
  core : List Bool
  size : length core ≡ length es
  is : s.left ≡ pick core es
  largest : (bs : List Bool) → length bs ≡ length es → Tight (pick bs es) → Within bs core
  count : length s.peeled + length s.left ≡ length es

outline_skip : (n : ℕ) (all : List Edge) (es : List Edge) (v : ℕ) (st : List ℕ) (ps : List Peeled) → edge_at v es ≡ none
    → Outline n all (record { left = es; stack = v ∷ st; peeled = ps }) → Outline n all (record { left = es; stack = st; peeled = ps })
outline_skip n all es v st ps h o = record {
  inv = inv_skip n es v st ps o.inv;
  ready = ready_skip es v st h o.ready;
  core = o.core;
  size = o.size;
  is = o.is;
  largest = o.largest;
  count = o.count;
}

outline_takes : (n : ℕ) (all : List Edge) (es : List Edge) (v : ℕ) (st : List ℕ) (ps : List Peeled) (e : Edge) → edge_at v es ≡ some e
    → Outline n all (record { left = es; stack = v ∷ st; peeled = ps }) → Outline n all (popped v es st ps (some e))
unfolding popped
outline_takes n all es v st ps e h o = record {
  inv = inv_takes n es v st ps e h o.inv;
  ready = ready_takes es v st e h o.inv.low.0 o.ready;
  core = off v o.core all;
  size = off_length v o.core all ∙ o.size;
  is = ap (without v) o.is ∙ sym (pick_off v o.core all);
  largest = λ bs k t. within_off v bs o.core all (o.largest bs k t) (tight_zero (degree v (pick bs all)) (small bs (o.largest bs k t)) (t v));
  count = omega (arith, without_length v es h, o.count);
}
  where
    small : (bs : List Bool) → Within bs o.core → degree v (pick bs all) ≤ 1
    small bs w = omega (arith, within_degree v bs o.core all w, ap (degree v) o.is, o.inv.low.0)

peel_outline : (n : ℕ) (es : List Edge) → Each (Valid n) es → Outline n es (peel n es)
unfolding peel start Ready
peel_outline n es v = run-inv (Outline n es) (step-inv (Outline n es) (outline_skip n es) (outline_takes n es)) n (start n es) (record {
  inv = start_inv n es v;
  ready = λ w d. ones_mem n w es d (touched_below n w es v (omega arith));
  core = every es;
  size = every_length es;
  is = sym (pick_every es);
  largest = λ bs k t. within_every bs es k;
  count = omega arith;
})

-- K: what remains is the core, and the others are peeled
pub record Ends (n : ℕ) (es : List Edge) : Type 0 where
  pub core : List Bool
  pub is_core : Core es core
  pub left : (peel n es).left ≡ pick core es
  pub count : length (peel n es).peeled + length (pick core es) ≡ length es

pub peel_ends : (n : ℕ) (es : List Edge) → Each (Valid n) es → Ends n es
unfolding Ready
peel_ends n es v =
    let o = peel_outline n es v in
    record {
      core = o.core;
      is_core = record { size = o.size; tight = rw (← o.is) tight; largest = o.largest };
      left = o.is;
      count = rw o.is at o.count;
    }
  where
    two : (d : ℕ) → d ≢ 1 → 0 < d → 2 ≤ d
    two d h p = omega arith

    tight : Tight (peel n es).left
    tight w = two (degree w (peel n es).left) (λ q. Memᴰ.not-nil (rw (peel_empties n es v) at ((peel_outline n es v).ready w q)))

-- there is one core
within_antisym : (bs cs : List Bool) → Within bs cs → Within cs bs → bs ≡ cs
within_antisym [] [] p q = refl
within_antisym [] (c ∷ cs) p q = absurd p
within_antisym (b ∷ bs) [] p q = absurd p
within_antisym (b ∷ bs) (c ∷ cs) p q = go b c p.0 q.0 (within_antisym bs cs p.1 q.1)
  where
    go : (b c : Bool) → (b ≡ true → c ≡ true) → (c ≡ true → b ≡ true) → bs ≡ cs → b ∷ bs ≡ c ∷ cs
    go true true f g ih = ap (λ (l : List Bool). true ∷ l) ih
    go true false f g ih = absurd (true≢false (sym (f refl)))
    go false true f g ih = absurd (true≢false (sym (g refl)))
    go false false f g ih = ap (λ (l : List Bool). false ∷ l) ih

pub core_unique : (es : List Edge) (bs cs : List Bool) → Core es bs → Core es cs → bs ≡ cs
core_unique es bs cs p q = within_antisym bs cs (q.largest bs p.size p.tight) (p.largest cs q.size q.tight)

-- the answer by the core: solved exactly when it is empty, stuck with the number of the edges outside of it
pub answer_solved : (n : ℕ) (es : List Edge) (core : List Bool) → Each (Valid n) es → Core es core → pick core es ≡ []
    → answer n es ≡ solved (fill (peel n es).peeled (replicate n 0))
unfolding answer verdict
answer_solved n es core v c z =
    let k = peel_ends n es v in
    rw (k.left, core_unique es k.core core k.is_core c, z)

pub answer_stuck : (n : ℕ) (es : List Edge) (core : List Bool) → Each (Valid n) es → Core es core → pick core es ≢ []
    → answer n es ≡ stuck (length es - length (pick core es))
unfolding answer verdict
answer_stuck n es core v c z = go (pick core es) refl
  where
    k : Ends n es
    k = peel_ends n es v

    same : (peel n es).left ≡ pick core es
    same = k.left ∙ ap (λ (b : List Bool). pick b es) (core_unique es k.core core k.is_core c)

    sum : length (peel n es).peeled ≡ length es - length (pick core es)
    sum = omega (arith, k.count, ap length k.left, ap length same)

    go : (l : List Edge) → pick core es ≡ l → answer n es ≡ stuck (length es - length (pick core es))
    go [] q = absurd (z q)
    go (e ∷ l) q = rw (same ∙ q) (ap stuck sum)
