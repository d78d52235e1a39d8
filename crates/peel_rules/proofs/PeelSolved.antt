-- A solved answer meets every edge.
use mathlib.Core.Path.{◌≡◌, refl, sym, ap, ◌∙◌}
use mathlib.Core.List.{List, [], ◌∷◌, map}
use mathlib.Core.Bool.{Bool, true, false, cond, true≢false}
use mathlib.Core.Option.{some}
use mathlib.Core.Logic.{◌≢◌}
use Prim.Native.Nat.{ℕ, zero, suc, ◌≤◌}
use native.Mathlib.Omega.{arith}
use lib.ListN.{length, get_or, set, replicate, length-set, length-replicate}
use lib.Seq.{get_or-set_same, get_or-set_other}
use lib.Bits.{bit_xor}
use lib.Dec.{eqb}
use borrow.Author.Tests.{eqb-true}
use Rattle.peel_rules.specs.Peel.{Peeled, State, push, popped, step, ones, start, peel, edge_xor, Met, fill_one, fill, solved, verdict, answer}
use Rattle.peel_rules.proofs.PeelBasic.{bump_le, pivot_of_lem, touches_a, touches_b, touches_c, touches_first, touches_second, at_touches, degree_split, all_at, all_without, all_back, step-inv, run-inv}
use Rattle.gf2.proofs.XorLaws.{xor_laws}
use Rattle.gf2.specs.Equation.{Each}
use Rattle.peel_rules.specs.Edges.{Valid, touches, bump, degree, edge_at, without, Side, side0, side1, side2, side_of, pivot, first, second}
use Rattle.peeling.specs.declared.numbers.Edge.{Edge}

-- ---- filling one edge
ne_sym : {i j : ℕ} → i ≢ j → j ≢ i
ne_sym h q = h (sym q)

mid : (v a c : ℕ) → bit_xor a (bit_xor (bit_xor v (bit_xor a c)) c) ≡ v
mid v a c = simp xor_laws

last : (v a b : ℕ) → bit_xor a (bit_xor b (bit_xor v (bit_xor a b))) ≡ v
last v a b = simp xor_laws

fill_met_one : (n : ℕ) (s : Side) (e : Edge) (x : List ℕ) → length x ≡ n → Valid n e → Met (fill_one (record { edge = e; side = s }) x) e
unfolding edge_xor fill_one pivot first second
fill_met_one n side0 e x h v =
    rw (get_or-set_same x e.a.0 _ 0 (omega arith), get_or-set_other x e.a.0 e.b.0 _ 0 (ne_sym v.a≢b), get_or-set_other x e.a.0 e.c.0 _ 0 (ne_sym v.a≢c))
    (simp xor_laws)
fill_met_one n side1 e x h v =
    rw (get_or-set_same x e.b.0 _ 0 (omega arith), get_or-set_other x e.b.0 e.a.0 _ 0 v.a≢b, get_or-set_other x e.b.0 e.c.0 _ 0 (ne_sym v.b≢c))
    (mid e.value (get_or x e.a.0 0) (get_or x e.c.0 0))
fill_met_one n side2 e x h v =
    rw (get_or-set_same x e.c.0 _ 0 (omega arith), get_or-set_other x e.c.0 e.a.0 _ 0 v.a≢c, get_or-set_other x e.c.0 e.b.0 _ 0 v.b≢c)
    (last e.value (get_or x e.a.0 0) (get_or x e.b.0 0))

-- a cell that an edge does not touch
untouched : (v : ℕ) (e : Edge) (x : List ℕ) (y : ℕ) → touches v e ≡ false → edge_xor (set x v y) e ≡ edge_xor x e
unfolding edge_xor
untouched v e x y h = rw (get_or-set_other x v e.a.0 y 0 (off e.a.0 (touches_a e)), get_or-set_other x v e.b.0 y 0 (off e.b.0 (touches_b e)), get_or-set_other x v e.c.0 y 0 (off e.c.0 (touches_c e)))
  where
    off : (w : ℕ) → touches w e ≡ true → w ≢ v
    off w t q = true≢false (sym t ∙ ap (λ (z : ℕ). touches z e) q ∙ h)

all_untouched : (v : ℕ) (x : List ℕ) (y : ℕ) (es : List Edge) → degree v es ≡ 0 → Each (Met x) es → Each (Met (set x v y)) es
unfolding degree
all_untouched v x y [] h m = tt
all_untouched v x y (e ∷ es) h m = go (touches v e) refl (all_untouched v x y es) h
  where
    go : (t : Bool) → touches v e ≡ t → (degree v es ≡ 0 → Each (Met x) es → Each (Met (set x v y)) es) → bump t (degree v es) ≡ 0 → Each (Met (set x v y)) (e ∷ es)
    go true q ih g = absurd (omega arith)
    go false q ih g = (untouched v e x y q ∙ m.0, ih g m.1)

-- ---- what the run keeps
-- the stack's vertices have degree 0 or 1
abbrev pub Low : List Edge → List ℕ → Type 0
Low es [] = Unit {0}
Low es (v ∷ st) = (degree v es ≤ 1) × Low es st

-- from the vertex of each peeled edge, no edge that was left then can be seen
abbrev pub Good : ℕ → List Edge → List Peeled → Type 0
Good n es [] = Unit {0}
Good n es (p ∷ ps) = Valid n p.edge × (degree (pivot p.side p.edge) es ≡ 0) × Good n (p.edge ∷ es) ps

pub record Inv (n : ℕ) (s : State) : Type 0 where
  pub valid : Each (Valid n) s.left
  pub low : Low s.left s.stack
  pub good : Good n s.left s.peeled

low_mono : (es fs : List Edge) → ((w : ℕ) → degree w fs ≤ degree w es) → (st : List ℕ) → Low es st → Low fs st
low_mono es fs h [] l = tt
low_mono es fs h (v ∷ st) l = (omega (arith, h v), low_mono es fs h st l.1)

good_cong : (n : ℕ) (ps : List Peeled) (es fs : List Edge) → ((w : ℕ) → degree w es ≡ degree w fs) → Good n es ps → Good n fs ps
unfolding degree
good_cong n [] es fs h g = tt
good_cong n (p ∷ ps) es fs h g = (g.0, sym (h _) ∙ g.1, good_cong n ps (p.edge ∷ es) (p.edge ∷ fs) (λ w. ap (bump (touches w p.edge)) (h w)) g.2)

-- what a removal does to the degrees
module _ (v : ℕ) (es : List Edge) {e : Edge} (h : edge_at v es ≡ some e) where
  pub falls : (w : ℕ) → degree w (without v es) ≤ degree w es
  falls w = rw (degree_split v es h w) (bump_le (touches w e) (degree w (without v es)))

  pub falls_one : (w : ℕ) → touches w e ≡ true → degree w es ≡ suc (degree w (without v es))
  falls_one w t = degree_split v es h w ∙ ap (λ (b : Bool). bump b (degree w (without v es))) t

  pub push_low : (w : ℕ) (st : List ℕ) → touches w e ≡ true → Low (without v es) st → Low (without v es) (push es w st)
  unfolding push
  push_low w st t l = go (eqb (degree w es) 2) refl
    where
      go : (b : Bool) → eqb (degree w es) 2 ≡ b → Low (without v es) (cond b (w ∷ st) st)
      go true q = (omega (arith, falls_one w t, eqb-true (degree w es) 2 q), l)
      go false q = l

pub inv_skip : (n : ℕ) (es : List Edge) (v : ℕ) (st : List ℕ) (ps : List Peeled)
    → Inv n (record { left = es; stack = v ∷ st; peeled = ps }) → Inv n (record { left = es; stack = st; peeled = ps })
inv_skip n es v st ps i = record { valid = i.valid; low = i.low.1; good = i.good }

pub inv_takes : (n : ℕ) (es : List Edge) (v : ℕ) (st : List ℕ) (ps : List Peeled) (e : Edge) → edge_at v es ≡ some e
    → Inv n (record { left = es; stack = v ∷ st; peeled = ps }) → Inv n (popped v es st ps (some e))
unfolding popped degree
inv_takes n es v st ps e h i =
    let sd = side_of v e in
    let t : touches v e ≡ true = at_touches v es h in
    let d : degree v es ≤ 1 = i.low.0 in
    let z : degree v (without v es) ≡ 0 = omega (arith, falls_one v es h v t) in
    let l : Low (without v es) st = low_mono es (without v es) (falls v es h) st i.low.1 in
    record {
      valid = all_without (Valid n) v es i.valid;
      low = push_low v es h (second sd e) (push es (first sd e) st) (touches_second sd e) (push_low v es h (first sd e) st (touches_first sd e) l);
      good = (all_at (Valid n) v es h i.valid, rw (pivot_of_lem v e t) z, good_cong n ps es (e ∷ without v es) (degree_split v es h) i.good);
    }

pub inv_step : (n : ℕ) (s : State) → Inv n s → Inv n (step s)
inv_step n = step-inv (Inv n) (λ es v st ps h i. inv_skip n es v st ps i) (inv_takes n)

ones_low : (n : ℕ) (es : List Edge) → Low es (ones n es)
unfolding ones
ones_low zero es = tt
ones_low (suc v) es = go (eqb (degree v es) 1) refl (ones_low v es)
  where
    go : (b : Bool) → eqb (degree v es) 1 ≡ b → Low es (ones v es) → Low es (cond b (v ∷ ones v es) (ones v es))
    go true q l = (omega (arith, eqb-true (degree v es) 1 q), l)
    go false q l = l

pub start_inv : (n : ℕ) (es : List Edge) → Each (Valid n) es → Inv n (start n es)
unfolding start
start_inv n es v = record { valid = v; low = ones_low n es; good = tt }

pub peel_inv : (n : ℕ) (es : List Edge) → Each (Valid n) es → Inv n (peel n es)
unfolding peel
peel_inv n es v = run-inv (Inv n) (inv_step n) n (start n es) (start_inv n es v)

-- ---- a statement about each edge goes with the run, both ways
abbrev pub edges_of : List Peeled → List Edge
edges_of ps = map (λ (p : Peeled). p.edge) ps

module _ (Q : Edge → Type 0) where
  pub record Both (s : State) : Type 0 where
    pub left : Each Q s.left
    pub gone : Each Q (edges_of s.peeled)

  -- forward: of all, so of those that remain and of those peeled
  pub peel_all : (n : ℕ) (es : List Edge) → Each Q es → Both (peel n es)
  unfolding peel start popped
  peel_all n es q = run-inv Both (step-inv Both (λ fs v st ps h b. record { left = b.left; gone = b.gone }) (λ fs v st ps e h b. record { left = all_without Q v fs b.left; gone = (all_at Q v fs h b.left, b.gone) })) n (start n es) (record { left = q; gone = tt })

  -- back: of those that remain and of those peeled, so of all
  Back : List Edge → State → Type 0
  Back es s = Both s → Each Q es

  pub peel_back : (n : ℕ) (es : List Edge) → Both (peel n es) → Each Q es
  unfolding peel start popped Back
  peel_back n es = run-inv (Back es) (step-inv (Back es) (λ fs v st ps h k b. k (record { left = b.left; gone = b.gone })) (λ fs v st ps e h k b. k (record { left = all_back Q v fs h b.gone.0 b.left; gone = b.gone.1 }))) n (start n es) (λ b. b.left)

-- ---- the filling
pub fill_length : (ps : List Peeled) (x : List ℕ) → length (fill ps x) ≡ length x
unfolding fill fill_one
fill_length [] x = refl
fill_length (p ∷ ps) x = fill_length ps (fill_one p x) ∙ simp length-set

fill_met : (n : ℕ) (ps : List Peeled) (es : List Edge) (x : List ℕ) → length x ≡ n → Good n es ps → Each (Met x) es
    → Each (Met (fill ps x)) es × Each (Met (fill ps x)) (edges_of ps)
unfolding fill fill_one
fill_met n [] es x h g m = (m, tt)
fill_met n (p ∷ ps) es x h g m = go (fill_met n ps (p.edge ∷ es) (fill_one p x) len g.2 (fill_met_one n p.side p.edge x h g.0, others))
  where
    len : length (fill_one p x) ≡ n
    len = simp length-set h

    others : Each (Met (fill_one p x)) es
    others = all_untouched (pivot p.side p.edge) x _ es g.1 m

    go : Each (Met (fill ps (fill_one p x))) (p.edge ∷ es) × Each (Met (fill ps (fill_one p x))) (edges_of ps)
        → Each (Met (fill ps (fill_one p x))) es × Each (Met (fill ps (fill_one p x))) (edges_of (p ∷ ps))
    go r = (r.0.1, (r.0.0, r.1))

-- S
pub record Solution (n : ℕ) (es : List Edge) (x : List ℕ) : Type 0 where
  pub size : length x ≡ n
  pub meets : Each (Met x) es

-- what a solved answer is
pub solved_is : (n : ℕ) (es : List Edge) {x : List ℕ} → answer n es ≡ solved x → ((peel n es).left ≡ []) × (x ≡ fill (peel n es).peeled (replicate n 0))
unfolding answer verdict
solved_is n es {x} h = go (peel n es).left refl h
  where
    go : (l : List Edge) → (peel n es).left ≡ l → verdict n l (peel n es).peeled ≡ solved x → ((peel n es).left ≡ []) × (x ≡ fill (peel n es).peeled (replicate n 0))
    go [] q g = (q, cc)
    go (e ∷ l) q g = absurd cc

pub answer_solves : (n : ℕ) (es : List Edge) (x : List ℕ) → Each (Valid n) es → answer n es ≡ solved x → Solution n es x
answer_solves n es x v h =
    let r = solved_is n es h in
    let i = peel_inv n es v in
    let g : Good n [] (peel n es).peeled = rw r.0 at i.good in
    let f = fill_met n (peel n es).peeled [] (replicate n 0) (length-replicate n 0) g tt in
    record {
      size = rw r.1 (fill_length (peel n es).peeled (replicate n 0) ∙ length-replicate n 0);
      meets = peel_back (Met x) n es (record { left = rw r.0 tt; gone = rw r.1 f.1 });
    }
