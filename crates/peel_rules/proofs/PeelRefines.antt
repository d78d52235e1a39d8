-- The machine with XORs and bytes does what the definition on lists does.
use mathlib.Core.Path.{◌≡◌, refl, sym, ap, ◌∙◌}
use mathlib.Core.List.{List, [], ◌∷◌, map}
use mathlib.Core.Bool.{Bool, true, false, cond, ◌||◌, true≢false}
use mathlib.Core.Option.{Option, none, some}
use mathlib.Core.Logic.{◌≢◌, ◌⊎◌, inl, inr}
use Prim.Native.Nat.{ℕ, zero, suc, ◌+◌, ◌-◌, ◌*◌, ◌/◌, ◌%◌, ◌≤◌, ◌<◌}
use native.Mathlib.Omega.{arith}
use lib.ListN.{get_or-eq_default, length, get_or, length-set}
use lib.Seq.{get_or-set_same, get_or-set_other}
use lib.Bits.{bit_xor}
use lib.Dec.{eqb, ltb}
use borrow.Author.Tests.{ltb-true, ltb-false, eqb-true, eqb-false, eq-eqb, ne_eqb}
use Rattle.peel_rules.specs.Peel.{Peeled, State, push, popped, pop, step, run, fill_one, fill}
use Rattle.peel_rules.proofs.PeelBasic.{pivot_of_lem, touches_first, touches_second, at_touches, degree_split, at_none, all_at}
use Rattle.peel_rules.proofs.PeelSolved.{Inv, falls, falls_one, inv_step}
use Rattle.peel_rules.proofs.PeelEmpty.{first<, second<, first≢second}
use Rattle.peel_rules.proofs.PeelCore.{touched_below, vertex}
use Rattle.peel_rules.specs.Machine.{graph_after, stack_after, no_edge, side_no, side_from, first_side, second_side, Machine, mpush, side_at, take_off, mpopped, mpop, mstep, mrun, assign}
use Rattle.peel_rules.proofs.PeelXor.{Numbered, edges_n, first_n, without_n, edges_without, first_edge, xor_n, xor_other, xor_removed, xor_alone, xor_below}
use Rattle.peel_rules.specs.Edges.{Valid, touches, bump, degree, edge_at, without, Side, side0, side1, side2, side_of, pivot, first, second}
use Rattle.peeling.specs.Graph.{Graph, degree_of, remove, clear}
use Rattle.peeling.proofs.Bytes.{byte_falls}
use Rattle.peeling.specs.declared.numbers.Edge.{Edge}

-- ---- sides
side_back : (s : Side) → side_from (side_no s) ≡ s
unfolding side_from side_no
side_back side0 = refl
side_back side1 = refl
side_back side2 = refl

side_smaller : (s : Side) → side_no s < 3
unfolding side_no
side_smaller side0 = omega arith
side_smaller side1 = omega arith
side_smaller side2 = omega arith

pub side_small : (s : Side) → side_no s < 4
side_small s = omega (arith, side_smaller s)

pub side_a : {n : ℕ} {e : Edge} → Valid n e → side_of e.a.0 e ≡ side0
unfolding side_of
side_a {n} {e} v = rw (eq-eqb e.a.0 e.a.0 refl)

pub side_b : {n : ℕ} {e : Edge} → Valid n e → side_of e.b.0 e ≡ side1
unfolding side_of
side_b {n} {e} v = rw (ne_eqb e.b.0 e.a.0 (λ q. v.a≢b (sym q)), eq-eqb e.b.0 e.b.0 refl)

pub side_c : {n : ℕ} {e : Edge} → Valid n e → side_of e.c.0 e ≡ side2
unfolding side_of
side_c {n} {e} v = rw (ne_eqb e.c.0 e.a.0 (λ q. v.a≢c (sym q)), ne_eqb e.c.0 e.b.0 (λ q. v.b≢c (sym q)))

side_first : {n : ℕ} {e : Edge} → Valid n e → (s : Side) → side_of (first s e) e ≡ first_side s
unfolding first first_side
side_first v side0 = side_b v
side_first v side1 = side_a v
side_first v side2 = side_a v

side_second : {n : ℕ} {e : Edge} → Valid n e → (s : Side) → side_of (second s e) e ≡ second_side s
unfolding second second_side
side_second v side0 = side_c v
side_second v side1 = side_c v
side_second v side2 = side_b v

pivot≢first : {n : ℕ} {e : Edge} → Valid n e → (s : Side) → pivot s e ≢ first s e
unfolding pivot first
pivot≢first v side0 = v.a≢b
pivot≢first v side1 = λ q. v.a≢b (sym q)
pivot≢first v side2 = λ q. v.a≢c (sym q)

pivot≢second : {n : ℕ} {e : Edge} → Valid n e → (s : Side) → pivot s e ≢ second s e
unfolding pivot second
pivot≢second v side0 = v.a≢c
pivot≢second v side1 = v.b≢c
pivot≢second v side2 = λ q. v.b≢c (sym q)

-- ---- the relation
abbrev pub side_w : ℕ → Numbered → ℕ
side_w w q = side_no (side_of w q.edge)

abbrev pub number_w : Numbered → ℕ
number_w q = q.number

-- what the record of a vertex holds that no edge was peeled from
pub record Cell (ns : List Numbered) (g : Graph) (v : ℕ) : Type 0 where
  pub byte : get_or g.degrees v 0 ≡ degree v (edges_n ns) * 4 + xor_n (side_w v) v ns
  pub xor : get_or g.edges v 0 ≡ xor_n number_w v ns

abbrev pub pivot_of : Peeled → ℕ
pivot_of p = pivot p.side p.edge

unfoldable pub is_pivot : ℕ → List Peeled → Bool
is_pivot v [] = false
is_pivot v (p ∷ ps) = eqb v (pivot_of p) || is_pivot v ps

-- what it holds where one was
pub record KeptOne (T : List Edge) (g : Graph) (es : List Edge) (p : Peeled) : Type 0 where
  pub byte : get_or g.degrees (pivot_of p) 0 ≡ side_no p.side
  pub edge : get_or T (get_or g.edges (pivot_of p) 0) no_edge ≡ p.edge
  pub none_left : degree (pivot_of p) es ≡ 0

abbrev pub Kept : List Edge → Graph → List Edge → List Peeled → Type 0
Kept T g es [] = Unit {0}
Kept T g es (p ∷ ps) = KeptOne T g es p × Kept T g es ps

abbrev pub Named : List Edge → List Numbered → Type 0
Named T [] = Unit {0}
Named T (q ∷ ns) = (get_or T q.number no_edge ≡ q.edge) × Named T ns

pub record Rel (T : List Edge) (n : ℕ) (ns : List Numbered) (ps : List Peeled) (g : Graph) : Type 0 where
  pub named : Named T ns
  pub size_x : length g.edges ≡ n
  pub size_d : length g.degrees ≡ n
  pub cells : (v : ℕ) → v < n → is_pivot v ps ≡ false → Cell ns g v
  pub kept : Kept T g (edges_n ns) ps

pub record Sim (T : List Edge) (n : ℕ) (s : State) (m : Machine) : Type 0 where
  pub ns : List Numbered
  pub graph : Graph
  pub left : s.left ≡ edges_n ns
  pub machine : m ≡ record { graph = graph; lower = s.stack; upper = map pivot_of s.peeled }
  pub rel : Rel T n ns s.peeled graph

-- what the code asks before it takes v's edge off
pub record TakeFacts (T : List Edge) (n : ℕ) (g : Graph) (v : ℕ) : Type 0 where
  pub valid : Valid n (get_or T (get_or g.edges v 0) no_edge)
  pub at : v < n
  pub number : get_or g.edges v 0 < length T
  pub side_3 : get_or g.degrees v 0 % 4 < 3
  pub first_4 : 4 ≤ get_or (clear g v).degrees (first (side_at g v) (get_or T (get_or g.edges v 0) no_edge)) 0
  pub second_4 : 4 ≤ get_or (remove (clear g v) (first (side_at g v) (get_or T (get_or g.edges v 0) no_edge)) (get_or g.edges v 0) (side_no (first_side (side_at g v)))).degrees (second (side_at g v) (get_or T (get_or g.edges v 0) no_edge)) 0

-- ---- small steps
named_first : (T : List Edge) (v : ℕ) (ns : List Numbered) {q : Numbered} → first_n v ns ≡ some q → Named T ns → get_or T q.number no_edge ≡ q.edge
unfolding first_n
named_first T v [] {q} h m = let z : ◌≡◌ {A = ℕ} 0 1 = cc in absurd (omega arith)
named_first T v (r ∷ ns) {q} h m = go (touches v r.edge) (named_first T v ns) h
  where
    go : (t : Bool) → (first_n v ns ≡ some q → Named T ns → get_or T q.number no_edge ≡ q.edge) → cond t (some r) (first_n v ns) ≡ some q → get_or T q.number no_edge ≡ q.edge
    go true ih g = let e : r ≡ q = cc in rw (← e) m.0
    go false ih g = ih g m.1

named_without : (T : List Edge) (v : ℕ) (ns : List Numbered) → Named T ns → Named T (without_n v ns)
unfolding without_n
named_without T v [] m = tt
named_without T v (r ∷ ns) m = go (touches v r.edge) (named_without T v ns m.1)
  where
    go : (t : Bool) → Named T (without_n v ns) → Named T (cond t ns (r ∷ without_n v ns))
    go true ih = m.1
    go false ih = (m.0, ih)

pub kept_pivot : (T : List Edge) (g : Graph) (es : List Edge) (v : ℕ) (ps : List Peeled) → Kept T g es ps → is_pivot v ps ≡ true → (get_or g.degrees v 0 < 4) × (degree v es ≡ 0)
unfolding is_pivot
kept_pivot T g es v [] k h = absurd (true≢false (sym h))
kept_pivot T g es v (p ∷ ps) k h = go (eqb v (pivot_of p)) refl (kept_pivot T g es v ps k.1) h
  where
    go : (b : Bool) → eqb v (pivot_of p) ≡ b → (is_pivot v ps ≡ true → (get_or g.degrees v 0 < 4) × (degree v es ≡ 0)) → (b || is_pivot v ps) ≡ true → (get_or g.degrees v 0 < 4) × (degree v es ≡ 0)
    go true q ih r = rw (eqb-true v (pivot_of p) q) (omega (arith, k.0.byte, side_small p.side), k.0.none_left)
    go false q ih r = ih r

-- a vertex with a live edge is no pivot
no_pivot : (T : List Edge) (g : Graph) (es : List Edge) (v : ℕ) (ps : List Peeled) → Kept T g es ps → 0 < degree v es → is_pivot v ps ≡ false
no_pivot T g es v ps k d = go (is_pivot v ps) refl
  where
    go : (b : Bool) → is_pivot v ps ≡ b → b ≡ false
    go true q = absurd (omega (arith, (kept_pivot T g es v ps k q).1))
    go false q = refl

kept_mono : (T : List Edge) (g f : Graph) (es fs : List Edge) (ps : List Peeled)
    → ((u : ℕ) → degree u es ≡ 0 → (get_or f.degrees u 0 ≡ get_or g.degrees u 0) × (get_or f.edges u 0 ≡ get_or g.edges u 0) × (degree u fs ≡ 0))
    → Kept T g es ps → Kept T f fs ps
kept_mono T g f es fs [] h k = tt
kept_mono T g f es fs (p ∷ ps) h k =
    let r = h (pivot_of p) k.0.none_left in (
      record { byte = r.0 ∙ k.0.byte; edge = ap (λ (i : ℕ). get_or T i no_edge) r.1 ∙ k.0.edge; none_left = r.2 },
      kept_mono T g f es fs ps h k.1,
    )

-- ---- what the three vertices' records are after the removal
module _ (g : Graph) (v o₁ o₂ i t₁ t₂ : ℕ) (n : ℕ) (lx : length g.edges ≡ n) (ld : length g.degrees ≡ n)
    (v< : v < n) (o₁< : o₁ < n) (o₂< : o₂ < n) (v≢1 : v ≢ o₁) (v≢2 : v ≢ o₂) (1≢2 : o₁ ≢ o₂) where
  abbrev g₁ : Graph
  g₁ = clear g v

  abbrev g₂ : Graph
  g₂ = remove g₁ o₁ i t₁

  abbrev g₃ : Graph
  g₃ = remove g₂ o₂ i t₂

  len_d₁ : length g₁.degrees ≡ n
  len_d₁ = simp length-set ld

  len_d₂ : length g₂.degrees ≡ n
  len_d₂ = simp length-set ld

  len_d₃ : length g₃.degrees ≡ n
  len_d₃ = simp length-set ld

  len_x₂ : length g₂.edges ≡ n
  len_x₂ = simp length-set lx

  len_x₃ : length g₃.edges ≡ n
  len_x₃ = simp length-set lx

  ds₁ : (u : ℕ) → u ≢ v → get_or g₁.degrees u 0 ≡ get_or g.degrees u 0
  ds₁ u h = get_or-set_other g.degrees v u _ 0 h

  ds₂ : (u : ℕ) → u ≢ v → u ≢ o₁ → get_or g₂.degrees u 0 ≡ get_or g.degrees u 0
  ds₂ u h k = get_or-set_other g₁.degrees o₁ u _ 0 k ∙ ds₁ u h

  ds_v : get_or g₃.degrees v 0 ≡ get_or g.degrees v 0 % 4
  ds_v = get_or-set_other g₂.degrees o₂ v _ 0 v≢2 ∙ get_or-set_other g₁.degrees o₁ v _ 0 v≢1 ∙ get_or-set_same g.degrees v _ 0 (omega arith)

  ds_1 : get_or g₃.degrees o₁ 0 ≡ bit_xor (get_or g.degrees o₁ 0 - 4) t₁
  ds_1 = get_or-set_other g₂.degrees o₂ o₁ _ 0 1≢2 ∙ get_or-set_same g₁.degrees o₁ _ 0 (omega (arith, len_d₁)) ∙ ap (λ (z : ℕ). bit_xor (z - 4) t₁) (ds₁ o₁ (λ q. v≢1 (sym q)))

  ds_2 : get_or g₃.degrees o₂ 0 ≡ bit_xor (get_or g.degrees o₂ 0 - 4) t₂
  ds_2 = get_or-set_same g₂.degrees o₂ _ 0 (omega (arith, len_d₂)) ∙ ap (λ (z : ℕ). bit_xor (z - 4) t₂) (ds₂ o₂ (λ q. v≢2 (sym q)) (λ q. 1≢2 (sym q)))

  ds_u : (u : ℕ) → u ≢ v → u ≢ o₁ → u ≢ o₂ → get_or g₃.degrees u 0 ≡ get_or g.degrees u 0
  ds_u u h k l = get_or-set_other g₂.degrees o₂ u _ 0 l ∙ ds₂ u h k

  xr_1 : get_or g₃.edges o₁ 0 ≡ bit_xor (get_or g.edges o₁ 0) i
  xr_1 = get_or-set_other g₂.edges o₂ o₁ _ 0 1≢2 ∙ get_or-set_same g.edges o₁ _ 0 (omega arith)

  xr_2 : get_or g₃.edges o₂ 0 ≡ bit_xor (get_or g.edges o₂ 0) i
  xr_2 = get_or-set_same g₂.edges o₂ _ 0 (omega (arith, len_x₂)) ∙ ap (λ (z : ℕ). bit_xor z i) (get_or-set_other g.edges o₁ o₂ _ 0 (λ q. 1≢2 (sym q)))

  xr_u : (u : ℕ) → u ≢ o₁ → u ≢ o₂ → get_or g₃.edges u 0 ≡ get_or g.edges u 0
  xr_u u k l = get_or-set_other g₂.edges o₂ u _ 0 l ∙ get_or-set_other g.edges o₁ u _ 0 k

-- ---- a vertex's record when v's edge q is removed
module _ (ns : List Numbered) (v : ℕ) (q : Numbered) (h : first_n v ns ≡ some q) (he : edge_at v (edges_n ns) ≡ some q.edge) where
  after : (w : ℕ) → degree w (edges_n (without_n v ns)) ≡ degree w (without v (edges_n ns))
  after w = ap (degree w) (edges_without v ns)

  cell_falls : (g f : Graph) (w : ℕ) → touches w q.edge ≡ true → Cell ns g w
      → get_or f.degrees w 0 ≡ bit_xor (get_or g.degrees w 0 - 4) (side_w w q) → get_or f.edges w 0 ≡ bit_xor (get_or g.edges w 0) q.number
      → Cell (without_n v ns) f w
  cell_falls g f w t c p r = record {
    byte = p ∙ ap (λ (z : ℕ). bit_xor (z - 4) (side_w w q)) (c.byte ∙ ap (λ (z : ℕ). z * 4 + xor_n (side_w w) w ns) (falls_one v (edges_n ns) he w t))
        ∙ byte_falls (degree w (without v (edges_n ns))) (xor_n (side_w w) w ns) (side_w w q) (xor_below (side_w w) 2 w ns (λ r. side_small (side_of w r.edge)) (omega arith)) (side_small (side_of w q.edge))
        ∙ rw (xor_removed (side_w w) v ns h w t, after w);
    xor = r ∙ ap (λ (z : ℕ). bit_xor z q.number) c.xor ∙ xor_removed number_w v ns h w t;
  }

  cell_same : (g f : Graph) (w : ℕ) → touches w q.edge ≡ false → Cell ns g w → get_or f.degrees w 0 ≡ get_or g.degrees w 0 → get_or f.edges w 0 ≡ get_or g.edges w 0
      → Cell (without_n v ns) f w
  cell_same g f w t c p r =
      let d : degree w (edges_n ns) ≡ degree w (without v (edges_n ns)) = degree_split v (edges_n ns) he w ∙ ap (λ (b : Bool). bump b (degree w (without v (edges_n ns)))) t in
      record {
        byte = p ∙ c.byte ∙ rw (xor_other (side_w w) v ns h w t, after w, d);
        xor = r ∙ c.xor ∙ sym (xor_other number_w v ns h w t);
      }

or_false : (b c : Bool) → (b || c) ≡ false → (b ≡ false) × (c ≡ false)
or_false true c h = absurd (true≢false h)
or_false false c h = (refl, h)

-- ---- one edge is peeled
module _ (T : List Edge) (n : ℕ) (ns : List Numbered) (v : ℕ) (st : List ℕ) (ps : List Peeled) (g : Graph) (q : Numbered)
    (h : first_n v ns ≡ some q) (he : edge_at v (edges_n ns) ≡ some q.edge)
    (i : Inv n (record { left = edges_n ns; stack = v ∷ st; peeled = ps })) (r : Rel T n ns ps g) where
  abbrev e : Edge
  e = q.edge

  abbrev es : List Edge
  es = edges_n ns

  abbrev s : Side
  s = side_of v e

  abbrev o₁ : ℕ
  o₁ = first s e

  abbrev o₂ : ℕ
  o₂ = second s e

  va : Valid n e
  va = all_at (Valid n) v es he i.valid

  tv : touches v e ≡ true
  tv = at_touches v es he

  dv : degree v es ≡ 1
  dv = omega (arith, falls_one v es he v tv, i.low.0)

  dz : degree v (without v es) ≡ 0
  dz = omega (arith, falls_one v es he v tv, i.low.0)

  live : (w : ℕ) → touches w e ≡ true → 0 < degree w es
  live w t = omega (arith, falls_one v es he w t)

  cell_of : (w : ℕ) → touches w e ≡ true → Cell ns g w
  cell_of w t = r.cells w (touched_below n w es i.valid (live w t)) (no_pivot T g es w ps r.kept (live w t))

  byte_v : get_or g.degrees v 0 ≡ 4 + side_no s
  byte_v = omega (arith, (cell_of v tv).byte, dv, xor_alone (side_w v) v ns h tv dz)

  pub xor_v : get_or g.edges v 0 ≡ q.number
  xor_v = (cell_of v tv).xor ∙ xor_alone number_w v ns h tv dz

  pub busy : eqb (degree_of g v) 0 ≡ false
  busy = ne_eqb (get_or g.degrees v 0 / 4) 0 (omega (arith, byte_v))

  pub sides_v : get_or g.degrees v 0 % 4 ≡ side_no s
  sides_v = omega (arith, byte_v, side_small s)

  pub side_v : side_at g v ≡ s
  unfolding side_at
  side_v = let p : get_or g.degrees v 0 % 4 ≡ side_no s = omega (arith, byte_v, side_small s) in ap side_from p ∙ side_back s

  pub edge_v : get_or T (get_or g.edges v 0) no_edge ≡ e
  edge_v = ap (λ (j : ℕ). get_or T j no_edge) xor_v ∙ named_first T v ns h r.named

  pv : pivot s e ≡ v
  pv = pivot_of_lem v e tv

  v≢1 : v ≢ o₁
  v≢1 k = pivot≢first va s (pv ∙ k)

  v≢2 : v ≢ o₂
  v≢2 k = pivot≢second va s (pv ∙ k)

  v< : v < n
  v< = touched_below n v es i.valid (live v tv)

  -- the graph afterwards
  abbrev f₁ : Graph
  f₁ = clear g v

  abbrev f₂ : Graph
  f₂ = remove f₁ o₁ q.number (side_no (first_side s))

  abbrev f₃ : Graph
  f₃ = remove f₂ o₂ q.number (side_no (second_side s))

  degree_of_lem : (f : Graph) (w : ℕ) → Cell ns g w → get_or f.degrees w 0 ≡ get_or g.degrees w 0 → degree_of f w ≡ degree w es
  degree_of_lem f w c p = omega (arith, p, c.byte, xor_below (side_w w) 2 w ns (λ r. side_small (side_of w r.edge)) (omega arith))

  t₁ : touches o₁ e ≡ true
  t₁ = touches_first s e

  t₂ : touches o₂ e ≡ true
  t₂ = touches_second s e

  pub lower_eq : mpush f₂ o₂ (mpush f₁ o₁ st) ≡ push es o₂ (push es o₁ st)
  unfolding mpush push
  lower_eq = rw (
    degree_of_lem f₁ o₁ (cell_of o₁ t₁) (ds₁ g v o₁ o₂ q.number (side_no (first_side s)) (side_no (second_side s)) n r.size_x r.size_d v< (first< va s) (second< va s) v≢1 v≢2 (first≢second va s) o₁ (λ k. v≢1 (sym k))),
    degree_of_lem f₂ o₂ (cell_of o₂ t₂) (ds₂ g v o₁ o₂ q.number (side_no (first_side s)) (side_no (second_side s)) n r.size_x r.size_d v< (first< va s) (second< va s) v≢1 v≢2 (first≢second va s) o₂ (λ k. v≢2 (sym k)) (λ k. first≢second va s (sym k))),
  )

  cells_after_lem : (u : ℕ) → u < n → is_pivot u (record { edge = e; side = s } ∷ ps) ≡ false → Cell (without_n v ns) f₃ u
  unfolding is_pivot
  cells_after_lem u u< np = go (eqb u o₁) refl (eqb u o₂) refl
    where
      z : (eqb u (pivot s e) ≡ false) × (is_pivot u ps ≡ false)
      z = or_false (eqb u (pivot s e)) (is_pivot u ps) np

      u≢v : u ≢ v
      u≢v k = eqb-false u (pivot s e) z.0 (k ∙ sym pv)

      miss : u ≢ o₁ → u ≢ o₂ → touches u e ≡ false
      miss k l = yet (touches u e) refl
        where
          which : (u ≡ pivot s e) ⊎ ((u ≡ o₁) ⊎ (u ≡ o₂)) → ⊥
          which (inl m) = u≢v (m ∙ pv)
          which (inr (inl m)) = k m
          which (inr (inr m)) = l m

          yet : (b : Bool) → touches u e ≡ b → b ≡ false
          yet true t = absurd (which (vertex s u e t))
          yet false t = refl

      go : (b : Bool) → eqb u o₁ ≡ b → (c : Bool) → eqb u o₂ ≡ c → Cell (without_n v ns) f₃ u
      go true k c l = rw (eqb-true u o₁ k) (cell_falls ns v q h he g f₃ o₁ t₁ (cell_of o₁ t₁)
          (ds_1 g v o₁ o₂ q.number (side_no (first_side s)) (side_no (second_side s)) n r.size_x r.size_d v< (first< va s) (second< va s) v≢1 v≢2 (first≢second va s)
          ∙ ap (λ (d : Side). bit_xor (get_or g.degrees o₁ 0 - 4) (side_no d)) (sym (side_first va s)))
          (xr_1 g v o₁ o₂ q.number (side_no (first_side s)) (side_no (second_side s)) n r.size_x r.size_d v< (first< va s) (second< va s) v≢1 v≢2 (first≢second va s)))
      go false k true l = rw (eqb-true u o₂ l) (cell_falls ns v q h he g f₃ o₂ t₂ (cell_of o₂ t₂)
          (ds_2 g v o₁ o₂ q.number (side_no (first_side s)) (side_no (second_side s)) n r.size_x r.size_d v< (first< va s) (second< va s) v≢1 v≢2 (first≢second va s)
          ∙ ap (λ (d : Side). bit_xor (get_or g.degrees o₂ 0 - 4) (side_no d)) (sym (side_second va s)))
          (xr_2 g v o₁ o₂ q.number (side_no (first_side s)) (side_no (second_side s)) n r.size_x r.size_d v< (first< va s) (second< va s) v≢1 v≢2 (first≢second va s)))
      go false k false l = cell_same ns v q h he g f₃ u (miss (eqb-false u o₁ k) (eqb-false u o₂ l)) (r.cells u u< z.1)
          (ds_u g v o₁ o₂ q.number (side_no (first_side s)) (side_no (second_side s)) n r.size_x r.size_d v< (first< va s) (second< va s) v≢1 v≢2 (first≢second va s) u u≢v (eqb-false u o₁ k) (eqb-false u o₂ l))
          (xr_u g v o₁ o₂ q.number (side_no (first_side s)) (side_no (second_side s)) n r.size_x r.size_d v< (first< va s) (second< va s) v≢1 v≢2 (first≢second va s) u (eqb-false u o₁ k) (eqb-false u o₂ l))

  -- a vertex with no live edge keeps its record
  still : (u : ℕ) → degree u es ≡ 0 → (get_or f₃.degrees u 0 ≡ get_or g.degrees u 0) × (get_or f₃.edges u 0 ≡ get_or g.edges u 0) × (degree u (edges_n (without_n v ns)) ≡ 0)
  still u d = (
    ds_u g v o₁ o₂ q.number (side_no (first_side s)) (side_no (second_side s)) n r.size_x r.size_d v< (first< va s) (second< va s) v≢1 v≢2 (first≢second va s) u (no v tv) (no o₁ t₁) (no o₂ t₂),
    xr_u g v o₁ o₂ q.number (side_no (first_side s)) (side_no (second_side s)) n r.size_x r.size_d v< (first< va s) (second< va s) v≢1 v≢2 (first≢second va s) u (no o₁ t₁) (no o₂ t₂),
    omega (arith, after ns v q h he u, falls v es he u),
  )
    where
      no : (w : ℕ) → touches w e ≡ true → u ≢ w
      no w t k = absurd (omega (arith, live w t, ap (λ (z : ℕ). degree z es) k))

  pub rel_after : Rel T n (without_n v ns) (record { edge = e; side = s } ∷ ps) f₃
  rel_after = record {
    named = named_without T v ns r.named;
    size_x = len_x₃ g v o₁ o₂ q.number (side_no (first_side s)) (side_no (second_side s)) n r.size_x r.size_d v< (first< va s) (second< va s) v≢1 v≢2 (first≢second va s);
    size_d = len_d₃ g v o₁ o₂ q.number (side_no (first_side s)) (side_no (second_side s)) n r.size_x r.size_d v< (first< va s) (second< va s) v≢1 v≢2 (first≢second va s);
    cells = cells_after_lem;
    kept = (
      record {
        byte = rw pv (let p : get_or g.degrees v 0 % 4 ≡ side_no s = omega (arith, byte_v, side_small s) in ds_v g v o₁ o₂ q.number (side_no (first_side s)) (side_no (second_side s)) n r.size_x r.size_d v< (first< va s) (second< va s) v≢1 v≢2 (first≢second va s) ∙ p);
        edge = rw pv (ap (λ (j : ℕ). get_or T j no_edge) (xr_u g v o₁ o₂ q.number (side_no (first_side s)) (side_no (second_side s)) n r.size_x r.size_d v< (first< va s) (second< va s) v≢1 v≢2 (first≢second va s) v v≢1 v≢2) ∙ edge_v);
        none_left = rw pv (after ns v q h he v ∙ dz);
      },
      kept_mono T g f₃ es (edges_n (without_n v ns)) ps still r.kept,
    );
  }

  takes_sim : Sim T n (popped v es st ps (some e)) (mpopped T g v st (map pivot_of ps) (eqb (degree_of g v) 0))
  unfolding popped mpopped take_off graph_after stack_after
  takes_sim = record {
    ns = without_n v ns;
    graph = f₃;
    left = sym (edges_without v ns);
    machine =
        ap (mpopped T g v st (map pivot_of ps)) busy
        ∙ ap (λ (j : ℕ). take_off g v st (map pivot_of ps) j (side_at g v) (get_or T (get_or g.edges v 0) no_edge)) xor_v
        ∙ ap (λ (k : Side). take_off g v st (map pivot_of ps) q.number k (get_or T (get_or g.edges v 0) no_edge)) side_v
        ∙ ap (λ (d : Edge). take_off g v st (map pivot_of ps) q.number s d) edge_v
        ∙ (λ j. record { graph = f₃; lower = lower_eq j; upper = sym pv j ∷ map pivot_of ps });
    rel = rel_after;
  }

  four : (f : Graph) (w : ℕ) → touches w e ≡ true → get_or f.degrees w 0 ≡ get_or g.degrees w 0 → 4 ≤ get_or f.degrees w 0
  four f w t p = omega (arith, p, (cell_of w t).byte, live w t)

  in_table : get_or g.edges v 0 < length T
  in_table = go (ltb (get_or g.edges v 0) (length T)) refl
    where
      go : (b : Bool) → ltb (get_or g.edges v 0) (length T) ≡ b → get_or g.edges v 0 < length T
      go true k = ltb-true (get_or g.edges v 0) (length T) k
      go false k =
          let z : e ≡ no_edge = sym edge_v ∙ get_or-eq_default T no_edge {n = get_or g.edges v 0} (ltb-false (get_or g.edges v 0) (length T) k) in
          absurd (va.a≢b (ap (λ (d : Edge). d.a.0) z ∙ sym (ap (λ (d : Edge). d.b.0) z)))

  pub take_facts : TakeFacts T n g v
  take_facts = record {
    valid = rw edge_v va;
    at = v<;
    number = in_table;
    side_3 = omega (arith, byte_v, side_smaller s);
    first_4 = rw (edge_v, side_v) (four f₁ o₁ t₁ (ds₁ g v o₁ o₂ q.number (side_no (first_side s)) (side_no (second_side s)) n r.size_x r.size_d v< (first< va s) (second< va s) v≢1 v≢2 (first≢second va s) o₁ (λ k. v≢1 (sym k))));
    second_4 = rw (edge_v, side_v) (four f₂ o₂ t₂ (ds₂ g v o₁ o₂ q.number (side_no (first_side s)) (side_no (second_side s)) n r.size_x r.size_d v< (first< va s) (second< va s) v≢1 v≢2 (first≢second va s) o₂ (λ k. v≢2 (sym k)) (λ k. first≢second va s (sym k))));
  }

-- ---- a vertex with no edge left is skipped
pub idle_degree : (T : List Edge) (n : ℕ) (ns : List Numbered) (v : ℕ) (ps : List Peeled) (g : Graph) → degree v (edges_n ns) ≡ 0 → Rel T n ns ps g → eqb (degree_of g v) 0 ≡ true
idle_degree T n ns v ps g d r = eq-eqb (get_or g.degrees v 0 / 4) 0 (go (ltb v n) refl (is_pivot v ps) refl)
  where
    go : (b : Bool) → ltb v n ≡ b → (c : Bool) → is_pivot v ps ≡ c → get_or g.degrees v 0 / 4 ≡ 0
    go true p true q = omega (arith, (kept_pivot T g (edges_n ns) v ps r.kept q).0)
    go true p false q = omega (arith, (r.cells v (ltb-true v n p) q).byte, xor_below (side_w v) 2 v ns (λ r. side_small (side_of v r.edge)) (omega arith))
    go false p c q = let k : length g.degrees ≤ v = omega (arith, ltb-false v n p, r.size_d) in omega (arith, get_or-eq_default g.degrees 0 {n = v} k)

skip_sim : (T : List Edge) (n : ℕ) (ns : List Numbered) (v : ℕ) (st : List ℕ) (ps : List Peeled) (g : Graph) → edge_at v (edges_n ns) ≡ none → Rel T n ns ps g
    → Sim T n (popped v (edges_n ns) st ps none) (mpopped T g v st (map pivot_of ps) (eqb (degree_of g v) 0))
unfolding popped mpopped
skip_sim T n ns v st ps g h r = record {
  ns = ns;
  graph = g;
  left = refl;
  machine = ap (mpopped T g v st (map pivot_of ps)) (idle_degree T n ns v ps g (at_none v (edges_n ns) h) r);
  rel = r;
}

-- ---- the step, the run
pub sim_step : (T : List Edge) (n : ℕ) (s : State) (m : Machine) → Inv n s → Sim T n s m → Sim T n (step s) (mstep T m)
unfolding step mstep pop mpop
sim_step T n s m i r = rw r.machine (go s.left r.left s.stack s.peeled i r.rel)
  where
    pick : (v : ℕ) (st : List ℕ) (ps : List Peeled) (o : Option Edge) → edge_at v (edges_n r.ns) ≡ o → Inv n (record { left = edges_n r.ns; stack = v ∷ st; peeled = ps }) → Rel T n r.ns ps r.graph
        → Sim T n (popped v (edges_n r.ns) st ps o) (mpopped T r.graph v st (map pivot_of ps) (eqb (degree_of r.graph v) 0))
    pick v st ps none h j k = skip_sim T n r.ns v st ps r.graph h k
    pick v st ps (some e) h j k =
        let a = first_edge v r.ns e h in
        let h' : edge_at v (edges_n r.ns) ≡ some a.0.edge = rw a.2 h in
        rw (← a.2) (takes_sim T n r.ns v st ps r.graph a.0 a.1 h' j k)

    go : (es : List Edge) → es ≡ edges_n r.ns → (st : List ℕ) (ps : List Peeled) → Inv n (record { left = es; stack = st; peeled = ps }) → Rel T n r.ns ps r.graph
        → Sim T n (pop es st ps) (mpop T r.graph st (map pivot_of ps))
    go es p [] ps j k = record { ns = r.ns; graph = r.graph; left = p; machine = refl; rel = k }
    go es p (v ∷ st) ps j k = rw p (pick v st ps (edge_at v (edges_n r.ns)) refl (rw p at j) k)

pub sim_run : (T : List Edge) (n k : ℕ) (s : State) (m : Machine) → Inv n s → Sim T n s m → Sim T n (run k s) (mrun T k m)
unfolding run mrun
sim_run T n zero s m i r = r
sim_run T n (suc k) s m i r = sim_run T n k (step s) (mstep T m) (inv_step n s i) (sim_step T n s m i r)

-- the filling from the vertices' records is the filling from the peeled edges
pub sim_assign : (T : List Edge) (g : Graph) (es : List Edge) (ps : List Peeled) (x : List ℕ) → Kept T g es ps → assign T g (map pivot_of ps) x ≡ fill ps x
unfolding assign fill side_at
sim_assign T g es [] x k = refl
sim_assign T g es (p ∷ ps) x k =
    let b : get_or g.degrees (pivot_of p) 0 % 4 ≡ side_no p.side = omega (arith, k.0.byte, side_small p.side) in
    let c : side_from (get_or g.degrees (pivot_of p) 0 % 4) ≡ p.side = ap side_from b ∙ side_back p.side in
    ap (λ (d : Edge). assign T g (map pivot_of ps) (fill_one (record { edge = d; side = side_from (get_or g.degrees (pivot_of p) 0 % 4) }) x)) k.0.edge
    ∙ ap (λ (d : Side). assign T g (map pivot_of ps) (fill_one (record { edge = p.edge; side = d }) x)) c
    ∙ sim_assign T g es ps (fill_one p x) k.1
