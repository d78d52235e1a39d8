-- The graph that the machine makes of the edges.
use mathlib.Core.Bool.{Bool, true, false, true≢false}
use Prim.Native.Nat.{◌%◌, ◌*◌, ℕ, suc, ◌+◌, ◌<◌}
use mathlib.Core.Path.{◌≡◌, refl, sym, ap, ◌∙◌}
use mathlib.Core.List.{List, [], ◌∷◌, ◌++◌, append-nil}
use mathlib.Core.Logic.{◌≢◌}
use native.Mathlib.Omega.{arith}
use lib.ListN.{length-append, length, get_or, length-set, length-replicate}
use lib.Seq.{get_or-set_same, get_or-set_other, append_snoc, get_or-append_seam}
use lib.Bits.{bit_xor, xor_comm}
use Rattle.peel_rules.specs.Edges.{Valid, touches, degree, Side, side0, side1, side2, side_of, pivot}
use Rattle.peel_rules.specs.Peel.{crowd}
use Rattle.peeling.specs.Graph.{Graph, add}
use Rattle.peeling.proofs.Bytes.{byte_rises}
use Rattle.peel_rules.specs.Machine.{no_edge, side_no, add_edge, build, empty}
use Rattle.peel_rules.proofs.PeelBasic.{pivot_of_lem, touches_a, touches_b, touches_c}
use Rattle.peel_rules.proofs.PeelXor.{Numbered, edges_n, xor_n, xor_below, xor_snoc, degree_snoc, xor_if}
use Rattle.peel_rules.proofs.PeelRefines.{side_w, number_w, Cell, Named, side_small}
use Rattle.gf2.proofs.OneValue.{zeros_at}
use Rattle.gf2.specs.Equation.{Each}
use Rattle.peeling.specs.declared.numbers.Edge.{Edge}

-- ---- one edge more
add_d : (g : Graph) (v i t : ℕ) → v < length g.degrees → get_or (add g v i t).degrees v 0 ≡ bit_xor ((get_or g.degrees v 0 + 4) % 256) t
add_d g v i t h = get_or-set_same g.degrees v _ 0 h

add_x : (g : Graph) (v i t : ℕ) → v < length g.edges → get_or (add g v i t).edges v 0 ≡ bit_xor (get_or g.edges v 0) i
add_x g v i t h = get_or-set_same g.edges v _ 0 h

pub add_d_other : (g : Graph) (v i t u : ℕ) → u ≢ v → get_or (add g v i t).degrees u 0 ≡ get_or g.degrees u 0
add_d_other g v i t u h = get_or-set_other g.degrees v u _ 0 h

add_x_other : (g : Graph) (v i t u : ℕ) → u ≢ v → get_or (add g v i t).edges u 0 ≡ get_or g.edges u 0
add_x_other g v i t u h = get_or-set_other g.edges v u _ 0 h

pub record Sized (n : ℕ) (g : Graph) : Type 0 where
  pub x : length g.edges ≡ n
  pub d : length g.degrees ≡ n

add_sized : {n : ℕ} {g : Graph} (v i t : ℕ) → Sized n g → Sized n (add g v i t)
add_sized v i t s = record { x = simp length-set s.x; d = simp length-set s.d }

pub ne : {i j : ℕ} → i ≢ j → j ≢ i
ne h q = h (sym q)

-- the record of a vertex of the edge, by its side, and of any other vertex
module _ (n : ℕ) (g : Graph) (i : ℕ) (e : Edge) (va : Valid n e) (z : Sized n g) where
  abbrev h₁ : Graph
  h₁ = add g e.a.0 i 0

  abbrev h₂ : Graph
  h₂ = add h₁ e.b.0 i 1

  z₁ : Sized n h₁
  z₁ = add_sized e.a.0 i 0 z

  z₂ : Sized n h₂
  z₂ = add_sized e.b.0 i 1 z₁

  edge_d : (s : Side) → get_or (add_edge g i e).degrees (pivot s e) 0 ≡ bit_xor ((get_or g.degrees (pivot s e) 0 + 4) % 256) (side_no s)
  unfolding add_edge pivot side_no
  edge_d side0 = add_d_other h₂ e.c.0 i 2 e.a.0 va.a≢c ∙ add_d_other h₁ e.b.0 i 1 e.a.0 va.a≢b ∙ add_d g e.a.0 i 0 (omega (arith, z.d, va.a<))
  edge_d side1 = add_d_other h₂ e.c.0 i 2 e.b.0 va.b≢c ∙ add_d h₁ e.b.0 i 1 (omega (arith, z₁.d, va.b<))
      ∙ ap (λ (k : ℕ). bit_xor ((k + 4) % 256) 1) (add_d_other g e.a.0 i 0 e.b.0 (ne va.a≢b))
  edge_d side2 = add_d h₂ e.c.0 i 2 (omega (arith, z₂.d, va.c<))
      ∙ ap (λ (k : ℕ). bit_xor ((k + 4) % 256) 2) (add_d_other h₁ e.b.0 i 1 e.c.0 (ne va.b≢c) ∙ add_d_other g e.a.0 i 0 e.c.0 (ne va.a≢c))

  edge_x : (s : Side) → get_or (add_edge g i e).edges (pivot s e) 0 ≡ bit_xor (get_or g.edges (pivot s e) 0) i
  unfolding add_edge pivot
  edge_x side0 = add_x_other h₂ e.c.0 i 2 e.a.0 va.a≢c ∙ add_x_other h₁ e.b.0 i 1 e.a.0 va.a≢b ∙ add_x g e.a.0 i 0 (omega (arith, z.x, va.a<))
  edge_x side1 = add_x_other h₂ e.c.0 i 2 e.b.0 va.b≢c ∙ add_x h₁ e.b.0 i 1 (omega (arith, z₁.x, va.b<))
      ∙ ap (λ (k : ℕ). bit_xor k i) (add_x_other g e.a.0 i 0 e.b.0 (ne va.a≢b))
  edge_x side2 = add_x h₂ e.c.0 i 2 (omega (arith, z₂.x, va.c<))
      ∙ ap (λ (k : ℕ). bit_xor k i) (add_x_other h₁ e.b.0 i 1 e.c.0 (ne va.b≢c) ∙ add_x_other g e.a.0 i 0 e.c.0 (ne va.a≢c))

  missed : (u : ℕ) → touches u e ≡ false → (w : ℕ) → touches w e ≡ true → u ≢ w
  missed u t w k q = true≢false (sym k ∙ sym (ap (λ (v : ℕ). touches v e) q) ∙ t)

  other_d : (u : ℕ) → touches u e ≡ false → get_or (add_edge g i e).degrees u 0 ≡ get_or g.degrees u 0
  unfolding add_edge
  other_d u t = add_d_other h₂ e.c.0 i 2 u (missed u t e.c.0 (touches_c e)) ∙ add_d_other h₁ e.b.0 i 1 u (missed u t e.b.0 (touches_b e)) ∙ add_d_other g e.a.0 i 0 u (missed u t e.a.0 (touches_a e))

  other_x : (u : ℕ) → touches u e ≡ false → get_or (add_edge g i e).edges u 0 ≡ get_or g.edges u 0
  unfolding add_edge
  other_x u t = add_x_other h₂ e.c.0 i 2 u (missed u t e.c.0 (touches_c e)) ∙ add_x_other h₁ e.b.0 i 1 u (missed u t e.b.0 (touches_b e)) ∙ add_x_other g e.a.0 i 0 u (missed u t e.a.0 (touches_a e))

  pub sized_edge : Sized n (add_edge g i e)
  unfolding add_edge
  sized_edge = add_sized e.c.0 i 2 z₂

pub small : (v : ℕ) (ns : List Numbered) → xor_n (side_w v) v ns < 4
small v ns = xor_below (side_w v) 2 v ns (λ r. side_small (side_of v r.edge)) (omega arith)

-- what the record of a vertex holds while the edges come: the degree wraps round at 64
pub record Wrapped (ns : List Numbered) (g : Graph) (v : ℕ) : Type 0 where
  pub byte : get_or g.degrees v 0 ≡ degree v (edges_n ns) % 64 * 4 + xor_n (side_w v) v ns
  pub xor : get_or g.edges v 0 ≡ xor_n number_w v ns

-- without a crowd nothing has wrapped
pub unwrapped : (ns : List Numbered) (g : Graph) (v : ℕ) → degree v (edges_n ns) < crowd → Wrapped ns g v → Cell ns g v
unwrapped ns g v h w =
    let d : degree v (edges_n ns) % 64 ≡ degree v (edges_n ns) = omega arith in
    record { byte = w.byte ∙ ap (λ (k : ℕ). k * 4 + xor_n (side_w v) v ns) d; xor = w.xor }

pub cell_snoc : (n : ℕ) (ns : List Numbered) (g : Graph) (i : ℕ) (e : Edge) → Valid n e → Sized n g → (v : ℕ) → Wrapped ns g v → Wrapped (ns ++ record { number = i; edge = e } ∷ []) (add_edge g i e) v
unfolding xor_if
cell_snoc n ns g i e va z v c = go (touches v e) refl
  where
    q : Numbered
    q = record { number = i; edge = e }

    go : (t : Bool) → touches v e ≡ t → Wrapped (ns ++ q ∷ []) (add_edge g i e) v
    go true t =
        let s = side_of v e in
        let p : get_or (add_edge g i e).degrees v 0 ≡ bit_xor ((get_or g.degrees v 0 + 4) % 256) (side_no s) = rw (pivot_of_lem v e t) at (edge_d n g i e va z s) in
        let r : get_or (add_edge g i e).edges v 0 ≡ bit_xor (get_or g.edges v 0) i = rw (pivot_of_lem v e t) at (edge_x n g i e va z s) in
        record {
          byte = p ∙ ap (λ (k : ℕ). bit_xor ((k + 4) % 256) (side_no s)) c.byte ∙ byte_rises (degree v (edges_n ns)) (xor_n (side_w v) v ns) (side_no s) (small v ns) (side_small s)
              ∙ rw (degree_snoc v ns q, xor_snoc (side_w v) v ns q, t);
          xor = r ∙ ap (λ (k : ℕ). bit_xor k i) c.xor ∙ xor_comm (xor_n number_w v ns) i ∙ rw (xor_snoc number_w v ns q, t);
        }
    go false t = record {
      byte = other_d n g i e va z v t ∙ c.byte ∙ rw (degree_snoc v ns q, xor_snoc (side_w v) v ns q, t);
      xor = other_x n g i e va z v t ∙ c.xor ∙ rw (xor_snoc number_w v ns q, t);
    }

-- ---- the numbered edges
unfoldable pub number : ℕ → List Edge → List Numbered
number i [] = []
number i (e ∷ es) = record { number = i; edge = e } ∷ number (suc i) es

pub edges_number : (i : ℕ) (es : List Edge) → edges_n (number i es) ≡ es
unfolding number edges_n
edges_number i [] = refl
edges_number i (e ∷ es) = ap (λ (l : List Edge). e ∷ l) (edges_number (suc i) es)

pub named_number : (pre es : List Edge) (i : ℕ) → length pre ≡ i → Named (pre ++ es) (number i es)
unfolding number
named_number pre [] i h = tt
named_number pre (e ∷ es) i h = (
  rw (← h) (get_or-append_seam pre e es no_edge),
  rw (append_snoc pre e es) at (named_number (pre ++ e ∷ []) es (suc i) (simp length-append (omega arith))),
)

pub build_cells : (n i : ℕ) (es : List Edge) (ns : List Numbered) (g : Graph) → Each (Valid n) es → Sized n g → ((v : ℕ) → Wrapped ns g v)
    → Sized n (build i es g) × ((v : ℕ) → Wrapped (ns ++ number i es) (build i es g) v)
unfolding build number
build_cells n i [] ns g va z c = (z, λ v. rw (append-nil ns) (c v))
build_cells n i (e ∷ es) ns g va z c =
    let q : Numbered = record { number = i; edge = e } in
    let r = build_cells n (suc i) es (ns ++ q ∷ []) (add_edge g i e) va.1 (sized_edge n g i e va.0 z) (λ v. cell_snoc n ns g i e va.0 z v (c v)) in
    (r.0, λ v. rw (append_snoc ns q (number (suc i) es)) at (r.1 v))

pub empty_cell : (n v : ℕ) → Wrapped [] (empty n) v
unfolding empty xor_n degree edges_n
empty_cell n v = record { byte = zeros_at n v; xor = zeros_at n v }

pub empty_sized : (n : ℕ) → Sized n (empty n)
unfolding empty
empty_sized n = record { x = length-replicate n 0; d = length-replicate n 0 }
