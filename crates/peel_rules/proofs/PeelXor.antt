-- The XOR of what the live edges of a vertex are, and what a removal does to it.
use mathlib.Core.Path.{◌≡◌, refl, sym, ap, ◌∙◌}
use mathlib.Core.List.{List, [], ◌∷◌, ◌++◌}
use mathlib.Core.Bool.{Bool, true, false, cond}
use mathlib.Core.Option.{Option, none, some}
use Prim.Native.Nat.{ℕ, ◌^◌, ◌<◌}
use native.Mathlib.Omega.{arith}
use lib.Bits.{bit_xor, xor_comm, xor_lt, xor_zero_r}
use Rattle.peel_rules.proofs.PeelBasic.{bump_comm}
use Rattle.gf2.proofs.XorLaws.{xor_assoc, xor_laws}
use Rattle.peel_rules.specs.Edges.{touches, bump, degree, edge_at, without}
use Rattle.peeling.specs.declared.numbers.Edge.{Edge}

-- an edge and its number
pub record Numbered : Type 0 where
  pub number : ℕ
  pub edge : Edge

unfoldable pub edges_n : List Numbered → List Edge
edges_n [] = []
edges_n (q ∷ ns) = q.edge ∷ edges_n ns

unfoldable pub first_n : ℕ → List Numbered → Option Numbered
first_n v [] = none
first_n v (q ∷ ns) = cond (touches v q.edge) (some q) (first_n v ns)

unfoldable pub without_n : ℕ → List Numbered → List Numbered
without_n v [] = []
without_n v (q ∷ ns) = cond (touches v q.edge) ns (q ∷ without_n v ns)

pub edges_without : (v : ℕ) (ns : List Numbered) → edges_n (without_n v ns) ≡ without v (edges_n ns)
unfolding edges_n without_n without
edges_without v [] = refl
edges_without v (q ∷ ns) = go (touches v q.edge) (edges_without v ns)
  where
    go : (t : Bool) → edges_n (without_n v ns) ≡ without v (edges_n ns) → edges_n (cond t ns (q ∷ without_n v ns)) ≡ cond t (edges_n ns) (q.edge ∷ without v (edges_n ns))
    go true ih = refl
    go false ih = ap (λ (l : List Edge). q.edge ∷ l) ih

-- an edge found has a number
pub first_edge : (v : ℕ) (ns : List Numbered) (e : Edge) → edge_at v (edges_n ns) ≡ some e → (q : Numbered) × (first_n v ns ≡ some q) × (q.edge ≡ e)
unfolding edges_n first_n edge_at
first_edge v [] e h = absurd cc
first_edge v (r ∷ ns) e h = go (touches v r.edge) (first_edge v ns e) h
  where
    go : (t : Bool) → (edge_at v (edges_n ns) ≡ some e → (q : Numbered) × (first_n v ns ≡ some q) × (q.edge ≡ e))
        → cond t (some r.edge) (edge_at v (edges_n ns)) ≡ some e → (q : Numbered) × (cond t (some r) (first_n v ns) ≡ some q) × (q.edge ≡ e)
    go true ih g = (r, refl, cc)
    go false ih g = ih g

-- ---- the XOR over the live edges of v
unfoldable pub xor_if : Bool → ℕ → ℕ → ℕ
xor_if true a k = bit_xor a k
xor_if false a k = k

module _ (f : Numbered → ℕ) where
  unfoldable pub xor_n : ℕ → List Numbered → ℕ
  xor_n v [] = 0
  xor_n v (q ∷ ns) = xor_if (touches v q.edge) (f q) (xor_n v ns)

  swap : (s t : Bool) (a b k : ℕ) → xor_if s a (xor_if t b k) ≡ xor_if t b (xor_if s a k)
  unfolding xor_if
  swap true true a b k = sym (xor_assoc a b k) ∙ ap (λ (z : ℕ). bit_xor z k) (xor_comm a b) ∙ xor_assoc b a k
  swap true false a b k = refl
  swap false true a b k = refl
  swap false false a b k = refl

  xor_split : (v : ℕ) (ns : List Numbered) {q : Numbered} → first_n v ns ≡ some q → (w : ℕ) → xor_n w ns ≡ xor_if (touches w q.edge) (f q) (xor_n w (without_n v ns))
  unfolding first_n without_n xor_n
  xor_split v [] h w = cc
  xor_split v (r ∷ ns) {q} h w = go (touches v r.edge) (λ g. xor_split v ns g w) h
    where
      go : (t : Bool) → (first_n v ns ≡ some q → xor_n w ns ≡ xor_if (touches w q.edge) (f q) (xor_n w (without_n v ns)))
          → cond t (some r) (first_n v ns) ≡ some q
          → xor_if (touches w r.edge) (f r) (xor_n w ns) ≡ xor_if (touches w q.edge) (f q) (xor_n w (cond t ns (r ∷ without_n v ns)))
      go true ih g = let s : r ≡ q = cc in rw s
      go false ih g = rw (ih g) (swap (touches w r.edge) (touches w q.edge) (f r) (f q) (xor_n w (without_n v ns)))

  xor_none : (v : ℕ) (ns : List Numbered) → degree v (edges_n ns) ≡ 0 → xor_n v ns ≡ 0
  unfolding edges_n degree xor_n xor_if
  xor_none v [] h = refl
  xor_none v (q ∷ ns) h = go (touches v q.edge) (xor_none v ns) h
    where
      go : (t : Bool) → (degree v (edges_n ns) ≡ 0 → xor_n v ns ≡ 0) → bump t (degree v (edges_n ns)) ≡ 0 → xor_if t (f q) (xor_n v ns) ≡ 0
      go true ih g = absurd (omega arith)
      go false ih g = ih g

  -- an edge that does not touch
  pub xor_other : (v : ℕ) (ns : List Numbered) {q : Numbered} → first_n v ns ≡ some q → (w : ℕ) → touches w q.edge ≡ false → xor_n w (without_n v ns) ≡ xor_n w ns
  unfolding xor_if
  xor_other v ns {q} h w t = sym (xor_split v ns h w ∙ ap (λ (b : Bool). xor_if b (f q) (xor_n w (without_n v ns))) t)

  -- an edge that does: XOR it once more
  pub xor_removed : (v : ℕ) (ns : List Numbered) {q : Numbered} → first_n v ns ≡ some q → (w : ℕ) → touches w q.edge ≡ true → bit_xor (xor_n w ns) (f q) ≡ xor_n w (without_n v ns)
  unfolding xor_if
  xor_removed v ns {q} h w t =
      let z = xor_n w (without_n v ns) in
      let back : bit_xor (bit_xor z (f q)) (f q) ≡ z = simp xor_laws in
      ap (λ (x : ℕ). bit_xor x (f q)) (xor_split v ns h w ∙ ap (λ (b : Bool). xor_if b (f q) z) t ∙ xor_comm (f q) z) ∙ back

  -- the last edge of v is told by the XOR
  pub xor_alone : (v : ℕ) (ns : List Numbered) {q : Numbered} → first_n v ns ≡ some q → touches v q.edge ≡ true → degree v (without v (edges_n ns)) ≡ 0 → xor_n v ns ≡ f q
  unfolding xor_if
  xor_alone v ns {q} h t d =
      xor_split v ns h v ∙ ap (λ (b : Bool). xor_if b (f q) (xor_n v (without_n v ns))) t
      ∙ ap (bit_xor (f q)) (xor_none v (without_n v ns) (ap (degree v) (edges_without v ns) ∙ d)) ∙ xor_zero_r (f q)

  pub xor_below : (k v : ℕ) (ns : List Numbered) → ((q : Numbered) → f q < 2 ^ k) → 0 < 2 ^ k → xor_n v ns < 2 ^ k
  unfolding xor_n xor_if
  xor_below k v [] h z = z
  xor_below k v (q ∷ ns) h z = go (touches v q.edge) (xor_below k v ns h z)
    where
      go : (t : Bool) → xor_n v ns < 2 ^ k → xor_if t (f q) (xor_n v ns) < 2 ^ k
      go true i = xor_lt k (f q) (xor_n v ns) (h q) i
      go false i = i

  -- one more edge at the end
  pub xor_snoc : (v : ℕ) (ns : List Numbered) (q : Numbered) → xor_n v (ns ++ q ∷ []) ≡ xor_if (touches v q.edge) (f q) (xor_n v ns)
  unfolding xor_n
  xor_snoc v [] q = refl
  xor_snoc v (r ∷ ns) q = ap (xor_if (touches v r.edge) (f r)) (xor_snoc v ns q) ∙ swap (touches v r.edge) (touches v q.edge) (f r) (f q) (xor_n v ns)

pub degree_snoc : (v : ℕ) (ns : List Numbered) (q : Numbered) → degree v (edges_n (ns ++ q ∷ [])) ≡ bump (touches v q.edge) (degree v (edges_n ns))
unfolding edges_n degree
degree_snoc v [] q = refl
degree_snoc v (r ∷ ns) q = ap (bump (touches v r.edge)) (degree_snoc v ns q) ∙ bump_comm (touches v r.edge) (touches v q.edge) (degree v (edges_n ns))
