-- The lowest vertex on a crowd of edges is found while the edges come.
use mathlib.Core.Path.{◌≡◌, sym, ap, ◌∙◌}
use mathlib.Core.List.{List, [], ◌∷◌, ◌++◌, append-nil}
use mathlib.Core.Bool.{true, false, cond}
use mathlib.Core.Logic.{◌≢◌}
use Prim.Native.Nat.{ℕ, suc, ◌%◌}
use native.Mathlib.Omega.{arith}
use lib.ListN.{get_or}
use lib.Seq.{append_snoc}
use borrow.Author.Tests.{ne_eqb, leb-true, leb-false}
use lib.Dec.{eqb, ltb}
use Rattle.peel_rules.specs.Peel.{crowd, crowded_vertex}
use Rattle.peel_rules.specs.Machine.{add_edge, empty, noted, noted_edge, crowd_of}
use Rattle.peel_rules.proofs.PeelXor.{Numbered, edges_n, degree_snoc}
use Rattle.gf2.specs.Equation.{Each}
use Rattle.peel_rules.specs.Edges.{Valid, degree, bump}
use Rattle.peeling.specs.Graph.{Graph, add, overflows}
use Rattle.peeling.specs.declared.numbers.Edge.{Edge}
use Rattle.peel_rules.proofs.PeelCrowd.{Lowest, lowest_is, lowest_one, lowest_cong, bump_thrice}
use Rattle.peel_rules.proofs.PeelBuild.{add_d_other, Sized, ne, Wrapped, small, cell_snoc, number, edges_number, empty_cell, empty_sized, sized_edge}

-- the byte has no room exactly when the degree is 63, up to a multiple of 64
full_yes : (ns : List Numbered) (g : Graph) (v : ℕ) → Wrapped ns g v → overflows g v ≡ true → degree v (edges_n ns) % crowd ≡ 63
full_yes ns g v w h = omega (arith, w.byte, small v ns, leb-true 252 (get_or g.degrees v 0) h)

full_no : (ns : List Numbered) (g : Graph) (v : ℕ) → Wrapped ns g v → overflows g v ≡ false → degree v (edges_n ns) % crowd ≢ 63
full_no ns g v w h q = absurd (omega (arith, w.byte, small v ns, leb-false 252 (get_or g.degrees v 0) h))

noted_edge_lem : (n i : ℕ) (g : Graph) (e : Edge) (low : ℕ) → Valid n e
    → noted_edge g i e low
    ≡ cond (overflows g e.c.0) (cond (ltb e.c.0 (noted g e.b.0 (noted g e.a.0 low))) e.c.0 (noted g e.b.0 (noted g e.a.0 low))) (noted g e.b.0 (noted g e.a.0 low))
unfolding noted_edge noted
noted_edge_lem n i g e low va = rw (
  add_d_other (add g e.a.0 i 0) e.b.0 i 1 e.c.0 (ne va.b≢c),
  add_d_other g e.a.0 i 0 e.c.0 (ne va.a≢c),
  add_d_other g e.a.0 i 0 e.b.0 (ne va.a≢b),
)

lowest_edge : (n i : ℕ) (ns : List Numbered) (g : Graph) (e : Edge) (low : ℕ) → Valid n e → ((v : ℕ) → Wrapped ns g v)
    → Lowest n (λ w. degree w (edges_n ns)) low → Lowest n (λ w. degree w (edges_n (ns ++ record { number = i; edge = e } ∷ []))) (noted_edge g i e low)
unfolding noted
lowest_edge n i ns g e low va c l =
    rw (noted_edge_lem n i g e low va)
    (lowest_cong d₃ (λ w. degree w (edges_n (ns ++ q ∷ []))) (λ w. bump_thrice va w (d₀ w) ∙ sym (degree_snoc w ns q))
    (lowest_one d₂ n e.c.0 (noted g e.b.0 (noted g e.a.0 low)) (overflows g e.c.0) va.c< (λ h. still₂ ∙ full_yes ns g e.c.0 (c e.c.0) h) (λ h k. full_no ns g e.c.0 (c e.c.0) h (sym still₂ ∙ k))
    (lowest_one d₁ n e.b.0 (noted g e.a.0 low) (overflows g e.b.0) va.b< (λ h. still₁ ∙ full_yes ns g e.b.0 (c e.b.0) h) (λ h k. full_no ns g e.b.0 (c e.b.0) h (sym still₁ ∙ k))
    (lowest_one d₀ n e.a.0 low (overflows g e.a.0) va.a< (full_yes ns g e.a.0 (c e.a.0)) (full_no ns g e.a.0 (c e.a.0)) l))))
  where
    q : Numbered
    q = record { number = i; edge = e }

    d₀ : ℕ → ℕ
    d₀ w = degree w (edges_n ns)

    d₁ : ℕ → ℕ
    d₁ w = bump (eqb w e.a.0) (d₀ w)

    d₂ : ℕ → ℕ
    d₂ w = bump (eqb w e.b.0) (d₁ w)

    d₃ : ℕ → ℕ
    d₃ w = bump (eqb w e.c.0) (d₂ w)

    still₁ : d₁ e.b.0 % crowd ≡ degree e.b.0 (edges_n ns) % crowd
    still₁ = rw (ne_eqb e.b.0 e.a.0 (ne va.a≢b))

    still₂ : d₂ e.c.0 % crowd ≡ degree e.c.0 (edges_n ns) % crowd
    still₂ = rw (ne_eqb e.c.0 e.b.0 (ne va.b≢c), ne_eqb e.c.0 e.a.0 (ne va.a≢c))

build_lowest : (n i : ℕ) (es : List Edge) (ns : List Numbered) (g : Graph) (low : ℕ) → Each (Valid n) es → Sized n g → ((v : ℕ) → Wrapped ns g v)
    → Lowest n (λ w. degree w (edges_n ns)) low → Lowest n (λ w. degree w (edges_n (ns ++ number i es))) (crowd_of i es g low)
unfolding crowd_of number
build_lowest n i [] ns g low va z c l = rw (append-nil ns) l
build_lowest n i (e ∷ es) ns g low va z c l =
    let q : Numbered = record { number = i; edge = e } in
    rw (← append_snoc ns q (number (suc i) es))
    (build_lowest n (suc i) es (ns ++ q ∷ []) (add_edge g i e) (noted_edge g i e low) va.1 (sized_edge n g i e va.0 z) (λ v. cell_snoc n ns g i e va.0 z v (c v))
    (lowest_edge n i ns g e low va.0 c l))

-- the machine finds the lowest vertex that lies on a crowd of edges
pub crowd_found : (n : ℕ) (T : List Edge) → Each (Valid n) T → crowd_of 0 T (empty n) n ≡ crowded_vertex n T
unfolding edges_n degree
crowd_found n T va =
    sym (lowest_is n T (crowd_of 0 T (empty n) n)
    (lowest_cong (λ w. degree w (edges_n (number 0 T))) (λ w. degree w T) (λ w. ap (degree w) (edges_number 0 T))
    (build_lowest n 0 T [] (empty n) n va (empty_sized n) (empty_cell n) (record { within = omega arith; is = λ h. absurd (omega arith); none_before = λ w h. omega arith }))))
