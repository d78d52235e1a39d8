-- The loops over the table that take the edges in and fill their cells.
use Rattle.std.proofs.Common.{◌≡◌, refl, sym, ap, ◌∙◌, List, [], ◌∷◌, Bool, ℕ, zero, suc, ◌+◌, ◌-◌, ◌≤◌, ◌<◌, length, get_or, drop, Option, arith, add-one}
use lib.Seq.{drop-length}
use Rattle.gf2.specs.Equation.{Each}
use Rattle.peeling.specs.declared.numbers.Edge.{Edge}
use Rattle.peeling.specs.declared.numbers.Vertex.{Vertex}
use Rattle.peeling.specs.Graph.{graph_of}
use Rattle.peel_rules.specs.Edges.{Valid}
use Rattle.peel_rules.specs.Peel.{fill, fill_one}
use Rattle.peel_rules.specs.Machine.{no_edge, side_from, add_edge, build, noted_edge, crowd_of}
use Rattle.peel_steps.specs.Lowest.{vertex_or}
use Rattle.peel_steps.specs.Pictures.{number_at, side_no_at, peeled_in}
use Rattle.walk_rules.proofs.Loops.{drop_at}

-- ---- an edge of a table that keeps its rule
pub valid_at : {n : ℕ} (T : List Edge) (i : ℕ) → Each (Valid n) T → i < length T → Valid n (get_or T i no_edge)
valid_at [] i v h = absurd (omega arith)
valid_at (e ∷ T) zero v h = v.0
valid_at (e ∷ T) (suc i) v h = valid_at T i v.1 (omega arith)

pub valid_more : {n m : ℕ} {e : Edge} → n ≤ m → Valid n e → Valid m e
valid_more h v = record { a< = omega (arith, v.a<); b< = omega (arith, v.b<); c< = omega (arith, v.c<); a≢b = v.a≢b; a≢c = v.a≢c; b≢c = v.b≢c }

-- ---- the edges up to i are taken in
pub record Building (T : List Edge) (numbers₀ bytes₀ : List ℕ) (i : ℕ) (numbers bytes : List ℕ) (low : Option Vertex) : Type 0 where
  pub graph : build i (drop i T) (graph_of numbers bytes) ≡ build 0 T (graph_of numbers₀ bytes₀)
  pub crowd : (n : ℕ) → Each (Valid n) T → crowd_of i (drop i T) (graph_of numbers bytes) (vertex_or n low) ≡ crowd_of 0 T (graph_of numbers₀ bytes₀) n

pub building_turn : {i : ℕ} {T : List Edge} {numbers₀ bytes₀ numbers bytes numbers₁ bytes₁ : List ℕ} {low r : Option Vertex} {e : Edge} → Building T numbers₀ bytes₀ i numbers bytes low → i < length T → e ≡ get_or T i no_edge
    → ((n : ℕ) → Valid n e → vertex_or n r ≡ noted_edge (graph_of numbers bytes) i e (vertex_or n low)) → graph_of numbers₁ bytes₁ ≡ add_edge (graph_of numbers bytes) i e
    → Building T numbers₀ bytes₀ (i + 1) numbers₁ bytes₁ r
unfolding build crowd_of
building_turn {i} {T} {numbers₀} {bytes₀} {numbers} {bytes} {numbers₁} {bytes₁} {low} {r} {e} b h he noted added = record {
  graph = rw (add-one i, added) (ap (λ (l : List Edge). build i l (graph_of numbers bytes)) (sym split) ∙ b.graph);
  crowd = λ n v. rw (add-one i, added, noted n (rw he (valid_at T i v h))) (ap (λ (l : List Edge). crowd_of i l (graph_of numbers bytes) (vertex_or n low)) (sym split) ∙ b.crowd n v);
}
  where
    split : drop i T ≡ e ∷ drop (suc i) T
    split = rw (← add-one i, he) (drop_at T i no_edge h)

pub building_end : {i : ℕ} {T : List Edge} {numbers₀ bytes₀ numbers bytes : List ℕ} {low : Option Vertex} → Building T numbers₀ bytes₀ i numbers bytes low → i ≡ length T
    → ((n : ℕ) → Each (Valid n) T → vertex_or n low ≡ crowd_of 0 T (graph_of numbers₀ bytes₀) n) × (graph_of numbers bytes ≡ build 0 T (graph_of numbers₀ bytes₀))
unfolding build crowd_of
building_end {i} {T} {numbers₀} {bytes₀} {numbers} {bytes} {low} b h = (
  λ n v. ap (λ (l : List Edge). crowd_of i l (graph_of numbers bytes) (vertex_or n low)) (sym none_left) ∙ b.crowd n v,
  ap (λ (l : List Edge). build i l (graph_of numbers bytes)) (sym none_left) ∙ b.graph,
)
  where
    none_left : drop i T ≡ []
    none_left = rw h (drop-length T)

-- ---- the first k peeled edges are still to fill

pub filled_next : (high : Bool) (n k : ℕ) (T : List Edge) (numbers bytes cells : List ℕ) {cells₁ : List ℕ} → 0 < k
    → cells₁ ≡ fill_one (record { edge = get_or T (number_at high n (k - 1) numbers) no_edge; side = side_from (side_no_at high n (k - 1) numbers bytes) }) cells
    → fill (peeled_in high T n (k - 1) numbers bytes) cells₁ ≡ fill (peeled_in high T n k numbers bytes) cells
unfolding peeled_in fill
filled_next high n k T numbers bytes cells h e =
    let one_more : suc (k - 1) ≡ k = omega arith in
    ap (fill (peeled_in high T n (k - 1) numbers bytes)) e ∙ ap (λ (j : ℕ). fill (peeled_in high T n j numbers bytes) cells) one_more

pub none_to_fill : (high : Bool) (n k : ℕ) (T : List Edge) (numbers bytes cells : List ℕ) → k ≤ 0 → fill (peeled_in high T n k numbers bytes) cells ≡ cells
unfolding peeled_in fill
none_to_fill high n zero T numbers bytes cells h = refl
none_to_fill high n (suc k) T numbers bytes cells h = absurd (omega arith)
