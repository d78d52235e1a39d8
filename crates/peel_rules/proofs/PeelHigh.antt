-- The high-memory machine does what the definition on lists does.
use mathlib.Core.Path.{◌≡◌, refl, sym, ap, ◌∙◌}
use mathlib.Core.List.{List, [], ◌∷◌, map}
use mathlib.Core.Option.{Option, none, some}
use Prim.Native.Nat.{ℕ, zero, suc}
use native.Mathlib.Omega.{arith}
use lib.ListN.{length, get_or, replicate}
use lib.Dec.{eqb}
use borrow.Author.Tests.{eq-eqb, ne_eqb}
use Rattle.gf2.specs.Equation.{Each}
use Rattle.peeling.specs.declared.numbers.Edge.{Edge}
use Rattle.peeling.specs.Graph.{Graph, degree_of, sides_of}
use Rattle.peel_rules.specs.Edges.{Valid, edge_at, Side, side_of}
use Rattle.peel_rules.specs.Peel.{Peeled, State, popped, pop, step, run, start, peel, fill, solved, verdict, answer, crowded_vertex}
use Rattle.peel_rules.specs.Machine.{no_edge, side_no, side_from, side_at, graph_after, stack_after, mstart, manswer, High, hpopped, hpop, hstep, hrun, hstart, hassign, hverdict, hanswer}
use Rattle.peel_rules.proofs.PeelBasic.{at_none}
use Rattle.peel_rules.proofs.PeelSolved.{Inv, inv_step, start_inv}
use Rattle.peel_rules.proofs.PeelCore.{Ends, peel_ends}
use Rattle.peel_rules.proofs.PeelXor.{Numbered, edges_n, first_n, without_n, edges_without, first_edge}
use Rattle.peel_rules.proofs.PeelRefines.{Rel, Sim, busy, xor_v, sides_v, side_v, edge_v, lower_eq, rel_after, idle_degree}
use Rattle.peel_rules.proofs.PeelAnswers.{sim_start, machine_answer}

-- the edges that the numbers lead to, with their sides
unfoldable pub rows_of : List Edge → List ℕ → List ℕ → List Peeled
rows_of T [] ts = []
rows_of T (i ∷ is) [] = []
rows_of T (i ∷ is) (t ∷ ts) = record { edge = get_or T i no_edge; side = side_from t } ∷ rows_of T is ts

pub record HighSim (T : List Edge) (n : ℕ) (s : State) (h : High) : Type 0 where
  pub ns : List Numbered
  pub graph : Graph
  pub numbers : List ℕ
  pub sides : List ℕ
  pub left : s.left ≡ edges_n ns
  pub high : h ≡ record { graph = graph; stack = s.stack; numbers = numbers; sides = sides }
  pub rows : rows_of T numbers sides ≡ s.peeled
  pub side_nos : sides ≡ map (λ (p : Peeled). side_no p.side) s.peeled
  pub count : length numbers ≡ length s.peeled
  pub rel : Rel T n ns s.peeled graph

takes_high : (T : List Edge) (n : ℕ) (ns : List Numbered) (v : ℕ) (st : List ℕ) (ps : List Peeled) (g : Graph) (q : Numbered) → first_n v ns ≡ some q → edge_at v (edges_n ns) ≡ some q.edge
    → Inv n (record { left = edges_n ns; stack = v ∷ st; peeled = ps }) → Rel T n ns ps g → (is ts : List ℕ) → rows_of T is ts ≡ ps → ts ≡ map (λ (p : Peeled). side_no p.side) ps → length is ≡ length ps
    → HighSim T n (popped v (edges_n ns) st ps (some q.edge)) (hpopped T g v st is ts (eqb (degree_of g v) 0))
unfolding popped hpopped graph_after stack_after side_at rows_of
takes_high T n ns v st ps g q h he i r is ts rows nos count = record {
  ns = without_n v ns;
  graph = graph_after g v q.number s e;
  numbers = get_or g.edges v 0 ∷ is;
  sides = sides_of g v ∷ ts;
  left = sym (edges_without v ns);
  high =
      ap (hpopped T g v st is ts) (busy T n ns v st ps g q h he i r)
      ∙ ap (λ (j : ℕ). took j (side_at g v) (get_or T (get_or g.edges v 0) no_edge)) (xor_v T n ns v st ps g q h he i r)
      ∙ ap (λ (k : Side). took q.number k (get_or T (get_or g.edges v 0) no_edge)) (side_v T n ns v st ps g q h he i r)
      ∙ ap (λ (d : Edge). took q.number s d) (edge_v T n ns v st ps g q h he i r)
      ∙ (λ j. record { graph = graph_after g v q.number s e; stack = lower_eq T n ns v st ps g q h he i r j; numbers = get_or g.edges v 0 ∷ is; sides = sides_of g v ∷ ts });
  rows = λ j. record { edge = edge_v T n ns v st ps g q h he i r j; side = side_v T n ns v st ps g q h he i r j } ∷ rows j;
  side_nos = λ j. sides_v T n ns v st ps g q h he i r j ∷ nos j;
  count = ap suc count;
  rel = rel_after T n ns v st ps g q h he i r;
}
  where
    e : Edge
    e = q.edge

    s : Side
    s = side_of v e

    took : ℕ → Side → Edge → High
    took j k d = record { graph = graph_after g v j k d; stack = stack_after g v st j k d; numbers = get_or g.edges v 0 ∷ is; sides = sides_of g v ∷ ts }

skip_high : (T : List Edge) (n : ℕ) (ns : List Numbered) (v : ℕ) (st : List ℕ) (ps : List Peeled) (g : Graph) → edge_at v (edges_n ns) ≡ none → Rel T n ns ps g
    → (is ts : List ℕ) → rows_of T is ts ≡ ps → ts ≡ map (λ (p : Peeled). side_no p.side) ps → length is ≡ length ps → HighSim T n (popped v (edges_n ns) st ps none) (hpopped T g v st is ts (eqb (degree_of g v) 0))
unfolding popped hpopped
skip_high T n ns v st ps g h r is ts rows nos count = record {
  ns = ns;
  graph = g;
  numbers = is;
  sides = ts;
  left = refl;
  high = ap (hpopped T g v st is ts) (idle_degree T n ns v ps g (at_none v (edges_n ns) h) r);
  rows = rows;
  side_nos = nos;
  count = count;
  rel = r;
}

high_step : (T : List Edge) (n : ℕ) (s : State) (h : High) → Inv n s → HighSim T n s h → HighSim T n (step s) (hstep T h)
unfolding step hstep pop hpop
high_step T n s h i r = rw r.high (go s.left r.left s.stack s.peeled i r.rel r.rows r.side_nos r.count)
  where
    pick : (v : ℕ) (st : List ℕ) (ps : List Peeled) (o : Option Edge) → edge_at v (edges_n r.ns) ≡ o → Inv n (record { left = edges_n r.ns; stack = v ∷ st; peeled = ps }) → Rel T n r.ns ps r.graph
        → rows_of T r.numbers r.sides ≡ ps → r.sides ≡ map (λ (p : Peeled). side_no p.side) ps → length r.numbers ≡ length ps
        → HighSim T n (popped v (edges_n r.ns) st ps o) (hpopped T r.graph v st r.numbers r.sides (eqb (degree_of r.graph v) 0))
    pick v st ps none q j k a s b = skip_high T n r.ns v st ps r.graph q k r.numbers r.sides a s b
    pick v st ps (some e) q j k a s b =
        let f = first_edge v r.ns e q in
        let q' : edge_at v (edges_n r.ns) ≡ some f.0.edge = rw f.2 q in
        rw (← f.2) (takes_high T n r.ns v st ps r.graph f.0 f.1 q' j k r.numbers r.sides a s b)

    go : (es : List Edge) → es ≡ edges_n r.ns → (st : List ℕ) (ps : List Peeled) → Inv n (record { left = es; stack = st; peeled = ps }) → Rel T n r.ns ps r.graph
        → rows_of T r.numbers r.sides ≡ ps → r.sides ≡ map (λ (p : Peeled). side_no p.side) ps → length r.numbers ≡ length ps
        → HighSim T n (pop es st ps) (hpop T r.graph st r.numbers r.sides)
    go es p [] ps j k a s b = record { ns = r.ns; graph = r.graph; numbers = r.numbers; sides = r.sides; left = p; high = refl; rows = a; side_nos = s; count = b; rel = k }
    go es p (v ∷ st) ps j k a s b = rw p (pick v st ps (edge_at v (edges_n r.ns)) refl (rw p at j) k a s b)

pub high_run : (T : List Edge) (n k : ℕ) (s : State) (h : High) → Inv n s → HighSim T n s h → HighSim T n (run k s) (hrun T k h)
unfolding run hrun
high_run T n zero s h i r = r
high_run T n (suc k) s h i r = high_run T n k (step s) (hstep T h) (inv_step n s i) (high_step T n s h i r)

-- it starts with the graph and the stack of the low-memory machine
pub high_start : (n : ℕ) (T : List Edge) → Each (Valid n) T → crowded_vertex n T ≡ n → HighSim T n (start n T) (hstart n T)
unfolding start hstart mstart rows_of
high_start n T va un =
    let r : Sim T n (start n T) (mstart n T) = sim_start n T va un in
    record {
      ns = r.ns;
      graph = r.graph;
      numbers = [];
      sides = [];
      left = r.left;
      high = λ j. record { graph = (r.machine j).graph; stack = (r.machine j).lower; numbers = []; sides = [] };
      rows = refl;
      side_nos = refl;
      count = refl;
      rel = r.rel;
    }

pub high_peel : (n : ℕ) (T : List Edge) → Each (Valid n) T → crowded_vertex n T ≡ n → HighSim T n (peel n T) (hrun T n (hstart n T))
unfolding peel
high_peel n T va un = high_run T n n (start n T) (hstart n T) (start_inv n T va) (high_start n T va un)

-- the filling from the numbers and sides kept aside is the filling from the edges that they lead to
pub high_assign : (T : List Edge) (is ts x : List ℕ) → hassign T is ts x ≡ fill (rows_of T is ts) x
unfolding hassign rows_of fill
high_assign T [] ts x = refl
high_assign T (i ∷ is) [] x = refl
high_assign T (i ∷ is) (t ∷ ts) x = high_assign T is ts _

pub high_answer : (n : ℕ) (T : List Edge) → Each (Valid n) T → crowded_vertex n T ≡ n → hanswer n T ≡ answer n T
unfolding hanswer hverdict answer verdict
high_answer n T va un = ap (hverdict n T) r.high ∙ go (peel n T).left refl
  where
    r : HighSim T n (peel n T) (hrun T n (hstart n T))
    r = high_peel n T va un

    k : Ends n T
    k = peel_ends n T va

    ps : List Peeled
    ps = (peel n T).peeled

    filled : hassign T r.numbers r.sides (replicate n 0) ≡ fill ps (replicate n 0)
    filled = high_assign T r.numbers r.sides (replicate n 0) ∙ ap (λ (l : List Peeled). fill l (replicate n 0)) r.rows

    go : (l : List Edge) → (peel n T).left ≡ l
        → hverdict n T (record { graph = r.graph; stack = (peel n T).stack; numbers = r.numbers; sides = r.sides }) ≡ verdict n l ps
    go [] q = rw (r.count, eq-eqb (length ps) (length T) (omega (arith, k.count, ap length k.left, ap length q))) (ap solved filled)
    go (e ∷ l) q = rw (r.count, ne_eqb (length ps) (length T) (omega (arith, k.count, ap length k.left, ap length q)))

-- the two machines give one answer
pub machines_agree : (n : ℕ) (T : List Edge) → Each (Valid n) T → crowded_vertex n T ≡ n → hanswer n T ≡ manswer n T
machines_agree n T va un = high_answer n T va un ∙ sym (machine_answer n T va un)
