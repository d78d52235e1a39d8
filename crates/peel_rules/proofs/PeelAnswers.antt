-- The machine starts, runs and answers as the definition says.
use mathlib.Core.Path.{◌≡◌, refl, sym, ap, ◌∙◌}
use mathlib.Core.List.{List, [], ◌∷◌, map}
use Prim.Native.Nat.{ℕ, zero, suc, ◌<◌}
use native.Mathlib.Omega.{arith}
use lib.ListN.{length-map, length, replicate}
use borrow.Author.Tests.{eq-eqb, ne_eqb}
use Rattle.peel_rules.specs.Peel.{Peeled, ones, start, peel, fill, solved, verdict, answer, crowded_vertex}
use Rattle.peel_rules.proofs.PeelSolved.{start_inv}
use Rattle.peel_rules.proofs.PeelCore.{Ends, peel_ends}
use Rattle.peel_rules.specs.Machine.{mrun, assign, build, empty, mones, mstart, mverdict, manswer}
use Rattle.peel_rules.proofs.PeelXor.{Numbered, edges_n}
use Rattle.peel_rules.proofs.PeelRefines.{Cell, pivot_of, Sim, sim_run, sim_assign}
use Rattle.gf2.specs.Equation.{Each}
use Rattle.peel_rules.specs.Edges.{Valid, degree}
use Rattle.peeling.specs.Graph.{Graph, degree_of}
use Rattle.peeling.specs.declared.numbers.Edge.{Edge}
use Rattle.peel_rules.proofs.PeelCrowd.{uncrowded}
use Rattle.peel_rules.proofs.PeelBuild.{Sized, Wrapped, unwrapped, small, number, edges_number, named_number, build_cells, empty_cell, empty_sized}

cell_degree : (ns : List Numbered) (g : Graph) (v : ℕ) → Cell ns g v → degree_of g v ≡ degree v (edges_n ns)
cell_degree ns g v c = omega (arith, c.byte, small v ns)

mones_eq : (n : ℕ) (g : Graph) (es : List Edge) → ((v : ℕ) → v < n → degree_of g v ≡ degree v es) → mones n g ≡ ones n es
unfolding mones ones
mones_eq zero g es h = refl
mones_eq (suc v) g es h = rw (h v (omega arith), mones_eq v g es (λ w l. h w (omega arith)))

-- ---- the machine starts, runs and answers as the definition says
pub sim_start : (n : ℕ) (T : List Edge) → Each (Valid n) T → crowded_vertex n T ≡ n → Sim T n (start n T) (mstart n T)
unfolding start mstart
sim_start n T va un = record {
  ns = number 0 T;
  graph = build 0 T (empty n);
  left = sym (edges_number 0 T);
  machine = λ j. record { graph = build 0 T (empty n); lower = mones_eq n (build 0 T (empty n)) T (λ v h. cell_degree (number 0 T) (build 0 T (empty n)) v (cell v h) ∙ ap (degree v) (edges_number 0 T)) j; upper = [] };
  rel = record { named = named_number [] T 0 refl; size_x = b.0.x; size_d = b.0.d; cells = λ v h k. cell v h; kept = tt };
}
  where
    b : Sized n (build 0 T (empty n)) × ((v : ℕ) → Wrapped (number 0 T) (build 0 T (empty n)) v)
    b = build_cells n 0 T [] (empty n) va (empty_sized n) (empty_cell n)

    cell : (v : ℕ) → v < n → Cell (number 0 T) (build 0 T (empty n)) v
    cell v h = unwrapped (number 0 T) (build 0 T (empty n)) v (rw (edges_number 0 T) (uncrowded n T un v h)) (b.1 v)

pub sim_peel : (n : ℕ) (T : List Edge) → Each (Valid n) T → crowded_vertex n T ≡ n → Sim T n (peel n T) (mrun T n (mstart n T))
unfolding peel
sim_peel n T va un = sim_run T n n (start n T) (mstart n T) (start_inv n T va) (sim_start n T va un)

pub machine_answer : (n : ℕ) (T : List Edge) → Each (Valid n) T → crowded_vertex n T ≡ n → manswer n T ≡ answer n T
unfolding manswer mverdict answer verdict
machine_answer n T va un = ap (mverdict n T) r.machine ∙ go (peel n T).left refl
  where
    r : Sim T n (peel n T) (mrun T n (mstart n T))
    r = sim_peel n T va un

    k : Ends n T
    k = peel_ends n T va

    ps : List Peeled
    ps = (peel n T).peeled

    len : length (map pivot_of ps) ≡ length ps
    len = length-map ps pivot_of

    filled : assign T r.graph (map pivot_of ps) (replicate n 0) ≡ fill ps (replicate n 0)
    filled = sim_assign T r.graph (edges_n r.ns) ps (replicate n 0) r.rel.kept

    go : (l : List Edge) → (peel n T).left ≡ l
        → mverdict n T (record { graph = r.graph; lower = (peel n T).stack; upper = map pivot_of ps }) ≡ verdict n l ps
    go [] q = rw (len, eq-eqb (length ps) (length T) (omega (arith, k.count, ap length k.left, ap length q))) (ap solved filled)
    go (e ∷ l) q = rw (len, ne_eqb (length ps) (length T) (omega (arith, k.count, ap length k.left, ap length q)))
