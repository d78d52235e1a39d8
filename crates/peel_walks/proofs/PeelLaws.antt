-- The peeling loop over the areas is the run of the rules.
use mathlib.Core.Path.{◌≡◌, refl, sym, ap, ◌∙◌, subst}
use mathlib.Core.List.{List, [], ◌∷◌, map}
use mathlib.Core.Bool.{Bool, true, false, cond}
use mathlib.Core.Option.{Option, none, some}
use Prim.Native.Nat.{ℕ, zero, suc, ◌+◌, ◌-◌, ◌*◌, ◌/◌, ◌%◌, ◌≤◌, ◌<◌}
use native.Mathlib.Omega.{arith}
use native.Mathlib.Numerals.{add-one}
use native.Mathlib.Nat.{zero-add, suc-add}
use lib.ListN.{get_or-eq_default, length, get_or, set, take, drop, length-set}
use lib.Seq.{get_or-set_same, get_or-set_other, drop-set-lt, take-set-le, get_or-drop}
use lib.Dec.{eqb, ltb, leb}
use borrow.Author.Tests.{leb-true, leb-false, ltb-true, ltb-false, eqb-true, eqb-false}
use Rattle.gf2.specs.Equation.{Each}
use Rattle.peeling.specs.declared.numbers.Edge.{Edge}
use Rattle.peeling.specs.Graph.{Graph, degree_of, remove, clear}
use Rattle.peel_rules.specs.Edges.{Valid, edge_at, without, degree, Side, side0, side1, side2, side_of, pivot, first, second}
use Rattle.peel_rules.specs.Peel.{Peeled, State, push, popped, pop, step, run, ones, start, peel}
use Rattle.peel_rules.specs.Machine.{no_edge, side_from, side_no, first_side, side_at, Machine, graph_after, stack_after, mstart}
use Rattle.peel_rules.proofs.PeelBasic.{pivot_of_lem, at_touches, at_none, all_at, step-inv, run-inv}
use Rattle.peel_rules.proofs.PeelSolved.{Inv, Good, inv_skip, inv_takes, start_inv}
use Rattle.peel_rules.proofs.PeelEmpty.{heavy, sum_cong, first<, second<, weight, step_falls, run_idle, peel_empties, work}
use Rattle.peel_rules.proofs.PeelCore.{without_length}
use Rattle.peel_rules.proofs.PeelXor.{Numbered, edges_n, first_n, without_n, edges_without, first_edge, xor_below}
use Rattle.peel_rules.proofs.PeelRefines.{Rel, Sim, TakeFacts, pivot_of, is_pivot, kept_pivot, Kept, side_small, side_w, xor_v, busy, side_v, edge_v, lower_eq, rel_after, take_facts, idle_degree}
use Rattle.peel_rules.proofs.PeelAnswers.{sim_start}
use Rattle.peel_rules.proofs.PeelRoom.{both_fit}
use Rattle.peel_turns.specs.declared.visiting.Heads.{Heads}
use Rattle.peel_steps.specs.Pictures.{graph_in, rising, falling, stack_in, kept_numbers, kept_bytes, number_at, peeled_in}
use Rattle.peel_gates.specs.Rooms.{numbers_room, bytes_room}
use Rattle.peel_turns.specs.Steps.{Holds, TakenOff, Keeps, top_of, Busy, Turns, Turned}
use Rattle.peel_steps.specs.Pictures.{Reads}
use Rattle.peel_steps.proofs.SideLaws.{pivot<}
use Rattle.peel_turns.proofs.PictureLaws.{rising_length, rising_above, falling_below, in_graph, drop_agrees}
use Rattle.peel_walks.specs.Walks.{PeelStarts, PeelEnds}

-- ---- a vertex is popped

-- it has an edge, which is number i at side s
pub record Taking (T : List Edge) (n : ℕ) (ns : List Numbered) (v : ℕ) (st : List ℕ) (ps : List Peeled) (g : Graph) (i : ℕ) (s : Side) (d : Edge) : Type 0 where
  pub facts : TakeFacts T n g v
  pub state : pop (edges_n ns) (v ∷ st) ps ≡ record { left = without v (edges_n ns); stack = stack_after g v st i s d; peeled = record { edge = d; side = s } ∷ ps }
  pub rel : Rel T n (without_n v ns) (record { edge = d; side = s } ∷ ps) (graph_after g v i s d)
  pub pivot_is : pivot s d ≡ v
  pub some_left : 0 < length (edges_n ns)

pub taking : (T : List Edge) (n : ℕ) (ns : List Numbered) (v : ℕ) (st : List ℕ) (ps : List Peeled) (g : Graph) → Inv n (record { left = edges_n ns; stack = v ∷ st; peeled = ps }) → Rel T n ns ps g
    → 4 ≤ get_or g.degrees v 0 → Taking T n ns v st ps g (get_or g.edges v 0) (side_at g v) (get_or T (get_or g.edges v 0) no_edge)
unfolding pop popped stack_after graph_after
taking T n ns v st ps g j r h = pick (edge_at v (edges_n ns)) refl
  where
    Out : ℕ → Side → Edge → Type 0
    Out i s d = Taking T n ns v st ps g i s d

    pick : (o : Option Edge) → edge_at v (edges_n ns) ≡ o → Taking T n ns v st ps g (get_or g.edges v 0) (side_at g v) (get_or T (get_or g.edges v 0) no_edge)
    pick none q = absurd (omega (arith, h, eqb-true (get_or g.degrees v 0 / 4) 0 (idle_degree T n ns v ps g (at_none v (edges_n ns) q) r)))
    pick (some e) q =
        let a = first_edge v ns e q in
        let he : edge_at v (edges_n ns) ≡ some a.0.edge = rw a.2 q in
        rw (xor_v T n ns v st ps g a.0 a.1 he j r, side_v T n ns v st ps g a.0 a.1 he j r, named a.0 a.1 he) (record {
          facts = take_facts T n ns v st ps g a.0 a.1 he j r;
          state = ap (popped v (edges_n ns) st ps) he ∙ (λ k. record {
            left = without v (edges_n ns);
            stack = sym (lower_eq T n ns v st ps g a.0 a.1 he j r) k;
            peeled = record { edge = a.0.edge; side = side_of v a.0.edge } ∷ ps;
          });
          rel = rel_after T n ns v st ps g a.0 a.1 he j r;
          pivot_is = pivot_of_lem v a.0.edge (at_touches v (edges_n ns) he);
          some_left = omega (arith, without_length v (edges_n ns) he);
        })
      where
        named : (p : Numbered) (hf : first_n v ns ≡ some p) (he : edge_at v (edges_n ns) ≡ some p.edge) → get_or T p.number no_edge ≡ p.edge
        named p hf he = ap (λ (k : ℕ). get_or T k no_edge) (sym (xor_v T n ns v st ps g p hf he j r)) ∙ edge_v T n ns v st ps g p hf he j r

pub skipping : (T : List Edge) (n : ℕ) (ns : List Numbered) (v : ℕ) (st : List ℕ) (ps : List Peeled) (g : Graph) → Inv n (record { left = edges_n ns; stack = v ∷ st; peeled = ps }) → Rel T n ns ps g
    → get_or g.degrees v 0 < 4 → pop (edges_n ns) (v ∷ st) ps ≡ record { left = edges_n ns; stack = st; peeled = ps }
unfolding pop popped
skipping T n ns v st ps g j r h = pick (edge_at v (edges_n ns)) refl
  where
    pick : (o : Option Edge) → edge_at v (edges_n ns) ≡ o → popped v (edges_n ns) st ps (edge_at v (edges_n ns)) ≡ record { left = edges_n ns; stack = st; peeled = ps }
    pick none q = ap (popped v (edges_n ns) st ps) q
    pick (some e) q =
        let a = first_edge v ns e q in
        let he : edge_at v (edges_n ns) ≡ some a.0.edge = rw a.2 q in
        let z : get_or g.degrees v 0 / 4 ≡ 0 = omega (arith, h) in
        absurd (eqb-false (get_or g.degrees v 0 / 4) 0 (busy T n ns v st ps g a.0 a.1 he j r) z)

-- ---- the degrees in the bytes are those of the edges that are left

degrees_in : (T : List Edge) (n : ℕ) (ns : List Numbered) (ps : List Peeled) (g : Graph) → Rel T n ns ps g → (w : ℕ) → w < n → degree_of g w ≡ degree w (edges_n ns)
degrees_in T n ns ps g r w h = go (is_pivot w ps) refl
  where
    go : (b : Bool) → is_pivot w ps ≡ b → degree_of g w ≡ degree w (edges_n ns)
    go true q = let k = kept_pivot T g (edges_n ns) w ps r.kept q in omega (arith, k.0, k.1)
    go false q = omega (arith, (r.cells w h q).byte, xor_below (side_w w) 2 w ns (λ p. side_small (side_of w p.edge)) (omega arith))

-- ---- what the run keeps

pub run_suc : (k : ℕ) (s : State) → run (suc k) s ≡ step (run k s)
unfolding run
run_suc zero s = refl
run_suc (suc k) s = run_suc k (step s)

run_add : (i j : ℕ) (s : State) → run (i + j) s ≡ run j (run i s)
unfolding run
run_add zero j s = rw (zero-add j)
run_add (suc i) j s = rw (suc-add i j) (run_add i j (step s))

run_still : (j : ℕ) (s : State) → s.stack ≡ [] → run j s ≡ s
run_still j s h = ap (λ (l : List ℕ). run j (record { left = s.left; stack = l; peeled = s.peeled })) h ∙ run_idle j s.left s.peeled ∙ ap (λ (l : List ℕ). record { left = s.left; stack = l; peeled = s.peeled }) (sym h)

pub record Sane (n m : ℕ) (s : State) : Type 0 where
  pub inv : Inv n s
  pub below : Each (λ w. w < n) s.stack
  pub count : length s.peeled + length s.left ≡ m

below_push : (n : ℕ) (es : List Edge) (w : ℕ) (st : List ℕ) → w < n → Each (λ u. u < n) st → Each (λ u. u < n) (push es w st)
unfolding push
below_push n es w st h b = go (eqb (degree w es) 2)
  where
    go : (c : Bool) → Each (λ u. u < n) (cond c (w ∷ st) st)
    go true = (h, b)
    go false = b

below_ones : (m n : ℕ) (es : List Edge) → m ≤ n → Each (λ u. u < n) (ones m es)
unfolding ones
below_ones zero n es h = tt
below_ones (suc m) n es h = go (eqb (degree m es) 1) (below_ones m n es (omega arith))
  where
    go : (c : Bool) → Each (λ u. u < n) (ones m es) → Each (λ u. u < n) (cond c (m ∷ ones m es) (ones m es))
    go true b = (h, b)
    go false b = b

pub sane_run : (n k : ℕ) (T : List Edge) → Each (Valid n) T → Sane n (length T) (run k (start n T))
unfolding start popped
sane_run n k T v = run-inv (Sane n (length T)) (step-inv (Sane n (length T))
    (λ fs v st ps h s. record { inv = inv_skip n fs v st ps s.inv; below = s.below.1; count = s.count })
    (λ fs v st ps e h s.
    let va = all_at (Valid n) v fs h s.inv.valid in
    record {
      inv = inv_takes n fs v st ps e h s.inv;
      below = below_push n fs (second (side_of v e) e) (push fs (first (side_of v e) e) st) (second< va (side_of v e)) (below_push n fs (first (side_of v e) e) st (first< va (side_of v e)) s.below.1);
      count = omega (arith, without_length v fs h, s.count);
    }))
    k (start n T) (record { inv = start_inv n T v; below = below_ones n n T (omega arith); count = omega arith })

none_left : (l : List ℕ) → length l ≤ 0 → l ≡ []
none_left [] h = refl
none_left (v ∷ l) h = absurd (omega arith)

-- a run that has emptied the stack is the whole run
run_over : (n k : ℕ) (T : List Edge) → Each (Valid n) T → (run k (start n T)).stack ≡ [] → run k (start n T) ≡ peel n T
unfolding peel
run_over n k T va h = go (leb k n) refl
  where
    go : (b : Bool) → leb k n ≡ b → run k (start n T) ≡ run n (start n T)
    go true q =
        let le = leb-true k n q in
        let p : k + (n - k) ≡ n = omega arith in
        sym (run_still (n - k) (run k (start n T)) h) ∙ sym (run_add k (n - k) (start n T)) ∙ ap (λ (j : ℕ). run j (start n T)) p
    go false q =
        let lt = leb-false k n q in
        let p : n + (k - n) ≡ k = omega arith in
        ap (λ (j : ℕ). run j (start n T)) (sym p) ∙ run_add n (k - n) (start n T) ∙ run_still (k - n) (run n (start n T)) (peel_empties n T va)

-- ---- the record of peeled edges, while the peeling goes on

abbrev pub Logged : Bool → List Edge → ℕ → ℕ → List ℕ → List ℕ → List Peeled → Type 0
Logged true T n k numbers bytes ps = peeled_in true T n k numbers bytes ≡ ps
Logged false T n k numbers bytes ps = falling (n + n) k numbers ≡ map pivot_of ps

cell_agrees : (a j : ℕ) (l l' : List ℕ) → a ≤ j → drop a l ≡ drop a l' → get_or l j 0 ≡ get_or l' j 0
cell_agrees a j l l' h q =
    let p : a + (j - a) ≡ j = omega arith in
    ap (λ (i : ℕ). get_or l i 0) (sym p) ∙ sym (get_or-drop a l (j - a) 0) ∙ ap (λ (m : List ℕ). get_or m (j - a) 0) q ∙ get_or-drop a l' (j - a) 0 ∙ ap (λ (i : ℕ). get_or l' i 0) p

falling_agrees : (a e k : ℕ) (l l' : List ℕ) → a + k ≤ e → drop a l ≡ drop a l' → falling e k l ≡ falling e k l'
unfolding falling
falling_agrees a e zero l l' h q = refl
falling_agrees a e (suc k) l l' h q = rw (cell_agrees a (e - suc k) l l' (omega arith) q, falling_agrees a e k l l' (omega arith) q)

peeled_agrees : (T : List Edge) (n k a : ℕ) (l l' b b' : List ℕ) → a ≤ n + n → drop a l ≡ drop a l' → drop n b ≡ drop n b' → peeled_in true T n k l b ≡ peeled_in true T n k l' b'
unfolding peeled_in
peeled_agrees T n zero a l l' b b' h q p = refl
peeled_agrees T n (suc k) a l l' b b' h q p = rw (cell_agrees a (n + n + k) l l' (omega arith) q, cell_agrees n (n + k) b b' (omega arith) p, peeled_agrees T n k a l l' b b' h q p)

peeled_set : (T : List Edge) (n k j i t : ℕ) (l b : List ℕ) → k ≤ j → peeled_in true T n k (set l (n + n + j) i) (set b (n + j) t) ≡ peeled_in true T n k l b
unfolding peeled_in
peeled_set T n zero j i t l b h = refl
peeled_set T n (suc k) j i t l b h = rw (get_or-set_other l (n + n + j) (n + n + k) i 0 (omega arith), get_or-set_other b (n + j) (n + k) t 0 (omega arith), peeled_set T n k j i t l b (omega arith))

logged_more : (high : Bool) (T : List Edge) (n k r v i t : ℕ) (numbers bytes numbers' bytes' : List ℕ) (ps : List Peeled) → r + suc k ≤ n → Keeps high n k numbers bytes
    → drop (n + r) numbers' ≡ drop (n + r) (kept_numbers high n k v i numbers) → drop n bytes' ≡ drop n (kept_bytes high n k t bytes)
    → pivot (side_from t) (get_or T i no_edge) ≡ v → Logged high T n k numbers bytes ps → Logged high T n (suc k) numbers' bytes' (record { edge = get_or T i no_edge; side = side_from t } ∷ ps)
unfolding peeled_in falling
logged_more true T n k r v i t numbers bytes numbers' bytes' ps fit keeps hn hb pv l =
    rw (
      cell_agrees (n + r) (n + n + k) numbers' (set numbers (n + n + k) i) (omega arith) hn ∙ get_or-set_same numbers (n + n + k) i 0 keeps.0,
      cell_agrees n (n + k) bytes' (set bytes (n + k) t) (omega arith) hb ∙ get_or-set_same bytes (n + k) t 0 keeps.1,
      peeled_agrees T n k (n + r) numbers' (set numbers (n + n + k) i) bytes' (set bytes (n + k) t) (omega arith) hn hb ∙ peeled_set T n k k i t numbers bytes (omega arith) ∙ l,
    )
logged_more false T n k r v i t numbers bytes numbers' bytes' ps fit keeps hn hb pv l =
    let e : n + n - suc k ≡ n + n - (k + 1) = omega arith in
    let one : get_or numbers' (n + n - suc k) 0 ≡ v = cell_agrees (n + r) (n + n - suc k) numbers' (set numbers (n + n - (k + 1)) v) (omega arith) hn ∙ ap (λ (j : ℕ). get_or (set numbers (n + n - (k + 1)) v) j 0) e ∙ get_or-set_same numbers (n + n - (k + 1)) v 0 (omega (arith, keeps.0, keeps.1)) in
    let more : falling (n + n) k numbers' ≡ map pivot_of ps = falling_agrees (n + r) (n + n) k numbers' (set numbers (n + n - (k + 1)) v) (omega arith) hn ∙ falling_below (n + n) k (n + n - (k + 1)) v numbers (omega (arith, keeps.0)) ∙ l in
    rw (one, more, pv)

-- ---- the record, when the peeling is over

side_back : (s : Side) → side_from (side_no s) ≡ s
unfolding side_from side_no
side_back side0 = refl
side_back side1 = refl
side_back side2 = refl

good_valid : (n : ℕ) (es : List Edge) (ps : List Peeled) → Good n es ps → Each (λ p. Valid n p.edge) ps
good_valid n es [] g = tt
good_valid n es (p ∷ ps) g = (g.0, good_valid n (p.edge ∷ es) ps g.2)

pivots_below : (n : ℕ) (ps : List Peeled) → Each (λ p. Valid n p.edge) ps → Each (λ v. v < n) (map pivot_of ps)
pivots_below n [] e = tt
pivots_below n (p ∷ ps) e = (pivot< e.0 p.side, pivots_below n ps e.1)

low_rows : (T : List Edge) (n k : ℕ) (numbers bytes : List ℕ) (es : List Edge) (ps : List Peeled) → Kept T (graph_in n numbers bytes) es ps → Each (λ v. v < n) (map pivot_of ps)
    → falling (n + n) k numbers ≡ map pivot_of ps → peeled_in false T n k numbers bytes ≡ ps
unfolding peeled_in falling
low_rows T n zero numbers bytes es [] kp b q = refl
low_rows T n zero numbers bytes es (p ∷ ps) kp b q = absurd (omega (arith, ap length q))
low_rows T n (suc k) numbers bytes es [] kp b q = absurd (omega (arith, ap length q))
low_rows T n (suc k) numbers bytes es (p ∷ ps) kp b q =
    let one : get_or numbers (n + n - suc k) 0 ≡ pivot_of p = cc in
    let more : falling (n + n) k numbers ≡ map pivot_of ps = cc in
    let at : n + n - (k + 1) ≡ n + n - suc k = omega arith in
    let v : get_or numbers (n + n - (k + 1)) 0 ≡ pivot_of p = ap (λ (j : ℕ). get_or numbers j 0) at ∙ one in
    let e : get_or T (get_or numbers (get_or numbers (n + n - (k + 1)) 0) 0) no_edge ≡ p.edge = ap (λ (j : ℕ). get_or T (get_or numbers j 0) no_edge) v ∙ ap (λ (j : ℕ). get_or T j no_edge) (sym (in_graph n (pivot_of p) numbers b.0)) ∙ kp.0.edge in
    let t : get_or bytes (get_or numbers (n + n - (k + 1)) 0) 0 % 4 ≡ side_no p.side = ap (λ (j : ℕ). get_or bytes j 0 % 4) v ∙ omega (arith, in_graph n (pivot_of p) bytes b.0, kp.0.byte, side_small p.side) in
    λ j. record { edge = e j; side = (ap side_from t ∙ side_back p.side) j } ∷ low_rows T n k numbers bytes es ps kp.1 b.1 more j

nth_valid : (high : Bool) (T : List Edge) (n c : ℕ) (numbers bytes : List ℕ) → Each (λ p. Valid n p.edge) (peeled_in high T n c numbers bytes) → (k : ℕ) → k < c → Valid n (get_or T (number_at high n k numbers) no_edge)
unfolding peeled_in
nth_valid high T n zero numbers bytes e k h = absurd (omega arith)
nth_valid high T n (suc c) numbers bytes e k h = go (eqb k c) refl (nth_valid high T n c numbers bytes e.1 k)
  where
    go : (b : Bool) → eqb k c ≡ b → (k < c → Valid n (get_or T (number_at high n k numbers) no_edge)) → Valid n (get_or T (number_at high n k numbers) no_edge)
    go true q ih = subst (λ (j : ℕ). Valid n (get_or T (number_at high n j numbers) no_edge)) (sym (eqb-true k c q)) e.0
    go false q ih = let ne = eqb-false k c q in ih (omega arith)

nth_below : (n e c : ℕ) (l : List ℕ) → Each (λ v. v < n) (falling e c l) → (k : ℕ) → k < c → get_or l (e - (k + 1)) 0 < n
unfolding falling
nth_below n e zero l b k h = absurd (omega arith)
nth_below n e (suc c) l b k h = go (eqb k c) refl (nth_below n e c l b.1 k)
  where
    go : (t : Bool) → eqb k c ≡ t → (k < c → get_or l (e - (k + 1)) 0 < n) → get_or l (e - (k + 1)) 0 < n
    go true q ih = let p : e - (k + 1) ≡ e - suc c = omega (arith, eqb-true k c q) in rw p b.0
    go false q ih = let ne = eqb-false k c q in ih (omega arith)

pub in_table : {n : ℕ} (T : List Edge) (i : ℕ) → Valid n (get_or T i no_edge) → i < length T
in_table T i v = go (ltb i (length T)) refl
  where
    go : (b : Bool) → ltb i (length T) ≡ b → i < length T
    go true k = ltb-true i (length T) k
    go false k =
        let z : get_or T i no_edge ≡ no_edge = get_or-eq_default T no_edge {n = i} (ltb-false i (length T) k) in
        absurd (v.a≢b (ap (λ (d : Edge). d.a.0) z ∙ sym (ap (λ (d : Edge). d.b.0) z)))

logged_rows : (high : Bool) (T : List Edge) (n k : ℕ) (numbers bytes : List ℕ) (es : List Edge) (ps : List Peeled) → Kept T (graph_in n numbers bytes) es ps → Each (λ p. Valid n p.edge) ps
    → Logged high T n k numbers bytes ps → peeled_in high T n k numbers bytes ≡ ps
logged_rows true T n k numbers bytes es ps kp e l = l
logged_rows false T n k numbers bytes es ps kp e l = low_rows T n k numbers bytes es ps kp (pivots_below n ps e) l

logged_reads : (high : Bool) (T : List Edge) (n m c : ℕ) (numbers bytes : List ℕ) (ps : List Peeled) → Each (λ p. Valid n p.edge) ps → Logged high T n c numbers bytes ps
    → numbers_room high n m ≤ length numbers → bytes_room high n m ≤ length bytes → c ≤ m → c ≤ n → (k : ℕ) → k < c → Reads high n k numbers bytes
logged_reads true T n m c numbers bytes ps e l a b h j k q = (omega arith, omega arith)
logged_reads false T n m c numbers bytes ps e l a b h j k q =
    let v = nth_below n (n + n) c numbers (subst (Each (λ u. u < n)) (sym l) (pivots_below n ps e)) k q in
    record { k< = omega arith; room = omega arith; v_n = omega (arith, v); v_b = omega (arith, v) }

-- ---- the loop

pub record Loop (high : Bool) (n : ℕ) (T : List Edge) (numbers₀ bytes₀ numbers bytes : List ℕ) (h : Heads) : Type 0 where
  pub pops : ℕ
  pub ns : List Numbered
  pub left : (run pops (start n T)).left ≡ edges_n ns
  pub rel : Rel T n ns (run pops (start n T)).peeled (graph_in n numbers bytes)
  pub stack : stack_in n h.stack numbers ≡ (run pops (start n T)).stack
  pub logged : Logged high T n h.peeled numbers bytes (run pops (start n T)).peeled
  pub count : h.peeled ≡ length (run pops (start n T)).peeled
  pub long : length numbers ≡ length numbers₀
  pub long_b : length bytes ≡ length bytes₀
  pub rest : drop (numbers_room high n (length T)) numbers ≡ drop (numbers_room high n (length T)) numbers₀
  pub rest_b : drop (bytes_room high n (length T)) bytes ≡ drop (bytes_room high n (length T)) bytes₀

-- the room has the graph and the stack, and the record behind them
rooms : (high : Bool) (n m : ℕ) → (n + n ≤ numbers_room high n m) × (n ≤ bytes_room high n m)
rooms true n m = (omega arith, omega arith)
rooms false n m = (omega arith, omega arith)

keeps_room : (high : Bool) (n m k : ℕ) (numbers bytes : List ℕ) → numbers_room high n m ≤ length numbers → bytes_room high n m ≤ length bytes → k < m → k < n → Keeps high n k numbers bytes
keeps_room true n m k numbers bytes a b h j = (omega arith, omega arith)
keeps_room false n m k numbers bytes a b h j = (j, omega arith)

kept_take : (high : Bool) (n k v i : ℕ) (numbers : List ℕ) → k < n → take n (kept_numbers high n k v i numbers) ≡ take n numbers
kept_take true n k v i numbers h = take-set-le n numbers (n + n + k) i (omega arith)
kept_take false n k v i numbers h = take-set-le n numbers (n + n - (k + 1)) v (omega arith)

kept_take_b : (high : Bool) (n k t : ℕ) (bytes : List ℕ) → take n (kept_bytes high n k t bytes) ≡ take n bytes
kept_take_b true n k t bytes = take-set-le n bytes (n + k) t (omega arith)
kept_take_b false n k t bytes = refl

kept_stack : (high : Bool) (n k v i j : ℕ) (numbers : List ℕ) → j + k < n → rising n j (kept_numbers high n k v i numbers) ≡ rising n j numbers
kept_stack true n k v i j numbers h = rising_above n j (n + n + k) i numbers (omega arith)
kept_stack false n k v i j numbers h = rising_above n j (n + n - (k + 1)) v numbers (omega arith)

kept_rest : (high : Bool) (n m k v i : ℕ) (numbers : List ℕ) → k < m → k < n → drop (numbers_room high n m) (kept_numbers high n k v i numbers) ≡ drop (numbers_room high n m) numbers
kept_rest true n m k v i numbers h j = drop-set-lt (2 * n + m) numbers (n + n + k) i (omega arith)
kept_rest false n m k v i numbers h j = drop-set-lt (2 * n) numbers (n + n - (k + 1)) v (omega arith)

kept_rest_b : (high : Bool) (n m k t : ℕ) (bytes : List ℕ) → k < m → drop (bytes_room high n m) (kept_bytes high n k t bytes) ≡ drop (bytes_room high n m) bytes
kept_rest_b true n m k t bytes h = drop-set-lt (n + m) bytes (n + k) t (omega arith)
kept_rest_b false n m k t bytes h = refl

kept_long : (high : Bool) (n k v i : ℕ) (numbers : List ℕ) → length (kept_numbers high n k v i numbers) ≡ length numbers
kept_long true n k v i numbers = length-set numbers (n + n + k) i
kept_long false n k v i numbers = length-set numbers (n + n - (k + 1)) v

kept_long_b : (high : Bool) (n k t : ℕ) (bytes : List ℕ) → length (kept_bytes high n k t bytes) ≡ length bytes
kept_long_b true n k t bytes = length-set bytes (n + k) t
kept_long_b false n k t bytes = refl

none_logged : (high : Bool) (T : List Edge) (n : ℕ) (numbers bytes : List ℕ) → Logged high T n 0 numbers bytes []
unfolding peeled_in falling
none_logged true T n numbers bytes = refl
none_logged false T n numbers bytes = refl

module _ {high : Bool} {n : ℕ} {T : List Edge} {numbers₀ bytes₀ : List ℕ} {h₀ : Heads} (s : PeelStarts high n T numbers₀ bytes₀ h₀) where
  pub loop_begins : Loop high n T numbers₀ bytes₀ numbers₀ bytes₀ h₀
  unfolding run start mstart
  loop_begins =
      let r : Sim T n (start n T) (mstart n T) = sim_start n T s.valid s.uncrowded in
      record {
        pops = 0;
        ns = r.ns;
        left = r.left;
        rel = subst (Rel T n r.ns []) (sym (s.graph ∙ ap (λ (m : Machine). m.graph) r.machine)) r.rel;
        stack = s.stack ∙ ap (λ (m : Machine). m.lower) r.machine;
        logged = rw s.none (none_logged high T n numbers₀ bytes₀);
        count = s.none;
        long = refl;
        long_b = refl;
        rest = refl;
        rest_b = refl;
      }

  abbrev St : ℕ → State
  St k = run k (start n T)

  pub sane : (k : ℕ) → Sane n (length T) (St k)
  sane k = sane_run n k T s.valid

  -- what is left to do
  abbrev pub to_do : {numbers bytes : List ℕ} {h : Heads} → Loop high n T numbers₀ bytes₀ numbers bytes h → ℕ
  to_do l = weight n (St l.pops).left (St l.pops).stack

  -- the same, counted in the areas
  work_is : {numbers bytes : List ℕ} {h : Heads} (l : Loop high n T numbers₀ bytes₀ numbers bytes h) → work n (graph_in n numbers bytes) (stack_in n h.stack numbers) ≡ to_do l
  unfolding work weight
  work_is {numbers} {bytes} {h} l =
      rw (sum_cong n (λ w. heavy (degree_of (graph_in n numbers bytes) w)) (λ w. heavy (degree w (St l.pops).left))
      (λ w q. ap heavy (degrees_in T n l.ns (St l.pops).peeled (graph_in n numbers bytes) l.rel w q ∙ ap (degree w) (sym l.left))))
      (omega (arith, ap length l.stack))

  module _ {numbers bytes : List ℕ} {h : Heads} (l : Loop high n T numbers₀ bytes₀ numbers bytes h) where
    abbrev R : State
    R = St l.pops

    pub fits : h.stack + h.peeled ≤ n
    fits = omega (arith, both_fit n l.pops T s.valid, ap length l.stack, rising_length n h.stack numbers, l.count)

    pub holds : Holds n numbers bytes
    holds = record {
      room = omega (arith, (rooms high n (length T)).0, s.lent.numbers_room, l.long);
      room_b = omega (arith, (rooms high n (length T)).1, s.lent.bytes_room, l.long_b);
      small = s.lent.n_small;
    }

    -- the state at the top
    module _ (pos : 0 < h.stack) where
      abbrev top : ℕ
      top = h.stack - 1

      abbrev v : ℕ
      v = top_of n h.stack numbers

      abbrev st : List ℕ
      st = stack_in n top numbers

      pub split : R.stack ≡ v ∷ st
      unfolding rising
      split = sym l.stack ∙ ap (λ (k : ℕ). rising n k numbers) back
        where
          back : h.stack ≡ suc (h.stack - 1)
          back = omega (arith, pos)

      pub v< : v < n
      v< = (subst (Each (λ w. w < n)) split (sane l.pops).below).0

      inv : Inv n (record { left = edges_n l.ns; stack = v ∷ st; peeled = R.peeled })
      inv = subst (λ (es : List Edge). Inv n (record { left = es; stack = v ∷ st; peeled = R.peeled })) l.left (subst (λ (u : List ℕ). Inv n (record { left = R.left; stack = u; peeled = R.peeled })) split (sane l.pops).inv)

      abbrev g : Graph
      g = graph_in n numbers bytes

      next_state : St (suc l.pops) ≡ pop (edges_n l.ns) (v ∷ st) R.peeled
      unfolding step
      next_state = run_suc l.pops (start n T) ∙ (λ k. pop (l.left k) (split k) R.peeled)

      abbrev i : ℕ
      i = get_or numbers v 0

      abbrev t : ℕ
      t = get_or bytes v 0 % 4

      abbrev d : Edge
      d = get_or T i no_edge

      i_is : get_or g.edges v 0 ≡ i
      i_is = in_graph n v numbers v<

      byte_is : get_or g.degrees v 0 ≡ get_or bytes v 0
      byte_is = in_graph n v bytes v<

      side_is : side_at g v ≡ side_from t
      unfolding side_at
      side_is = ap (λ (b : ℕ). side_from (b % 4)) byte_is

      module _ (four : 4 ≤ get_or bytes v 0) where
        took : Taking T n l.ns v st R.peeled g i (side_from t) d
        took = rw (i_is, side_is) at (taking T n l.ns v st R.peeled g inv l.rel (omega (arith, byte_is)))

        state' : St (suc l.pops) ≡ record { left = without v (edges_n l.ns); stack = stack_after g v st i (side_from t) d; peeled = record { edge = d; side = side_from t } ∷ R.peeled }
        state' = next_state ∙ took.state

        fits' : length (stack_after g v st i (side_from t) d) + suc h.peeled ≤ n
        fits' = omega (arith, both_fit n (suc l.pops) T s.valid, ap (λ (q : State). length q.stack) state', ap (λ (q : State). length q.peeled) state', l.count)

        few : h.peeled < length T
        few = omega (arith, (sane l.pops).count, l.count, ap length l.left, took.some_left)

        few_n : h.peeled < n
        few_n = omega (arith, fits, pos)

        abbrev K : List ℕ
        K = kept_numbers high n h.peeled v i numbers

        abbrev B : List ℕ
        B = kept_bytes high n h.peeled t bytes

        graph_K : graph_in n K B ≡ g
        graph_K j = record { edges = kept_take high n h.peeled v i numbers few_n j; degrees = kept_take_b high n h.peeled t bytes j }

        stack_K : stack_in n top K ≡ st
        stack_K = kept_stack high n h.peeled v i top numbers (omega (arith, fits, pos))

        after_K : stack_after (graph_in n K B) v (stack_in n top K) i (side_from t) d ≡ stack_after g v st i (side_from t) d
        after_K = ap (λ (f : Graph). stack_after f v (stack_in n top K) i (side_from t) d) graph_K ∙ ap (λ (u : List ℕ). stack_after g v u i (side_from t) d) stack_K

        keeps : Keeps high n h.peeled numbers bytes
        keeps = keeps_room high n (length T) h.peeled numbers bytes (omega (arith, s.lent.numbers_room, l.long)) (omega (arith, s.lent.bytes_room, l.long_b)) few few_n

        pub busy_asks : Busy high n T h.stack h.peeled numbers bytes v i t
        busy_asks = record {
          numbered = omega (arith, took.facts.number, i_is);
          keeps = keeps;
          takes = record {
            holds = record { room = omega (arith, kept_long high n h.peeled v i numbers, holds.room); room_b = omega (arith, kept_long_b high n h.peeled t bytes, holds.room_b); small = s.lent.n_small };
            v< = v<;
            valid = subst (λ (k : ℕ). Valid n (get_or T k no_edge)) i_is took.facts.valid;
            first_4 = subst (λ (f : Graph). 4 ≤ get_or (clear f v).degrees (first (side_from t) d) 0) (sym graph_K) facts_at.0;
            second_4 = subst (λ (f : Graph). 4 ≤ get_or (remove (clear f v) (first (side_from t) d) i (side_no (first_side (side_from t)))).degrees (second (side_from t) d) 0) (sym graph_K) facts_at.1;
            fits = omega (arith, ap length after_K, fits');
          };
        }
          where
            facts_at : (4 ≤ get_or (clear g v).degrees (first (side_from t) d) 0) × (4 ≤ get_or (remove (clear g v) (first (side_from t) d) i (side_no (first_side (side_from t)))).degrees (second (side_from t) d) 0)
            facts_at = let f = took.facts in (rw (i_is, side_is) at f.first_4, rw (i_is, side_is) at f.second_4)

      pub turn_asks : Turns high n T h.stack h.peeled numbers bytes
      turn_asks = record {
        holds = holds;
        some_left = pos;
        within = omega (arith, fits);
        top< = v<;
        few = omega (arith, fits, pos, s.lent.n_small);
        busy = busy_asks;
      }

      -- what a turn leaves
      pub record Next (numbers' bytes' : List ℕ) (r : Heads) : Type 0 where
        pub loop : Loop high n T numbers₀ bytes₀ numbers' bytes' r
        pub less : to_do loop < to_do l

      falls_less : (numbers' bytes' : List ℕ) (r : Heads) (l' : Loop high n T numbers₀ bytes₀ numbers' bytes' r) → l'.pops ≡ suc l.pops → to_do l' < to_do l
      falls_less numbers' bytes' r l' q =
          let a : St l'.pops ≡ step R = ap St q ∙ run_suc l.pops (start n T) in
          let b : weight n (St l'.pops).left (St l'.pops).stack ≡ weight n (step R).left (step R).stack = ap (λ (z : State). weight n z.left z.stack) a in
          omega (arith, b, step_falls n R v st (sane l.pops).inv split)

      pub turned : (numbers' bytes' : List ℕ) (r : Heads) → Turned high n T h.stack h.peeled numbers bytes numbers' bytes' r → Next numbers' bytes' r
      turned numbers' bytes' r k = go (ltb (get_or bytes v 0) 4) refl
        where
          go : (b : Bool) → ltb (get_or bytes v 0) 4 ≡ b → Next numbers' bytes' r
          go true p = record { loop = after; less = falls_less numbers' bytes' r after refl }
            where
              low : get_or bytes v 0 < 4
              low = ltb-true (get_or bytes v 0) 4 p

              z : (numbers' ≡ numbers) × (bytes' ≡ bytes) × (r.stack ≡ top) × (r.peeled ≡ h.peeled)
              z = k.skipped low

              state : St (suc l.pops) ≡ record { left = edges_n l.ns; stack = st; peeled = R.peeled }
              state = next_state ∙ skipping T n l.ns v st R.peeled g inv l.rel (omega (arith, byte_is, low))

              after : Loop high n T numbers₀ bytes₀ numbers' bytes' r
              after = record {
                pops = suc l.pops;
                ns = l.ns;
                left = ap (λ (y : State). y.left) state;
                rel = rw (ap (λ (y : State). y.peeled) state, z.0, z.1) l.rel;
                stack = rw (z.0, z.2) (sym (ap (λ (y : State). y.stack) state));
                logged = rw (ap (λ (y : State). y.peeled) state, z.0, z.1, z.3) l.logged;
                count = z.3 ∙ l.count ∙ sym (ap (λ (y : State). length y.peeled) state);
                long = k.long ∙ l.long;
                long_b = k.long_b ∙ l.long_b;
                rest = rw z.0 l.rest;
                rest_b = rw z.1 l.rest_b;
              }
          go false p = record { loop = after; less = falls_less numbers' bytes' r after refl }
            where
              four : 4 ≤ get_or bytes v 0
              four = ltb-false (get_or bytes v 0) 4 p

              w : TakenOff n top (K four) (B four) numbers' bytes' v i t d r.stack
              w = (k.took four).0

              more : r.peeled ≡ suc h.peeled
              more = (k.took four).1 ∙ add-one h.peeled

              stack_is : stack_in n r.stack numbers' ≡ stack_after g v st i (side_from t) d
              stack_is = w.stack ∙ after_K four

              long_r : r.stack ≡ length (stack_after g v st i (side_from t) d)
              long_r = sym (rising_length n r.stack numbers') ∙ ap length stack_is

              room_r : r.stack + suc h.peeled ≤ n
              room_r = omega (arith, long_r, fits' four)

              graph_is : graph_in n numbers' bytes' ≡ graph_after g v i (side_from t) d
              graph_is = w.graph ∙ ap (λ (f : Graph). graph_after f v i (side_from t) d) (graph_K four)

              after : Loop high n T numbers₀ bytes₀ numbers' bytes' r
              after = record {
                pops = suc l.pops;
                ns = without_n v l.ns;
                left = ap (λ (y : State). y.left) (state' four) ∙ sym (edges_without v l.ns);
                rel = rw (ap (λ (y : State). y.peeled) (state' four), graph_is) (took four).rel;
                stack = stack_is ∙ sym (ap (λ (y : State). y.stack) (state' four));
                logged = rw (ap (λ (y : State). y.peeled) (state' four), more)
                    (logged_more high T n h.peeled r.stack v i t numbers bytes numbers' bytes' R.peeled room_r (keeps four) w.rest w.rest_b (took four).pivot_is l.logged);
                count = more ∙ ap suc l.count ∙ sym (ap (λ (y : State). length y.peeled) (state' four));
                long = k.long ∙ l.long;
                long_b = k.long_b ∙ l.long_b;
                rest = drop_agrees (n + r.stack) (numbers_room high n (length T)) numbers' (K four) (omega (arith, room_r, (rooms high n (length T)).0)) w.rest ∙ kept_rest high n (length T) h.peeled v i numbers (few four) (few_n four) ∙ l.rest;
                rest_b = drop_agrees n (bytes_room high n (length T)) bytes' (B four) (rooms high n (length T)).1 w.rest_b ∙ kept_rest_b high n (length T) h.peeled t bytes (few four) ∙ l.rest_b;
              }

      pub turn_less : (numbers' bytes' : List ℕ) (r : Heads) → Turned high n T h.stack h.peeled numbers bytes numbers' bytes' r
          → work n (graph_in n numbers' bytes') (stack_in n r.stack numbers') < work n (graph_in n numbers bytes) (stack_in n h.stack numbers)
      turn_less numbers' bytes' r k =
          let t = turned numbers' bytes' r k in
          omega (arith, work_is l, work_is t.loop, t.less)

    pub loop_ends : h.stack ≤ 0 → PeelEnds high n T numbers₀ bytes₀ numbers bytes h.peeled
    loop_ends z = record {
      long = l.long;
      long_b = l.long_b;
      rest = l.rest;
      rest_b = l.rest_b;
      peeled = rows ∙ ap (λ (y : State). y.peeled) over;
      counts = l.count ∙ ap (λ (y : State). length y.peeled) over;
      fillable = record {
        small = s.lent.n_small;
        few = omega (arith, few, s.lent.m_small);
        reads = logged_reads high T n (length T) h.peeled numbers bytes R.peeled valids l.logged (omega (arith, s.lent.numbers_room, l.long)) (omega (arith, s.lent.bytes_room, l.long_b)) few (omega (arith, fits));
        numbered = λ k q. in_table T (number_at high n k numbers) (nth k q);
        valid = nth;
      };
    }
      where
        few : h.peeled ≤ length T
        few = omega (arith, (sane l.pops).count, l.count)

        valids : Each (λ p. Valid n p.edge) R.peeled
        valids = good_valid n R.left R.peeled (sane l.pops).inv.good

        rows : peeled_in high T n h.peeled numbers bytes ≡ R.peeled
        rows = logged_rows high T n h.peeled numbers bytes (edges_n l.ns) R.peeled l.rel.kept valids l.logged

        nth : (k : ℕ) → k < h.peeled → Valid n (get_or T (number_at high n k numbers) no_edge)
        nth = nth_valid high T n h.peeled numbers bytes (subst (Each (λ p. Valid n p.edge)) (sym rows) valids)

        bare : R.stack ≡ []
        bare = none_left R.stack (omega (arith, ap length l.stack, rising_length n h.stack numbers, z))

        over : R ≡ peel n T
        over = run_over n l.pops T s.valid bare
