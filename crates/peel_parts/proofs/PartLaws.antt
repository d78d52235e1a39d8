-- The graph that is made, the edges that are peeled, and the cells that are filled, on the lent areas.
use mathlib.Core.Path.{◌≡◌, refl, sym, ap, ◌∙◌, subst}
use mathlib.Core.List.{List, [], ◌∷◌, ◌++◌, append-nil}
use mathlib.Core.Bool.{Bool, true, false, cond}
use Rattle.std.proofs.Common.{Option, Some, None, IfSome, ◌⊎◌, inl, inr, length-append, length-drop}
use Prim.Native.Nat.{ℕ, suc, ◌+◌, ◌≤◌, ◌<◌}
use native.Mathlib.Nat.{sub-zero}
use native.Mathlib.Omega.{arith}
use lib.ListN.{length, take, drop, replicate, length-replicate}
use lib.Seq.{take_at, drop_at, drop-length, length-take-le}
use lib.Dec.{ltb}
use Rattle.answers.specs.Sizes.{max_equations}
use Rattle.answers.specs.Calls.{pick}
use borrow.Author.Tests.{lt-ltb, le-ltb, ltb-true, ltb-false}
use Rattle.gf2.specs.Equation.{Each}
use Rattle.areas.specs.Stretch.{cleared, zeroed}
use Rattle.answers.specs.Answers.{Solved, Stuck}
use Rattle.peeling.specs.declared.numbers.Edge.{Edge}
use Rattle.peeling.specs.declared.numbers.Vertex.{Vertex}
use Rattle.peeling.specs.Graph.{Graph, graph_of, overflows}
use Rattle.peel_rules.specs.Edges.{Valid}
use Rattle.peel_rules.specs.Peel.{Peeled, peel, fill, solved, stuck, verdict, answer}
use Rattle.peel_rules.specs.Report.{no_report, report_of}
use Rattle.peel_rules.specs.Machine.{add_edge, build, empty, noted, noted_edge, crowd_of, mones}
use Rattle.peel_rules.proofs.PeelCore.{Ends, peel_ends}
use Rattle.peel_rules.proofs.PeelCrowded.{crowd_found}
use Rattle.peel_gates.specs.Ends.{Peeling}
use Rattle.peel_turns.specs.declared.visiting.Heads.{Heads}
use Rattle.peel_steps.specs.Pictures.{peeled_in}
use Rattle.peel_gates.specs.Rooms.{numbers_room, bytes_room}
use Rattle.peel_turns.specs.Steps.{Preloaded, next_of}
use Rattle.peel_gates.specs.Rooms.{Lent}
use Rattle.peel_gates.specs.Ends.{end_of}
use Rattle.peel_turns.proofs.PictureLaws.{drop_agrees}
use Rattle.areas.proofs.Stretch.{cleared_is_put}
use Rattle.peel_steps.specs.Lowest.{vertex_or}
use Rattle.peel_walks.specs.Walks.{PeelStarts, PeelsFrom, PeelEnds}
use Rattle.peel_walks.proofs.TableLaws.{valid_more}
use Rattle.peel_parts.specs.Parts.{Begins, GraphBuilt, PeelAsks, cells_after, SettleAsks, Says, ran_says}

-- ---- a crowded vertex is a vertex of an edge, and so below n

-- a vertex that is noted is low, or below n
abbrev Noted : ℕ → ℕ → ℕ → Type 0
Noted n low r = (r ≡ low) ⊎ (r < n)

noted_on : {n low k r : ℕ} → Noted n low k → Noted n k r → Noted n low r
noted_on a (inr h) = inr h
noted_on a (inl e) = rw e a

noted_one : (n : ℕ) (g : Graph) (v low : ℕ) → v < n → Noted n low (noted g v low)
unfolding noted
noted_one n g v low h = go (overflows g v) (ltb v low)
  where
    go : (o b : Bool) → Noted n low (cond o (cond b v low) low)
    go false b = inl refl
    go true false = inl refl
    go true true = inr h

crowd_within : (n i : ℕ) (T : List Edge) (g : Graph) (low : ℕ) → Each (Valid n) T → Noted n low (crowd_of i T g low)
unfolding crowd_of noted_edge
crowd_within n i [] g low v = inl refl
crowd_within n i (e ∷ T) g low v =
    noted_on (noted_on (noted_on (noted_one n g e.a.0 low v.0.a<) (noted_one n _ e.b.0 _ v.0.b<)) (noted_one n _ e.c.0 _ v.0.c<)) (crowd_within n (suc i) T (add_edge g i e) (noted_edge g i e low) v.1)

valid_above : (n : ℕ) (T : List Edge) → Each (Valid n) T → Each (Valid (n + 1)) T
valid_above n [] v = tt
valid_above n (e ∷ T) v = (valid_more (omega arith) v.0, valid_above n T v.1)

found_below : (n : ℕ) (T : List Edge) (g : Graph) (low : Option Vertex) → Each (Valid n) T → ((k : ℕ) → Each (Valid k) T → vertex_or k low ≡ crowd_of 0 T g k) → IfSome low (λ v. v.0 < n)
found_below n T g None v h = tt
found_below n T g (Some w) v h = go (rw (h n v) (crowd_within n 0 T g n v)) (rw (h (n + 1) (valid_above n T v)) (crowd_within n 0 T g (n + 1) v))
  where
    go : Noted n n w.0 → Noted n (n + 1) w.0 → w.0 < n
    go (inr a) b = a
    go (inl a) (inr b) = b
    go (inl a) (inl b) = absurd (omega (arith, a, b))

front_cleared : (n : ℕ) (l : List ℕ) → take n (cleared n l) ≡ replicate n 0
unfolding cleared
front_cleared n l = take_at (replicate n 0) (drop n l) n (length-replicate n 0)

back_cleared : (n : ℕ) (l : List ℕ) → drop n (cleared n l) ≡ drop n l
unfolding cleared
back_cleared n l = drop_at (replicate n 0) (drop n l) n (length-replicate n 0)

-- ---- the graph is made in the first n cells of both areas

pub built : {n : ℕ} {T : List Edge} {numbers bytes d b x y : List ℕ} {low : Option Vertex} → Begins n T numbers bytes → (d ≡ cleared n numbers) × (b ≡ cleared n bytes)
    → ((k : ℕ) → Each (Valid k) T → vertex_or k low ≡ crowd_of 0 T (graph_of (take n d) (take n b)) k) → graph_of x y ≡ build 0 T (graph_of (take n d) (take n b))
    → length x ≡ length (take n d) → length y ≡ length (take n b) → length d ≡ length numbers → length b ≡ length bytes
    → GraphBuilt n T numbers bytes (x ++ drop n d) (y ++ drop n b) low
unfolding empty
built {n} {T} {numbers} {bytes} {d} {b} {x} {y} {low} a c lowest made lx ly ld lb = record {
  graph = (λ j. record { edges = take_at x (drop n d) n long_x j; degrees = take_at y (drop n b) n long_y j }) ∙ made ∙ ap (build 0 T) blank;
  crowd = lowest n a.valid ∙ ap (λ (f : Graph). crowd_of 0 T f n) blank ∙ crowd_found n T a.valid;
  found = found_below n T _ low a.valid lowest;
  rest = drop_at x (drop n d) n long_x ∙ ap (drop n) c.0 ∙ back_cleared n numbers;
  rest_b = drop_at y (drop n b) n long_y ∙ ap (drop n) c.1 ∙ back_cleared n bytes;
  long = simp (length-append, length-drop) (omega (arith, long_x, ld, a.room));
  long_b = simp (length-append, length-drop) (omega (arith, long_y, lb, a.room_b));
}
  where
    blank : graph_of (take n d) (take n b) ≡ empty n
    blank j = record { edges = (ap (take n) c.0 ∙ front_cleared n numbers) j; degrees = (ap (take n) c.1 ∙ front_cleared n bytes) j }

    long_x : length x ≡ n
    long_x = lx ∙ length-take-le n d (omega (arith, ld, a.room))

    long_y : length y ≡ n
    long_y = ly ∙ length-take-le n b (omega (arith, lb, a.room_b))

-- ---- the room

pub room_least : (high : Bool) (n m : ℕ) → (n + n ≤ numbers_room high n m) × (n ≤ bytes_room high n m)
room_least true n m = (omega arith, omega arith)
room_least false n m = (omega arith, omega arith)

pub lent_on : {high : Bool} {n m : ℕ} {numbers bytes d b : List ℕ} → Lent high n m numbers bytes → length d ≡ length numbers → length b ≡ length bytes → Lent high n m d b
lent_on a p q = record { n_small = a.n_small; m_small = a.m_small; numbers_room = omega (arith, p, a.numbers_room); bytes_room = omega (arith, q, a.bytes_room) }

-- ---- the peeling

module _ {high : Bool} {n : ℕ} {T : List Edge} {numbers bytes : List ℕ} (a : PeelAsks high n T numbers bytes) where
  module _ {first : Heads} {d : List ℕ} (p : Preloaded n numbers bytes d first.stack × (first.peeled ≡ 0)) where
    pub starts : PeelStarts high n T d bytes first
    starts = record {
      lent = lent_on a.lent p.0.long refl;
      valid = a.valid;
      uncrowded = a.uncrowded;
      graph = p.0.graph ∙ a.graph;
      stack = p.0.stack ∙ ap (mones n) a.graph;
      none = p.1;
    }

  pub starts_from : {first : Heads} {d : List ℕ} → Preloaded n numbers bytes d first.stack → first.peeled ≡ 0 → first.next ≡ next_of n first.stack d bytes → PeelsFrom high n T d bytes first
  starts_from {first} {d} p z q = let s = starts {first = first} {d = d} (p, z) in record { lent = s.lent; valid = s.valid; uncrowded = s.uncrowded; graph = s.graph; stack = s.stack; none = s.none; next = q }

  pub peeled_all : {top count : ℕ} {d d' b' : List ℕ} → Preloaded n numbers bytes d top → PeelEnds high n T d bytes d' b' count → PeelEnds high n T numbers bytes d' b' count
  peeled_all {top} {count} {d} p e = record {
    long = e.long ∙ p.long;
    long_b = e.long_b;
    rest = e.rest ∙ drop_agrees (n + n) (numbers_room high n (length T)) d numbers (room_least high n (length T)).0 p.rest;
    rest_b = e.rest_b;
    peeled = e.peeled;
    counts = e.counts;
    fillable = e.fillable;
  }

-- ---- the filling

pub not_filled : (high : Bool) (n : ℕ) (T : List Edge) (m count : ℕ) (cells numbers bytes : List ℕ) → count < m → cells ≡ cells_after high n T m count cells numbers bytes
unfolding cells_after
not_filled high n T m count cells numbers bytes h = simp (lt-ltb count m h) refl

pub all_filled : (high : Bool) (n : ℕ) (T : List Edge) (m count : ℕ) (cells numbers bytes x x' : List ℕ) → m ≤ count → x ≡ zeroed 0 n cells → x' ≡ fill (peeled_in high T n count numbers bytes) x → x' ≡ cells_after high n T m count cells numbers bytes
unfolding cells_after
all_filled high n T m count cells numbers bytes x x' h e f = simp (le-ltb count m h) (f ∙ ap (fill (peeled_in high T n count numbers bytes)) e)

-- ---- the end

module _ {high : Bool} {n count : ℕ} {T : List Edge} {cells numbers bytes : List ℕ} (a : SettleAsks high n T count cells numbers bytes) where
  k : Ends n T
  k = peel_ends n T a.valid

  counted : count + length (peel n T).left ≡ length T
  counted = omega (arith, k.count, a.counts, ap length k.left)

  pub end_asks : (count ≤ length T) × (length T ≤ max_equations)
  end_asks = (omega (arith, counted), a.small)

  verdict_stuck : (l : List Edge) → 0 < length l → verdict n l (peel n T).peeled ≡ stuck (length (peel n T).peeled)
  unfolding verdict
  verdict_stuck [] q = absurd (omega arith)
  verdict_stuck (x ∷ l) q = refl

  verdict_solved : (l : List Edge) → length l ≤ 0 → verdict n l (peel n T).peeled ≡ solved (fill (peel n T).peeled (replicate n 0))
  unfolding verdict
  verdict_solved [] q = refl
  verdict_solved (x ∷ l) q = absurd (omega arith)

  zeros : zeroed 0 n cells ≡ replicate n 0
  unfolding cleared
  zeros = rw (sub-zero n) (sym (cleared_is_put n cells) ∙ ap (λ (l : List ℕ). replicate n 0 ++ l) (subst (λ (j : ℕ). drop j cells ≡ []) a.fills.size (drop-length cells)) ∙ append-nil (replicate n 0))

  pub settled : {r : Peeling} {x : List ℕ} → x ≡ cells_after high n T (length T) count cells numbers bytes → r ≡ end_of (length T) count → Says (ran_says high n T cells) r x
  unfolding answer ran_says cells_after
  settled {r} {x} hx e = go (ltb count (length T)) refl hx e
    where
      go : (t : Bool) → ltb count (length T) ≡ t → x ≡ pick t cells (fill (peeled_in high T n count numbers bytes) (zeroed 0 n cells)) → r ≡ pick t (record { answer = Stuck count; report = report_of count (length T) }) (record { answer = Solved; report = no_report })
          → Says (ran_says high n T cells) r x
      go true q hx e =
          let o : answer n T ≡ stuck (length (peel n T).peeled) = verdict_stuck (peel n T).left (omega (arith, counted, ltb-true count (length T) q)) in
          let i : answer n T ≡ stuck count = o ∙ ap stuck (sym a.counts) in
          simp i (record { answer = ap (λ (y : Peeling). y.answer) e; report = ap (λ (y : Peeling). y.report) e; solution_is = hx })
      go false q hx e =
          let i : answer n T ≡ solved (fill (peel n T).peeled (replicate n 0)) = verdict_solved (peel n T).left (omega (arith, counted, ltb-false count (length T) q)) in
          simp i (record { answer = ap (λ (y : Peeling). y.answer) e; report = ap (λ (y : Peeling). y.report) e; solution_is = hx ∙ ap (λ (ps : List Peeled). fill ps (zeroed 0 n cells)) a.peeled ∙ ap (fill (peel n T).peeled) zeros })
