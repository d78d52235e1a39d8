-- The loop that is told which edge to read first, and is told the next one by each turn.
use mathlib.Core.Path.{◌≡◌, refl, sym, ap, ◌∙◌, subst}
use mathlib.Core.List.{List, [], ◌∷◌}
use mathlib.Core.Bool.{Bool, true, false, cond}
use Prim.Native.Nat.{ℕ, zero, suc, ◌-◌, ◌/◌, ◌%◌, ◌≤◌, ◌<◌}
use native.Mathlib.Omega.{arith}
use lib.ListN.{length, get_or}
use lib.Dec.{eqb}
use borrow.Author.Tests.{eqb-false, ne_eqb}
use Rattle.gf2.specs.Equation.{Each}
use Rattle.peeling.specs.declared.numbers.Edge.{Edge}
use Rattle.peel_rules.specs.Edges.{degree}
use Rattle.peel_rules.specs.Peel.{State, run, ones, start}
use Rattle.peel_rules.specs.Machine.{no_edge}
use Rattle.peel_rules.proofs.PeelEmpty.{run_idle, work}
use Rattle.peel_turns.specs.declared.visiting.Heads.{Heads}
use Rattle.peel_steps.specs.Pictures.{graph_in, rising, stack_in, kept_numbers, kept_bytes}
use Rattle.peel_turns.specs.Steps.{TakenOff, Turned, top_of, next_of, Tops}
use Rattle.peel_turns.specs.TurnsOn.{BusyOn, TurnsOn, TurnedOn}
use Rattle.peel_walks.specs.Walks.{PeelStarts, PeelsFrom}
use Rattle.peel_walks.proofs.PeelLaws.{Loop, loop_begins, sane, to_do, fits, holds, split, v<, busy_asks, turned, turn_less}

-- ---- the beginning

pub starts_of : {high : Bool} {n : ℕ} {T : List Edge} {numbers bytes : List ℕ} {first : Heads} → PeelsFrom high n T numbers bytes first → PeelStarts high n T numbers bytes first
starts_of f = record { lent = f.lent; valid = f.valid; uncrowded = f.uncrowded; graph = f.graph; stack = f.stack; none = f.none }

-- the vertex on top can be read
pub starts_tops : {high : Bool} {n : ℕ} {T : List Edge} {numbers bytes : List ℕ} {first : Heads} → PeelStarts high n T numbers bytes first → Tops n first.stack numbers bytes
starts_tops s = let l = loop_begins s in record { holds = holds s l; within = omega (arith, fits s l); top< = v< s l }

-- and its edge, once it is read, is the one to begin with
pub first_read : {high : Bool} {n : ℕ} {T : List Edge} {numbers bytes : List ℕ} {first : Heads} {next : ℕ} → PeelStarts high n T numbers bytes first → next ≡ next_of n first.stack numbers bytes
    → PeelsFrom high n T numbers bytes (record { stack = first.stack; peeled = first.peeled; next = next })
first_read s q = record { lent = s.lent; valid = s.valid; uncrowded = s.uncrowded; graph = s.graph; stack = s.stack; none = s.none; next = q }

-- ---- a stack that is not empty comes of an edge

no_edges : (n k : ℕ) → (run k (start n [])).stack ≡ []
unfolding start ones degree
no_edges n k = ap (λ (l : List ℕ). (run k (record { left = []; stack = l; peeled = [] })).stack) (none_on n) ∙ ap (λ (s : State). s.stack) (run_idle k [] [])
  where
    none_on : (m : ℕ) → ones m [] ≡ []
    none_on zero = refl
    none_on (suc m) = none_on m

some_edges : (n k v : ℕ) (st : List ℕ) (T : List Edge) → (run k (start n T)).stack ≡ v ∷ st → 0 < length T
some_edges n k v st [] h = absurd (omega (arith, ap length (sym (no_edges n k) ∙ h)))
some_edges n k v st (e ∷ T) h = omega arith

-- ---- the loop

-- the peeling before a turn, and the edge that it reads
pub record LoopFrom (high : Bool) (n : ℕ) (T : List Edge) (numbers₀ bytes₀ numbers bytes : List ℕ) (h : Heads) : Type 0 where
  pub loop : Loop high n T numbers₀ bytes₀ numbers bytes h
  pub next : h.next ≡ next_of n h.stack numbers bytes

module _ {high : Bool} {n : ℕ} {T : List Edge} {numbers₀ bytes₀ : List ℕ} {h₀ : Heads} (f : PeelsFrom high n T numbers₀ bytes₀ h₀) where
  abbrev s : PeelStarts high n T numbers₀ bytes₀ h₀
  s = starts_of f

  pub begins_from : LoopFrom high n T numbers₀ bytes₀ numbers₀ bytes₀ h₀
  begins_from = record { loop = loop_begins s; next = f.next }

  module _ {numbers bytes : List ℕ} {h : Heads} (l : LoopFrom high n T numbers₀ bytes₀ numbers bytes h) (pos : 0 < h.stack) where
    abbrev top : ℕ
    top = h.stack - 1

    abbrev v : ℕ
    v = top_of n h.stack numbers

    abbrev i : ℕ
    i = get_or numbers v 0

    abbrev t : ℕ
    t = get_or bytes v 0 % 4

    abbrev d : Edge
    d = get_or T i no_edge

    below : Each (λ w. w < n) (stack_in n top numbers)
    below = (subst (Each (λ w. w < n)) (split s l.loop pos) (sane s l.loop.pops).below).1

    under : (k : ℕ) → Each (λ w. w < n) (rising n k numbers) → 0 < k → top_of n k numbers < n
    unfolding rising
    under zero b q = absurd (omega arith)
    under (suc k) b q = let e : suc k - 1 ≡ k = omega arith in rw e b.0

    -- the edge is one of the table's
    pub next< : h.next < length T
    next< = rw (l.next, ne_eqb h.stack 0 (omega (arith, pos))) (go (eqb (get_or bytes v 0 / 4) 0) refl)
      where
        go : (b : Bool) → eqb (get_or bytes v 0 / 4) 0 ≡ b → cond b 0 i < length T
        go true q = some_edges n l.loop.pops v (stack_in n top numbers) T (split s l.loop pos)
        go false q =
            let four : 4 ≤ get_or bytes v 0 = omega (arith, eqb-false (get_or bytes v 0 / 4) 0 q) in
            (busy_asks s l.loop pos four).numbered

    pub busy_on_asks : 4 ≤ get_or bytes v 0 → BusyOn high n h.stack h.peeled d numbers bytes v i t
    busy_on_asks four = let b = busy_asks s l.loop pos four in record { keeps = b.keeps; takes = b.takes }

    -- what a turn leaves
    pub record NextFrom (numbers' bytes' : List ℕ) (r : Heads) : Type 0 where
      pub loop : LoopFrom high n T numbers₀ bytes₀ numbers' bytes' r
      pub less : to_do s loop.loop < to_do s l.loop

    module _ (e : Edge) (q : e ≡ get_or T h.next no_edge) where
      e_is : 4 ≤ get_or bytes v 0 → e ≡ d
      e_is four = q ∙ ap (λ (k : ℕ). get_or T k no_edge) (l.next ∙ rw (ne_eqb h.stack 0 (omega (arith, pos)), ne_eqb (get_or bytes v 0 / 4) 0 (omega (arith, four))) refl)

      pub turn_on_asks : TurnsOn high n h.stack h.peeled e numbers bytes
      turn_on_asks = record {
        some_left = pos;
        tops = record { holds = holds s l.loop; within = omega (arith, fits s l.loop); top< = λ _. v< s l.loop pos };
        next< = record { holds = holds s l.loop; within = omega (arith, fits s l.loop); top< = under top below };
        few = omega (arith, fits s l.loop, pos, f.lent.n_small);
        busy = λ four. subst (λ (x : Edge). BusyOn high n h.stack h.peeled x numbers bytes v i t) (sym (e_is four)) (busy_on_asks four);
      }

      module _ (numbers' bytes' : List ℕ) (r : Heads) (k : TurnedOn high n h.stack h.peeled e numbers bytes numbers' bytes' r) where
        -- it is a turn that reads the table
        pub turned_of : Turned high n T h.stack h.peeled numbers bytes numbers' bytes' r
        turned_of = record {
          long = k.long;
          long_b = k.long_b;
          skipped = k.skipped;
          took = λ four. (subst (λ (x : Edge). TakenOff n top (kept_numbers high n h.peeled v i numbers) (kept_bytes high n h.peeled t bytes) numbers' bytes' v i t x r.stack) (e_is four) (k.took four).0, (k.took four).1);
        }

        pub turned_on : NextFrom numbers' bytes' r
        turned_on = let x = turned s l.loop pos numbers' bytes' r turned_of in record { loop = record { loop = x.loop; next = k.next }; less = x.less }

        pub turn_on_less : work n (graph_in n numbers' bytes') (stack_in n r.stack numbers') < work n (graph_in n numbers bytes) (stack_in n h.stack numbers)
        turn_on_less = turn_less s l.loop pos numbers' bytes' r turned_of
