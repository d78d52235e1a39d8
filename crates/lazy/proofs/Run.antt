-- The lazy rules end within 2m + n + 1 units, with values as described, or with a refusal where some equations cancel.
use mathlib.Core.Path.{◌≡◌, refl, sym, ap, subst}
use mathlib.Core.List.{List}
use mathlib.Core.Bool.{Bool, true, false, not}
use Prim.Native.Nat.{ℕ, zero, suc, ◌+◌, ◌-◌, ◌≤◌, ◌<◌}
use native.Mathlib.Omega.{arith}
use lib.ListN.{length, replicate}
use lib.Dec.{ltb, ltb→lt, nltb→le}
use Rattle.gf2.specs.ByNumber.{row_of}
use Rattle.gf2.specs.Equation.{Equation}
use Rattle.gf2.specs.Result.{Result, unsolvable, ok}
use Rattle.gf2.specs.Span.{Cancels}
use Rattle.sparse_rules.specs.Eliminate.{outer_row, contradicted, back_sub}
use Rattle.lazy.specs.Description.{Described}
use Rattle.lazy.specs.Invariant.{Lent, Inv}
use Rattle.lazy.specs.Lazy.{State, start, pop, dense_row, fill, last_unit, Build, more, ended, go_on, unit, after, whole_run}
use Rattle.gf2.proofs.Spans.{empty_row_cancels}
use Rattle.gf2.proofs.Tests.{true→T}
use Rattle.sparse_rules.proofs.BackSub.{contradicted_clash}
use Rattle.sparse_rules.proofs.OuterRow.{echelon_zero, Like, like_same, like_then, Echelon, RoundMet, round_clash, round_met, outer_row_met, echelon_triangular}
use Rattle.lazy.proofs.AtStart.{start_inv, start_variables, start_remaining, start_dense}
use Rattle.lazy.proofs.Ending.{clash_ends, dense_sorted, values_right}
use Rattle.lazy.proofs.Pops.{Popped, Clash, After, pop_keeps}

-- ---- the dense part is worked on

-- s has the rows of the state in which the popping ended, and its dense part after so many outer rows
pub record Ready (n : ℕ) (sys : List Equation) (s : State) : Type 1 where
  pub base : State
  pub inv : Inv n sys base
  pub finished : base.remaining ≡ 0
  pub rows_same : s.rows ≡ base.rows
  pub solved_same : s.solved ≡ base.solved
  pub none : s.remaining ≡ 0
  pub like : Like base.dense s.dense
  pub echelon : Echelon s.dense_done s.dense

pub data Live (n : ℕ) (sys : List Equation) (s : State) : Type 1 where
  popping : Inv n sys s → Live n sys s
  clearing : Ready n sys s → Live n sys s

-- how many units are left at the most, but for the last
abbrev pub left : State → ℕ
left s = s.remaining + length s.variables + (s.remaining + (length s.dense - s.dense_done))

-- what an answer has to be
abbrev pub Right : ℕ → List Equation → Result (List ℕ) → Type 0
Right n sys unsolvable = (mask : List Bool) × Cancels mask sys
Right n sys (ok x) = Described n sys x

pub data Went (n : ℕ) (sys : List Equation) (s : State) : Build → Type 1 where
  on : {s' : State} → Live n sys s' → left s' < left s → Went n sys s (more s')
  over : {r : Result (List ℕ)} → Right n sys r → Went n sys s (ended r)

module _ (n : ℕ) (sys : List Equation) (lent : Lent n sys) where
  clash_wrong : (s : State) → Inv n sys s → Clash s.rows → (mask : List Bool) × Cancels mask sys
  clash_wrong s i c =
      let p = i.in_same.spans c.at in
      (p.mask, empty_row_cancels sys (row_of s.rows c.at) p c.empty c.nonzero)

  pub inv_ready : (s : State) → Inv n sys s → s.remaining ≡ 0 → Ready n sys s
  inv_ready s i z =
      record {
        base = s;
        inv = i;
        finished = z;
        rows_same = refl;
        solved_same = refl;
        none = z;
        like = like_same s.dense;
        echelon = subst (λ k. Echelon k s.dense) (sym i.in_units.not_yet) (echelon_zero s.dense);
      }

  -- a unit that pops
  pop_went : (s : State) → Inv n sys s → 0 < s.remaining → Went n sys s (go_on (pop sys s))
  pop_went s i h = go (pop sys s) (pop_keeps n sys lent s i h)
    where
      go : (r : Result State) → After (Popped n sys s) (Clash s.rows) r → Went n sys s (go_on r)
      go unsolvable c = over (clash_wrong s i c)
      go (ok s') p = on (popping p.inv) (let a = p.nearer in let b = p.inv.in_units.not_yet in let c = i.in_units.not_yet in omega arith)

  -- a unit that does an outer row
  clear_went : (s : State) → Ready n sys s → suc s.dense_done < length s.dense → Went n sys s (go_on (dense_row s))
  unfolding dense_row
  clear_went s r h =
      go (outer_row s.dense_done s.dense)
      (outer_row_met s.dense s.dense_done (r.like.rising (dense_sorted n sys lent r.base r.inv r.finished s.dense r.like)))
    where
      go : (res : Result (List Equation)) → RoundMet s.dense_done s.dense res
          → Went n sys s (go_on (elim res [
            | unsolvable ↦ unsolvable
            | ok rows ↦
                ok (record {
                  rows = s.rows;
                  priority = s.priority;
                  weight = s.weight;
                  idle = s.idle;
                  variables = s.variables;
                  equations = s.equations;
                  solved = s.solved;
                  dense = rows;
                  remaining = s.remaining;
                  dense_done = suc s.dense_done;
                })
          ]))
      go res (round_clash c) = over (clash_ends n sys lent r.base r.inv r.finished s.dense r.like c)
      go res (round_met rows like ech) =
          on (clearing (record {
            base = r.base;
            inv = r.inv;
            finished = r.finished;
            rows_same = r.rows_same;
            solved_same = r.solved_same;
            none = r.none;
            like = like_then r.base.dense s.dense rows r.like like;
            echelon = ech r.echelon;
          })) (let z = r.none in let l = like.size in
          let k : s.remaining + length s.variables + (s.remaining + (length rows - suc s.dense_done)) < left s = omega arith in k)

  -- the last unit
  finish_went : (s : State) → Ready n sys s → length s.dense ≤ suc s.dense_done → Went n sys s (ended (last_unit n s))
  unfolding last_unit
  finish_went s r h = go (contradicted s.dense) refl
    where
      go : (b : Bool) → contradicted s.dense ≡ b
          → Went n sys s (ended (elim b [ true ↦ unsolvable | false ↦ ok (fill s.rows s.solved (back_sub s.dense (replicate n 0))) ]))
      go true p = over (clash_ends n sys lent r.base r.inv r.finished s.dense r.like (contradicted_clash s.dense p))
      go false p =
          over {r = ok (fill s.rows s.solved (back_sub s.dense (replicate n 0)))} (rw (r.rows_same, r.solved_same)
          (values_right n sys lent r.base r.inv r.finished s.dense r.like (echelon_triangular s.dense s.dense_done h r.echelon) p))

  ready_went : (s : State) → Ready n sys s
      → Went n sys s (elim (ltb (suc s.dense_done) (length s.dense)) [ true ↦ go_on (dense_row s) | false ↦ ended (last_unit n s) ])
  ready_went s r = go (ltb (suc s.dense_done) (length s.dense)) refl
    where
      go : (b : Bool) → ltb (suc s.dense_done) (length s.dense) ≡ b → Went n sys s (elim b [ true ↦ go_on (dense_row s) | false ↦ ended (last_unit n s) ])
      go true p = clear_went s r (ltb→lt (suc s.dense_done) (length s.dense) (true→T p))
      go false p = finish_went s r (nltb→le (suc s.dense_done) (length s.dense) (true→T (ap not p)))

  -- one unit
  pub unit_went : (s : State) → Live n sys s → Went n sys s (unit n sys s)
  unfolding unit
  unit_went s l = go s.remaining refl l
    where
      go : (k : ℕ) → s.remaining ≡ k → Live n sys s
          → Went n sys s (elim k [
            | zero ↦ elim (ltb (suc s.dense_done) (length s.dense)) [ true ↦ go_on (dense_row s) | false ↦ ended (last_unit n s) ]
            | suc _ ↦ go_on (pop sys s)
          ])
      go zero p (popping i) = ready_went s (inv_ready s i p)
      go zero p (clearing r) = ready_went s r
      go (suc k) p (popping i) = pop_went s i (omega arith)
      go (suc k) p (clearing r) = let z = r.none in absurd (omega arith)

  abbrev Going : Build → Type 1
  Going (more s) = Live n sys s
  Going (ended r) = Unit {1}

  went_going : (s : State) {b : Build} → Went n sys s b → Going b
  went_going s (on l d) = l
  went_going s (over q) = tt

  after_going : (k : ℕ) (b : Build) → Going b → Going (after k n sys b)
  unfolding after
  after_going zero b g = g
  after_going (suc k) (more s) g = after_going k (unit n sys s) (went_going s (unit_went s g))
  after_going (suc k) (ended r) g = tt

  -- a state that the machine reaches from the start is popping, or works on the dense part
  pub reached : (k : ℕ) (s : State) → after k n sys (more (start n sys)) ≡ more s → Live n sys s
  reached k s e = subst Going e (after_going k (more (start n sys)) (popping (start_inv n sys lent)))

  pub data Ended : Build → Type 0 where
    ended_so : {r : Result (List ℕ)} → Right n sys r → Ended (ended r)

  pub after_ended : (k : ℕ) (s : State) → Live n sys s → left s < k → Ended (after k n sys (more s))
  unfolding after
  after_ended zero s l h = absurd (omega arith)
  after_ended (suc k) s l h = go (unit n sys s) (unit_went s l) (λ s' l' h'. after_ended k s' l' h')
    where
      stays : (j : ℕ) (r : Result (List ℕ)) → after j n sys (ended r) ≡ ended r
      stays zero r = refl
      stays (suc j) r = refl

      go : (b : Build) → Went n sys s b → ((s' : State) → Live n sys s' → left s' < k → Ended (after k n sys (more s'))) → Ended (after k n sys b)
      go b (on {s' = s'} l' d) rec = rec s' l' (omega arith)
      go b (over {r = r} q) rec = subst Ended (sym (stays k r)) (ended_so q)

  -- the whole run
  pub whole_right : Ended (whole_run n sys)
  unfolding whole_run
  whole_right = after_ended (length sys + length sys + n + 1) (start n sys) (popping (start_inv n sys lent)) (unfold start in go)
    where
      go : left (start n sys) < length sys + length sys + n + 1
      go = let a = start_variables n sys in let b = start_remaining n sys in let c = start_dense n sys in omega arith
