-- The cases of a unit.
use mathlib.Core.Path.{◌≡◌, refl, sym, ap, ◌∙◌}
use mathlib.Core.Logic.{◌≢◌}
use mathlib.Core.List.{List, [], ◌∷◌}
use mathlib.Core.Bool.{Bool, true, false, ◌&&◌}
use Prim.Native.Nat.{ℕ, zero, suc, ◌+◌, ◌*◌, ◌≤◌, ◌<◌}
use native.Mathlib.Omega.{arith}
use lib.ListN.{length, get_or}
use lib.Dec.{eqb, ltb}
use Rattle.gf2.specs.Equation.{Equation, Rising}
use Rattle.gf2.specs.ByNumber.{blank}
use Rattle.gf2.specs.Result.{Result, unsolvable, ok}
use Rattle.gf2.proofs.Each.{each_from}
use Rattle.gf2.proofs.Members.{or_r}
use Rattle.gf2.proofs.Tests.{eqb_same, ltb_yes, ltb_not}
use Rattle.answers.specs.Sizes.{max_variables}
use Rattle.lazy.specs.Invariant.{Lent, Inv, solves}
use Rattle.lazy.specs.Lazy.{State, Solved, pop, dense_row, last_unit, Build, ended, go_on, unit}
use Rattle.lazy.proofs.Pops as laws
use Rattle.lazy.proofs.Room.{row_rising, dense_rising}
use Rattle.sparse_rules.specs.Cancelled.{outer_row_cancels}
use Rattle.lazy.specs.Cancelled.{pop_cancels, unit_cancels}
use Rattle.lazy.proofs.Cancelled.{unit_le}
use Rattle.lazy_setup.specs.declared.Layout.{Layout}
use Rattle.lazy_setup.specs.declared.Stand.{Stand}
use Rattle.lazy_pops.specs.Step.{Step}
use Rattle.lazy_pops.specs.Step as step
use Rattle.lazy_pops.specs.Pops as pops
use Rattle.lazy_units.specs.Tidy.{Tidy}
use Rattle.lazy_units.specs.Units.{Fit, Gone, Going, Over, ClearAt}
use Rattle.lazy_units.specs.Ending.{UnitAt}
use Rattle.lazy_units.proofs.Tidying.{laid_tidy}
use Rattle.lazy_units.proofs.ClearRow.{dense_count, done_count, remaining_count, dense_low, words_long}

-- ---- the definition

unit_pop : (n : ℕ) (sys : List Equation) (s : State) → s.remaining ≢ 0 → unit n sys s ≡ go_on (pop sys s)
unfolding unit
unit_pop n sys s = go s.remaining
  where
    go : (k : ℕ) → k ≢ 0
        → ◌≡◌ {A = Build} (elim k [
          | zero ↦ elim (ltb (suc s.dense_done) (length s.dense)) [ true ↦ go_on (dense_row s) | false ↦ ended (last_unit n s) ]
          | suc _ ↦ go_on (pop sys s)
        ]) (go_on (pop sys s))
    go zero h = absurd (h refl)
    go (suc k) h = refl

unit_rest : (n : ℕ) (sys : List Equation) (s : State) → s.remaining ≡ 0
    → unit n sys s ≡ elim (ltb (suc s.dense_done) (length s.dense)) [ true ↦ go_on (dense_row s) | false ↦ ended (last_unit n s) ]
unfolding unit
unit_rest n sys s = go s.remaining
  where
    go : (k : ℕ) → k ≡ 0
        → ◌≡◌ {A = Build} (elim k [
          | zero ↦ elim (ltb (suc s.dense_done) (length s.dense)) [ true ↦ go_on (dense_row s) | false ↦ ended (last_unit n s) ]
          | suc _ ↦ go_on (pop sys s)
        ]) (elim (ltb (suc s.dense_done) (length s.dense)) [ true ↦ go_on (dense_row s) | false ↦ ended (last_unit n s) ])
    go zero h = refl
    go (suc k) h = absurd (omega arith)

unit_clear : (n : ℕ) (sys : List Equation) (s : State) → s.remaining ≡ 0 → suc s.dense_done < length s.dense → unit n sys s ≡ go_on (dense_row s)
unit_clear n sys s h g =
    unit_rest n sys s h
    ∙ ap (λ (b : Bool). elim b [ true ↦ go_on (dense_row s) | false ↦ ended (last_unit n s) ]) (ltb_yes (suc s.dense_done) (length s.dense) g)

unit_last : (n : ℕ) (sys : List Equation) (s : State) → s.remaining ≡ 0 → length s.dense ≤ suc s.dense_done → unit n sys s ≡ ended (last_unit n s)
unit_last n sys s h g =
    unit_rest n sys s h
    ∙ ap (λ (b : Bool). elim b [ true ↦ go_on (dense_row s) | false ↦ ended (last_unit n s) ]) (ltb_not (suc s.dense_done) (length s.dense) g)

-- ---- what cancels

count_pop : (sys : List Equation) (s : State) → s.remaining ≢ 0 → unit_cancels sys s ≡ pop_cancels sys s
unfolding unit_cancels
count_pop sys s = go s.remaining
  where
    go : (k : ℕ) → k ≢ 0
        → ◌≡◌ {A = ℕ} (elim k [
          | zero ↦ elim (ltb (suc s.dense_done) (length s.dense)) [ true ↦ outer_row_cancels s.dense_done s.dense | false ↦ 0 ]
          | suc _ ↦ pop_cancels sys s
        ]) (pop_cancels sys s)
    go zero h = absurd (h refl)
    go (suc k) h = refl

count_rest : (sys : List Equation) (s : State) (b : Bool) → s.remaining ≡ 0 → ltb (suc s.dense_done) (length s.dense) ≡ b
    → unit_cancels sys s ≡ elim b [ true ↦ outer_row_cancels s.dense_done s.dense | false ↦ 0 ]
unfolding unit_cancels
count_rest sys s b h g = go s.remaining h ∙ ap (λ (b : Bool). elim b [ true ↦ outer_row_cancels s.dense_done s.dense | false ↦ 0 ]) g
  where
    go : (k : ℕ) → k ≡ 0
        → ◌≡◌ {A = ℕ} (elim k [
          | zero ↦ elim (ltb (suc s.dense_done) (length s.dense)) [ true ↦ outer_row_cancels s.dense_done s.dense | false ↦ 0 ]
          | suc _ ↦ pop_cancels sys s
        ]) (elim (ltb (suc s.dense_done) (length s.dense)) [ true ↦ outer_row_cancels s.dense_done s.dense | false ↦ 0 ])
    go zero h = refl
    go (suc k) h = absurd (omega arith)

-- ---- what is solved

abbrev nothing : Solved
nothing = record { equation = 0; pivot = 0 }

solves_at : (ds : List Solved) (i : ℕ) → i < length ds → solves ds (get_or ds i nothing).equation (get_or ds i nothing).pivot ≡ true
unfolding solves
solves_at [] i h = absurd (omega arith)
solves_at (d ∷ ds) zero h = rw (eqb_same d.equation, eqb_same d.pivot)
solves_at (d ∷ ds) (suc i) h = or_r (eqb (get_or ds i nothing).equation d.equation && eqb (get_or ds i nothing).pivot d.pivot) (solves_at ds i (omega arith))

pub inv_fit : (n : ℕ) (sys : List Equation) (s : State) → Lent n sys → Inv n sys s → n ≤ max_variables → Fit n sys s
inv_fit n sys s lent i small = record {
  lent = lent;
  inv = λ h. i;
  rising = each_from (λ r. Rising 0 n r.vars) s.rows blank (λ e h. row_rising n sys lent s i e);
  dense_rising = dense_rising n sys lent s i;
  solved_in = each_from (λ d. (d.equation < length sys) × (d.pivot < n)) s.solved nothing (λ k h.
      let g = i.in_solved.gone (get_or s.solved k nothing).equation (get_or s.solved k nothing).pivot (solves_at s.solved k h) in (g.2, g.3));
  done_low = let z = i.in_units.not_yet in omega arith;
  small = small;
}

-- ---- the steps

module _ (n m : ℕ) (layout : Layout) (sys : List Equation) (s : State) (numbers words : List ℕ) where
  pub going_gone : (solution solution' : List ℕ) (x : Result State) (r : Step)
      → Going n m layout sys s x r numbers words → solution' ≡ solution → Gone n m layout sys s (go_on x) r solution solution' numbers words
  going_gone solution solution' (ok s') (step.More stand) g e = (g.0, g.1, e)
  going_gone solution solution' (ok s') step.Solved g e = g
  going_gone solution solution' (ok s') step.Unsolvable g e = g
  going_gone solution solution' unsolvable (step.More stand) g e = g
  going_gone solution solution' unsolvable step.Solved g e = g
  going_gone solution solution' unsolvable step.Unsolvable g e = (g, e)

  over_gone : Tidy n m layout numbers → (solution solution' : List ℕ) (x : Result (List ℕ)) (r : Step)
      → Over x r solution solution' → Gone n m layout sys s (ended x) r solution solution' numbers words
  over_gone t solution solution' unsolvable (step.More stand) g = g
  over_gone t solution solution' unsolvable step.Solved g = g
  over_gone t solution solution' unsolvable step.Unsolvable g = (t, g)
  over_gone t solution solution' (ok x) (step.More stand) g = g
  over_gone t solution solution' (ok x) step.Solved g = (t, g)
  over_gone t solution solution' (ok x) step.Unsolvable g = g

  pop_going : Lent n sys → Inv n sys s → n ≤ max_variables → (x : Result State) (r : Step)
      → laws.After (laws.Popped n sys s) (laws.Clash s.rows) x → pops.After n m layout sys x r numbers words → Going n m layout sys s x r numbers words
  pop_going lent i small (ok s') (step.More stand) p a = (
    record { fit = inv_fit n sys s' lent p.inv small; shows = a.0; words_are = a.1 },
    let z = i.in_units.not_yet in let y = p.inv.in_units.not_yet in let w = p.nearer in omega arith,
  )
  pop_going lent i small (ok s') step.Solved p a = a
  pop_going lent i small (ok s') step.Unsolvable p a = a
  pop_going lent i small unsolvable (step.More stand) p a = a
  pop_going lent i small unsolvable step.Solved p a = a
  pop_going lent i small unsolvable step.Unsolvable p a = laid_tidy a.laid

-- ---- on the areas

module _ {n m : ℕ} {layout : Layout} {sys : List Equation} {s : State} {stand : Stand} {numbers words solution : List ℕ} (a : UnitAt n m layout sys s stand numbers words solution) where
  pub remaining_is : stand.remaining ≡ s.remaining
  remaining_is = remaining_count a.stands

  some : stand.remaining ≢ 0 → 0 < s.remaining
  some h = positive s.remaining (λ z. h (remaining_is ∙ z))
    where
      positive : (k : ℕ) → k ≢ 0 → 0 < k
      positive k g = omega arith

  pub pop_at : stand.remaining ≢ 0 → pops.PopAt n m layout sys s stand numbers words
  pop_at h = record {
    popping = record { shows = a.stands.shows; lent = a.stands.fit.lent; inv = a.stands.fit.inv (some h); some = some h };
    words_are = a.stands.words_are;
    small = a.stands.fit.small;
  }

  pub pop_gone : (r : Step) (numbers' words' : List ℕ) → stand.remaining ≢ 0 → pops.After n m layout sys (pop sys s) r numbers' words'
      → Gone n m layout sys s (unit n sys s) r solution solution numbers' words'
  pop_gone r numbers' words' h q =
      let i = a.stands.fit.inv (some h) in
      rw (unit_pop n sys s (λ z. h (remaining_is ∙ z)))
      (going_gone n m layout sys s numbers' words' solution solution (pop sys s) r
      (pop_going n m layout sys s numbers' words' a.stands.fit.lent i a.stands.fit.small (pop sys s) r (laws.pop_keeps n sys a.stands.fit.lent s i (some h)) q) refl)

  pub done_fits : stand.done ≤ length words
  done_fits =
      let l = a.stands.fit.done_low in let m = dense_low a.stands in let w = words_long a.stands in
      omega (arith, dense_count a.stands, done_count a.stands)

  pub clear_at : stand.remaining ≡ 0 → stand.done + 1 < stand.dense → ClearAt n m layout sys s stand numbers words
  clear_at z h = record { stands = a.stands; popped = z; some = h }

  pub clear_gone : (r : Step) (numbers' words' : List ℕ) → stand.remaining ≡ 0 → stand.done + 1 < stand.dense → Going n m layout sys s (dense_row s) r numbers' words'
      → Gone n m layout sys s (unit n sys s) r solution solution numbers' words'
  clear_gone r numbers' words' z h q =
      rw (unit_clear n sys s (sym remaining_is ∙ z) (omega (arith, dense_count a.stands, done_count a.stands))) (going_gone n m layout sys s numbers' words' solution solution (dense_row s) r q refl)

  pub last_gone : (r : Step) (solution' : List ℕ) → stand.remaining ≡ 0 → stand.dense ≤ stand.done + 1 → Over (last_unit n s) r solution solution'
      → Gone n m layout sys s (unit n sys s) r solution solution' numbers words
  last_gone r solution' z h q =
      rw (unit_last n sys s (sym remaining_is ∙ z) (omega (arith, dense_count a.stands, done_count a.stands))) (over_gone n m layout sys s numbers words (laid_tidy a.stands.shows.laid) solution solution' (last_unit n s) r q)

  -- ---- what cancelled in the unit

  pub pop_counted : {t : ℕ} → stand.remaining ≢ 0 → t ≡ pop_cancels sys s → t ≡ unit_cancels sys s
  pop_counted h q = q ∙ sym (count_pop sys s (λ z. h (remaining_is ∙ z)))

  pub clear_counted : {t : ℕ} → stand.remaining ≡ 0 → stand.done + 1 < stand.dense → t ≡ outer_row_cancels s.dense_done s.dense → t ≡ unit_cancels sys s
  clear_counted z h q =
      q ∙ sym (count_rest sys s true (sym remaining_is ∙ z) (ltb_yes (suc s.dense_done) (length s.dense) (omega (arith, dense_count a.stands, done_count a.stands))))

  pub last_counted : stand.remaining ≡ 0 → stand.dense ≤ stand.done + 1 → 0 ≡ unit_cancels sys s
  last_counted z h =
      sym (count_rest sys s false (sym remaining_is ∙ z) (ltb_not (suc s.dense_done) (length s.dense) (omega (arith, dense_count a.stands, done_count a.stands))))

  -- no more than the rows can hold
  pub unit_room : unit_cancels sys s ≤ m * n
  unit_room = rw a.stands.shows.laid.many (unit_le n sys s a.stands.fit.rising a.stands.fit.dense_rising a.stands.shows.laid.sized.dense)
