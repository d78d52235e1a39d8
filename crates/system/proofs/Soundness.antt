-- What the rules 1 to 3 say of a system: kept exactly where it fits, and 3 names the lowest equation that is not in order.
use mathlib.Core.Path.{◌≡◌, refl, sym, ◌∙◌}
use mathlib.Core.Logic.{◌↔◌}
use mathlib.Core.Bool.{Bool, true, false, ◌&&◌, false≢true}
use mathlib.Core.List.{List, []}
use Prim.Native.Nat.{ℕ, zero, suc, ◌+◌, ◌-◌, ◌<◌, ◌≤◌}
use native.Mathlib.Nat.{add-zero, zero-add, sub_self}
use native.Mathlib.Omega.{arith}
use borrow.Author.Tests.{le-leb, leb-true, eq-eqb, eqb-true, le-ltb, ltb-true, ltb-false}
use lib.ListN.{length, get_or}
use lib.Dec.{eqb, leb, ltb}
use Rattle.gf2.specs.Equation.{Equation, eqn, Each, Rising}
use Rattle.gf2.proofs.Each.{each_from, each_map}
use Rattle.gf2.proofs.Order.{rising_increasing, rising_below}
use Rattle.areas.proofs.Stretch.{length-stretch}
use Rattle.answers.specs.Sizes.{max_variables, max_equations, max_listed}
use Rattle.answers.specs.Numbers.{number_of}
use Rattle.answers.specs.Calls.{pick}
use Rattle.answers.proofs.Calls.{Early, early_from}
use Rattle.answers.specs.Answers.{Answer}
use Rattle.answers.specs.Answers.{TooLarge, BadShape, BadEntry}
use Rattle.answers.specs.Answers.{Kept, Broken}
use Rattle.system.specs.System.{equation_at, equations_from, equations, starts_kept, in_order, lowest_bad, sizes_fit, shape_kept, system_rules}
use Rattle.system.specs.Fits.{Fits, listed_in}
use Rattle.gf2.proofs.Both.{both}
use Rattle.system.proofs.Climbing.{Starts, starts_sound, starts_kept_back}
use Rattle.system.proofs.InOrder.{rises_rising, rising_rises}
use Rattle.system.proofs.Reading.{equations_at, equations_length}
use Rattle.system.proofs.Lowest.{lowest_none, lowest_good, lowest_bad_lem}

-- ---- the ladder

ladder_kept : (a b c : Bool) (i : ℕ) → pick a (pick b (pick c (Broken (BadEntry i)) Kept) (Broken BadShape)) (Broken TooLarge) ≡ Kept → (a ≡ true) × (b ≡ true) × (c ≡ false)
ladder_kept true true true i e = let z : ◌≡◌ {A = ℕ} 0 1 = cc in absurd (omega arith)
ladder_kept true true false i e = (refl, refl, refl)
ladder_kept true false c i e = let z : ◌≡◌ {A = ℕ} 0 1 = cc in absurd (omega arith)
ladder_kept false b c i e = let z : ◌≡◌ {A = ℕ} 0 1 = cc in absurd (omega arith)

ladder_bad : (a b c : Bool) (i k : ℕ) → pick a (pick b (pick c (Broken (BadEntry i)) Kept) (Broken BadShape)) (Broken TooLarge) ≡ Broken (BadEntry k) → (a ≡ true) × (b ≡ true) × (c ≡ true) × (i ≡ k)
ladder_bad true true true i k e = (refl, refl, refl, cc)
ladder_bad true true false i k e = let z : ◌≡◌ {A = ℕ} 0 1 = cc in absurd (omega arith)
ladder_bad true false c i k e = let z : ◌≡◌ {A = ℕ} 0 1 = cc in absurd (omega arith)
ladder_bad false b c i k e = let z : ◌≡◌ {A = ℕ} 0 1 = cc in absurd (omega arith)

module _ (n m : ℕ) (starts vars constants : List ℕ) where
  pub sizes_sound : sizes_fit n m (length vars) ≡ true → (n ≤ max_variables) × (m ≤ max_equations) × (length vars ≤ max_listed)
  unfolding sizes_fit
  sizes_sound e =
      let p = both (leb n max_variables) (leb m max_equations && leb (length vars) max_listed) e in
      let q = both (leb m max_equations) (leb (length vars) max_listed) p.1 in
      (leb-true n max_variables p.0, leb-true m max_equations q.0, leb-true (length vars) max_listed q.1)

  pub shape_starts : shape_kept m starts vars constants ≡ true → starts_kept m (length vars) starts ≡ true
  unfolding shape_kept
  shape_starts e = (both (starts_kept m (length vars) starts) (eqb (length constants) m) e).0

  shape_sound : shape_kept m starts vars constants ≡ true → Starts m (length vars) starts × (length constants ≡ m)
  unfolding shape_kept
  shape_sound e =
      (starts_sound m (length vars) starts (shape_starts e), eqb-true (length constants) m (both (starts_kept m (length vars) starts) (eqb (length constants) m) e).1)

  -- ---- a system that fits

  blank : Equation
  blank = eqn [] 0

  listed_from : Starts m (length vars) starts → (k i : ℕ) → i + k ≤ m → listed_in (equations_from k i starts vars constants) ≡ get_or starts (i + k) 0 - get_or starts i 0
  unfolding listed_in equations_from equation_at
  listed_from s zero i h = rw (add-zero i) (sym (sub_self (get_or starts i 0)))
  listed_from s (suc k) i h =
      let e : i + suc k ≡ i + 1 + k = omega arith in
      let u : get_or starts i 0 ≤ get_or starts (i + 1) 0 = s.climbing i (i + 1) (omega arith) (omega arith) in
      let v : get_or starts (i + 1) 0 ≤ get_or starts (i + 1 + k) 0 = s.climbing (i + 1) (i + 1 + k) (omega arith) (omega arith) in
      let w : get_or starts (i + 1) 0 ≤ get_or starts m 0 = s.climbing (i + 1) m (omega arith) (omega arith) in
      let l = length-stretch (get_or starts i 0) (get_or starts (i + 1) 0 - get_or starts i 0) vars (omega (arith, s.last)) in
      rw (l, e, listed_from s k (i + 1) (omega arith)) (omega arith)

  -- from what the rules of 01 say to what engines read
  pub fits_from : n ≤ max_variables → m ≤ max_equations → length vars ≤ max_listed → Starts m (length vars) starts → length constants ≡ m → ((i : ℕ) → i < m → Rising 0 n (equation_at starts vars constants i).vars) → Fits n m starts vars constants
  fits_from hn hm ht s hc f =
      let es = equations m starts vars constants in
      let each : Each (λ e. Rising 0 n e.vars) es = each_from (λ e. Rising 0 n e.vars) es blank (λ i h. let l : i < m = rw (equations_length starts vars constants m) at h in rw (equations_at starts vars constants m i blank l) (f i l)) in
      record {
        few_variables = hn;
        few_equations = hm;
        few_listed = ht;
        starts_long = s.long;
        constants_long = hc;
        first = s.first;
        last = s.last;
        climbing = s.climbing;
        within = λ i h. rw s.last at (s.climbing i m h (omega arith));
        rising = f;
        each_rising = each;
        sorted = each_map es (λ e r. rising_increasing 0 n e.vars r) each;
        below = each_map es (λ e r. rising_below 0 n e.vars r) each;
        many = equations_length starts vars constants m;
        listed = listed_from s m 0 (omega arith) ∙ rw (zero-add m, s.first, s.last) (omega arith);
      }

  -- ---- the rules are kept exactly where the system fits

  kept_tests : system_rules n m starts vars constants ≡ Kept → (sizes_fit n m (length vars) ≡ true) × (shape_kept m starts vars constants ≡ true) × (ltb (lowest_bad n (equations m starts vars constants)) m ≡ false)
  unfolding system_rules
  kept_tests e =
      ladder_kept (sizes_fit n m (length vars)) (shape_kept m starts vars constants) (ltb (lowest_bad n (equations m starts vars constants)) m) (lowest_bad n (equations m starts vars constants)) e

  -- an equation below the lowest bad one rises
  good_rising : (i : ℕ) → i < m → i < lowest_bad n (equations m starts vars constants) → Rising 0 n (equation_at starts vars constants i).vars
  good_rising i h l =
      let es = equations m starts vars constants in
      let g = lowest_good n es blank i l (rw (equations_length starts vars constants m) h) in
      rises_rising 0 n (equation_at starts vars constants i).vars (rw (equations_at starts vars constants m i blank h) at g)

  pub kept_sound : system_rules n m starts vars constants ≡ Kept → Fits n m starts vars constants
  kept_sound e =
      let k = kept_tests e in
      let z = sizes_sound k.0 in
      let s = shape_sound k.1 in
      let b : m ≤ lowest_bad n (equations m starts vars constants) = ltb-false (lowest_bad n (equations m starts vars constants)) m k.2 in
      fits_from z.0 z.1 z.2 s.0 s.1 (λ i h. good_rising i h (omega arith))

  pub fits_kept : Fits n m starts vars constants → system_rules n m starts vars constants ≡ Kept
  unfolding system_rules sizes_fit shape_kept
  fits_kept f =
      let es = equations m starts vars constants in
      let b : lowest_bad n es ≡ m = lowest_none n es (each_map es (λ e r. rising_rises 0 n e.vars r) f.each_rising) ∙ f.many in
      let s = starts_kept_back m (length vars) starts f.starts_long f.first (λ i h. f.climbing i (i + 1) (omega arith) (omega arith)) f.last in
      simp (le-leb n max_variables f.few_variables, le-leb m max_equations f.few_equations, le-leb (length vars) max_listed f.few_listed, s, eq-eqb (length constants) m f.constants_long, le-ltb (lowest_bad n es) m (omega arith))

  pub kept_fits : (system_rules n m starts vars constants ≡ Kept) ↔ Fits n m starts vars constants
  kept_fits = (kept_sound, fits_kept)

  -- ---- 3 names an equation that is not in order, and every lower one is

  pub bad_lowest : (i : ℕ) → system_rules n m starts vars constants ≡ Broken (BadEntry i) → (i < m) × (Rising 0 n (equation_at starts vars constants i).vars → ⊥) × ((j : ℕ) → j < i → Rising 0 n (equation_at starts vars constants j).vars)
  unfolding system_rules
  bad_lowest i e =
      let es = equations m starts vars constants in
      let k = ladder_bad (sizes_fit n m (length vars)) (shape_kept m starts vars constants) (ltb (lowest_bad n es) m) (lowest_bad n es) i e in
      let l : lowest_bad n es < m = ltb-true (lowest_bad n es) m k.2 in
      let q : lowest_bad n es ≡ i = k.3 in
      let h : i < m = omega arith in
      let b = lowest_bad_lem n es blank (rw (equations_length starts vars constants m) l) in
      let d : in_order n (equation_at starts vars constants i).vars ≡ false = rw (q, equations_at starts vars constants m i blank h) at b in
      (h, (λ r. false≢true (sym d ∙ rising_rises 0 n (equation_at starts vars constants i).vars r)), (λ j g. good_rising j (omega arith) (omega arith)))

ladder_refuses : (a b c : Bool) (i : ℕ) (answer : Answer) → pick a (pick b (pick c (Broken (BadEntry i)) Kept) (Broken BadShape)) (Broken TooLarge) ≡ Broken answer → (1 ≤ number_of answer) × (number_of answer ≤ 3)
ladder_refuses true true true i answer e = let q : BadEntry i ≡ answer = cc in rw (← q) (omega arith, omega arith)
ladder_refuses true true false i answer e = let z : ◌≡◌ {A = ℕ} 0 1 = cc in absurd (omega arith)
ladder_refuses true false c i answer e = let q : BadShape ≡ answer = cc in rw (← q) (omega arith, omega arith)
ladder_refuses false b c i answer e = let q : TooLarge ≡ answer = cc in rw (← q) (omega arith, omega arith)

-- a system that does not fit is refused with 1, 2 or 3
pub rules_refuse : (n m : ℕ) (starts vars constants : List ℕ) (answer : Answer) → system_rules n m starts vars constants ≡ Broken answer → (1 ≤ number_of answer) × (number_of answer ≤ 3)
unfolding system_rules
rules_refuse n m starts vars constants answer e =
    ladder_refuses (sizes_fit n m (length vars)) (shape_kept m starts vars constants) (ltb (lowest_bad n (equations m starts vars constants)) m) (lowest_bad n (equations m starts vars constants)) answer e

-- so a solver's call reads its answer back (answers' laws of calls)
pub rules_early : (n m : ℕ) (starts vars constants : List ℕ) → Early (system_rules n m starts vars constants)
rules_early n m starts vars constants = early_from (system_rules n m starts vars constants) (rules_refuse n m starts vars constants)
