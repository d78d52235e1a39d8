-- What lazy elimination answers: a solution or a contradiction, never one for the other, within 2m + n + 1 units.
use mathlib.Core.Path.{◌≡◌, refl, sym, ap, ◌∙◌, subst}
use mathlib.Core.Logic.{◌⊎◌, inl, inr, ◌↔◌}
use mathlib.Core.List.{List, []}
use mathlib.Core.Bool.{Bool, true, false, true≢false}
use Prim.Native.Nat.{ℕ, suc, ◌+◌, ◌-◌, ◌≤◌, ◌<◌, ◌^◌}
use native.Mathlib.Omega.{arith}
use native.Mathlib.Decide.{dec_lt, dec_le}
use lib.ListN.{length, get_or, replicate, get_or-eq_default}
use lib.Pow.{pow_pos}
use Rattle.gf2.specs.Equation.{Equation, Each, Increasing, Sorted, Below, Meets, MeetsAll}
use Rattle.gf2.specs.ByNumber.{blank, row_of}
use Rattle.gf2.specs.Span.{Cancels}
use Rattle.gf2.specs.Ours.{any_ours, all_ours, Apart, our_part}
use Rattle.gf2.specs.Result.{unsolvable, ok}
use Rattle.lazy.specs.Lazy.{State, Build, more, ended, start, after, used, enough, whole_run, answer_of, lazy_elimination, unit, last_unit, fill}
use Rattle.sparse_rules.specs.Eliminate.{contradicted, back_sub}
use Rattle.lazy.specs.Invariant.{Lent}
use Rattle.lazy.specs.Description.{Described}
use Rattle.lazy.specs.Safe.{Safe}
use Rattle.gf2.proofs.Each.{each_at, each_from}
use Rattle.gf2.proofs.Members.{each_listed}
use Rattle.gf2.proofs.OurCells.{any_listed, all_listed}
use Rattle.gf2.proofs.Spans.{solved_not_cancels}
use Rattle.gf2.proofs.Results.{Case, refused, gave, which}
use Rattle.lazy.proofs.Pivots.{lists_at_below}
use Rattle.lazy.proofs.Run.{Right, Ended, ended_so, whole_right}
use Rattle.lazy.proofs.Turns.{after_end, used_end, used_add, used_le}
use Rattle.lazy.proofs.NeverEmpty.{reached_safe}
use Rattle.lazy.proofs.Shares.{ApartAt}
use Rattle.lazy.proofs.Isolated.{shares, ours_same}

-- ---- the system by its numbers

-- what holds of each equation, and of 0 = 0, holds of equation e for any e
at_all : (Q : Equation → Type 0) (es : List Equation) → Q blank → Each Q es → (e : ℕ) → Q (row_of es e)
at_all Q es z h e = go (dec_lt e (length es))
  where
    go : Dec (e < length es) → Q (row_of es e)
    go (yes l) = each_at Q es blank e l h
    go (no l) = subst Q (sym (get_or-eq_default es blank {n = e} (omega arith))) z

pub lent : (n : ℕ) (es : List Equation) → Sorted es → Below n es → Lent n es
lent n es s b = record {
  rising = at_all (λ r. Increasing r.vars) es tt s;
  inside = λ v e h. each_listed (λ u. u < n) (row_of es e).vars (at_all (λ r. Each (λ u. u < n) r.vars) es tt b e) v h;
}

apart_at : (P : ℕ → Bool) (es : List Equation) → Apart P es → ApartAt P es
apart_at P es a u v e hu hv p =
    go (each_at (λ r. (all_ours P r.vars ≡ true) ⊎ (any_ours P r.vars ≡ false)) es blank e (lists_at_below es u e hu) a)
  where
    go : (all_ours P (row_of es e).vars ≡ true) ⊎ (any_ours P (row_of es e).vars ≡ false) → P v ≡ true
    go (inl h) = all_listed P v (row_of es e).vars h hv
    go (inr h) = absurd (true≢false (sym (any_listed P u (row_of es e).vars hu p) ∙ h))

-- ---- the theorems, about a system whose variables are strictly increasing and below n

module _ (n : ℕ) (es : List Equation) (s : Sorted es) (b : Below n es) where
  run : Ended n es (lent n es s b) (whole_run n es)
  run = whole_right n es (lent n es s b)

  -- The whole run ends, so that `lazy_elimination` is its answer.
  pub lazy_ends : whole_run n es ≡ ended (lazy_elimination n es)
  unfolding lazy_elimination
  lazy_ends = go run
    where
      go : {w : Build} → Ended n es (lent n es s b) w → w ≡ ended (answer_of w)
      go (ended_so q) = refl

  right : Right n es (lazy_elimination n es)
  unfolding lazy_elimination
  right = go run
    where
      go : {w : Build} → Ended n es (lent n es s b) w → Right n es (answer_of w)
      go (ended_so q) = q

  -- A solution is as described without the steps.
  pub lazy_described : (x : List ℕ) → lazy_elimination n es ≡ ok x → Described n es x
  lazy_described x e = subst (Right n es) e right

  -- What is handed back has n values and meets every equation.
  pub lazy_solves : (x : List ℕ) → lazy_elimination n es ≡ ok x → (length x ≡ n) × MeetsAll x es
  lazy_solves x e = let d = lazy_described x e in (d.size, each_from (Meets x) es blank (λ i l. d.meets i))

  -- A refused system has a set of equations that cancels.
  pub lazy_refuses : lazy_elimination n es ≡ unsolvable → (mask : List Bool) × Cancels mask es
  lazy_refuses e = subst (Right n es) e right

  -- It is refused exactly if there is one.
  pub lazy_exact : (lazy_elimination n es ≡ unsolvable) ↔ ((mask : List Bool) × Cancels mask es)
  lazy_exact = (lazy_refuses, λ c. go c (which (lazy_elimination n es)))
    where
      go : (mask : List Bool) × Cancels mask es → Case (lazy_elimination n es) → lazy_elimination n es ≡ unsolvable
      go c (refused e) = e
      go c (gave x e) = absurd (solved_not_cancels es x c.0 s (lazy_solves x e).1 c.1)

  -- Constants of k digits give values of k digits.
  pub lazy_narrow : (k : ℕ) (x : List ℕ) → Each (λ e. e.c < 2 ^ k) es → lazy_elimination n es ≡ ok x → (v : ℕ) → get_or x v 0 < 2 ^ k
  lazy_narrow k x h e = (lazy_described x e).small k (at_all (λ r. r.c < 2 ^ k) es (pow_pos k) h)

  -- However many units are given, at most 2m + n + 1 are used.
  pub lazy_units : (k : ℕ) → used k n es (more (start n es)) ≤ length es + length es + n + 1
  unfolding whole_run
  lazy_units k = go (dec_le k (enough n es))
    where
      none : (j : ℕ) → used j n es (whole_run n es) ≡ 0
      none j = ap (used j n es) lazy_ends ∙ used_end n es j (lazy_elimination n es)

      go : Dec (k ≤ enough n es) → used k n es (more (start n es)) ≤ enough n es
      go (yes h) = let l = used_le n es k (more (start n es)) in omega arith
      go (no h) =
          let j : ℕ = k - enough n es in
          let is : k ≡ enough n es + j = omega arith in
          subst (λ (i : ℕ). used i n es (more (start n es)) ≤ enough n es) (sym is)
          (let a = used_add n es (enough n es) j (more (start n es)) in
          let z = none j in
          let l = used_le n es (enough n es) (more (start n es)) in
          rw (a, z) (omega arith))

  -- In every state that is reached, there is something to pop while equations remain, an equation of priority 1 has its
  -- idle variable, no priority falls below 0, and a solved variable is 0 before it is filled in.
  pub lazy_never_empty : (k : ℕ) (t : State) → after k n es (more (start n es)) ≡ more t → Safe n es t
  lazy_never_empty = reached_safe n es (lent n es s b)

-- No equations: n zeros at once, in the last unit.
none_unit : (n : ℕ) → unit n [] (start n []) ≡ ended (ok (replicate n 0))
unfolding unit start last_unit fill contradicted back_sub
none_unit n = refl

pub lazy_none : (n : ℕ) → lazy_elimination n [] ≡ ok (replicate n 0)
unfolding lazy_elimination whole_run after
lazy_none n = ap answer_of (ap (λ (k : ℕ). after k n [] (more (start n []))) one_more ∙ ap (after n n []) (none_unit n) ∙ after_end n [] n (ok (replicate n 0)))
  where
    one_more : enough n [] ≡ suc n
    one_more = omega arith

-- Two systems over the same cells have the same equations on our cells, which P marks, and no equation has one of ours
-- beside one that is not. Where both are solved, our cells have the same values, whatever the other equations are.
pub lazy_isolated : (P : ℕ → Bool) (n : ℕ) (A B : List Equation) → Sorted A → Below n A → Sorted B → Below n B
    → Apart P A → Apart P B → our_part P A ≡ our_part P B
    → (x y : List ℕ) → lazy_elimination n A ≡ ok x → lazy_elimination n B ≡ ok y
    → (v : ℕ) → P v ≡ true → get_or x v 0 ≡ get_or y v 0
lazy_isolated P n A B sA bA sB bB aA aB h x y ex ey =
    ours_same P A B (shares P A B h) (apart_at P A aA) (apart_at P B aB) n n (lent n A sA bA) (lent n B sB bB) x y
    (lazy_described n A sA bA x ex) (lazy_described n B sB bB y ey)
