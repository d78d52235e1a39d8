-- A sum cancels no more than n variables, and a row is added to each later one at the most once: so the totals are small.
use mathlib.Core.Path.{◌≡◌, refl}
use mathlib.Core.List.{List, [], ◌∷◌}
use Prim.Native.Nat.{ℕ, zero, suc, pred, ◌+◌, ◌*◌, ◌≤◌, compare, Ordering}
use native.Mathlib.Nat.{mul-le-mul}
use native.Mathlib.Omega.{arith}
use lib.ListN.{length}
use Rattle.gf2.specs.Equation.{Equation, Each, Rising}
use Rattle.gf2.specs.Common.{common}
use Rattle.gf2.specs.Result.{Result, unsolvable, ok}
use Rattle.gf2.proofs.Common.{common_le}
use Rattle.gf2.proofs.SymDiff.{rising_sym_diff}
use Rattle.gf2.proofs.Order.{rising_increasing, rising_sorted}
use Rattle.answers.specs.Sizes.{max_variables, max_equations}
use Rattle.sparse_rules.specs.Eliminate.{Meeting, clash, identity, both, meeting, outer_row}
use Rattle.sparse_rules.specs.Cancelled.{meeting_cancels, meet_row_cancels, outer_row_cancels, outer_rows_cancel, sparse_cancels}
use Rattle.sparse_rules.proofs.Meetings.{Met, met_clash, met_identity, met_both, meeting_met}
use Rattle.sparse_rules.proofs.OuterRow.{outer_row_rising, outer_row-length}

module _ (n : ℕ) where
  abbrev Bounded : Equation → Type 0
  Bounded r = Rising 0 n r.vars

  meeting_le : (i j : Equation) → Bounded i → meeting_cancels i j ≤ n
  unfolding meeting_cancels
  meeting_le i j h = by_j j.vars
    where
      by_order : (o : Ordering) → elim o [ Ordering.lt ↦ 0 | Ordering.eq ↦ common i.vars j.vars | Ordering.gt ↦ 0 ] ≤ n
      by_order Ordering.lt = omega arith
      by_order Ordering.eq = common_le n i.vars j.vars h
      by_order Ordering.gt = omega arith

      by_i : (v : ℕ) (us : List ℕ) → elim us [ [] ↦ 0 | u ∷ _ ↦ elim (compare u v) [ Ordering.lt ↦ 0 | Ordering.eq ↦ common i.vars j.vars | Ordering.gt ↦ 0 ] ] ≤ n
      by_i v [] = omega arith
      by_i v (u ∷ us) = by_order (compare u v)

      by_j : (vs : List ℕ) → elim vs [
        | [] ↦ 0
        | v ∷ _ ↦ elim i.vars [ [] ↦ 0 | u ∷ _ ↦ elim (compare u v) [ Ordering.lt ↦ 0 | Ordering.eq ↦ common i.vars j.vars | Ordering.gt ↦ 0 ] ]
      ] ≤ n
      by_j [] = omega arith
      by_j (v ∷ vs) = by_i v i.vars

  meet_row-le : (rest : List Equation) (i : Equation) (u : ℕ) (us : List ℕ) → i.vars ≡ u ∷ us → Bounded i → Each Bounded rest → meet_row_cancels i rest ≤ length rest * n
  unfolding meet_row_cancels
  meet_row-le [] i u us e h k = omega arith
  meet_row-le (j ∷ rest) i u us e h k =
      go (meeting i j) (meeting_met i j u us e (rising_increasing 0 n i.vars h) (rising_increasing 0 n j.vars k.0)) (meeting_le i j h)
      (λ i' u' us' e' h'. meet_row-le rest i' u' us' e' h' k.1)
    where
      go : (m : Meeting) → Met i j u m → meeting_cancels i j ≤ n
          → ((i' : Equation) (u' : ℕ) (us' : List ℕ) → i'.vars ≡ u' ∷ us' → Bounded i' → meet_row_cancels i' rest ≤ length rest * n)
          → meeting_cancels i j + elim m [ clash ↦ 0 | identity i' ↦ 0 | both i' j' ↦ meet_row_cancels i' rest ] ≤ suc (length rest) * n
      go m (met_clash c) a ih = omega arith
      go m (met_identity i' p q f) a ih = omega arith
      go m (met_both i' j' f l) a ih =
          let b = ih i' l.first l.others l.vars_are (f.closed Bounded (λ a b. rising_sym_diff 0 n a.vars b.vars) h k.0).0 in omega arith

  pub outer_row-le : (k : ℕ) (rows : List Equation) → Each Bounded rows → outer_row_cancels k rows ≤ length rows * n
  unfolding outer_row_cancels
  outer_row-le k [] h = omega arith
  outer_row-le zero (i ∷ rest) h = go i.vars refl
    where
      go : (vs : List ℕ) → i.vars ≡ vs → elim vs [ [] ↦ 0 | _ ∷ _ ↦ meet_row_cancels i rest ] ≤ suc (length rest) * n
      go [] e = omega arith
      go (v ∷ vs) e = let a = meet_row-le rest i v vs e h.0 h.1 in omega arith
  outer_row-le (suc k) (i ∷ rest) h = let a = outer_row-le k rest h.1 in omega arith

  pub outer_rows-le : (count k : ℕ) (rows : List Equation) → Each Bounded rows → outer_rows_cancel count k rows ≤ count * (length rows * n)
  unfolding outer_rows_cancel
  outer_rows-le zero k rows h = omega arith
  outer_rows-le (suc count) k rows h =
      go (outer_row k rows) refl (outer_row-le k rows h) (λ rows' g. outer_rows-le count (suc k) rows' g)
    where
      go : (o : Result (List Equation)) → outer_row k rows ≡ o → outer_row_cancels k rows ≤ length rows * n
          → ((rows' : List Equation) → Each Bounded rows' → outer_rows_cancel count (suc k) rows' ≤ count * (length rows' * n))
          → outer_row_cancels k rows + elim o [ unsolvable ↦ 0 | ok rows' ↦ outer_rows_cancel count (suc k) rows' ] ≤ suc count * (length rows * n)
      go unsolvable e a ih = omega arith
      go (ok rows') e a ih =
          let b = ih rows' (outer_row_rising n k rows rows' h e) in
          let l : length rows' ≡ length rows = outer_row-length k rows rows' (rising_sorted n rows h) e in
          let c : outer_rows_cancel count (suc k) rows' ≤ count * (length rows * n) = rw (← l) b in omega arith

  -- m equations: less than m times m times n
  pub sparse_le : (es : List Equation) → Each Bounded es → sparse_cancels es ≤ pred (length es) * (length es * n)
  unfolding sparse_cancels
  sparse_le es h = outer_rows-le (pred (length es)) 0 es h

  -- .. so of a system that keeps the sizes: 2^42 at the most
  pub sparse_fits : (es : List Equation) → Each Bounded es → n ≤ max_variables → length es ≤ max_equations → sparse_cancels es ≤ max_equations * (max_equations * max_variables)
  sparse_fits es h few l =
      let a = sparse_le es h in
      let b : length es * n ≤ max_equations * max_variables = mul-le-mul l few in
      let c : pred (length es) * (length es * n) ≤ max_equations * (max_equations * max_variables) = mul-le-mul (less (length es) l) b in
      omega arith
    where
      less : (d : ℕ) → d ≤ max_equations → pred d ≤ max_equations
      less zero h = omega arith
      less (suc d) h = omega arith
