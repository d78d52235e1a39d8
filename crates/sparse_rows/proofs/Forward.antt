-- The paths of a meeting, and the turns of the loops over rows.
use mathlib.Core.Path.{◌≡◌, refl, sym, ap, ◌∙◌, subst}
use mathlib.Core.Logic.{◌≢◌}
use mathlib.Core.List.{List, [], ◌∷◌}
use Prim.Native.Nat.{ℕ, zero, suc, ◌+◌, ◌*◌, ◌≤◌, ◌<◌}
use native.Mathlib.Omega.{arith}
use lib.ListN.{length, get_or, set}
use lib.Seq.{get_or-set_same, get_or-set_other, set-get_or}
use Rattle.areas.proofs.Offsets.{row_before}
use Rattle.gf2.specs.Equation.{Equation, eqn, sum, Rising, sym_diff}
use Rattle.gf2.proofs.SymDiff.{rising_sym_diff_heads}
use Rattle.rows.specs.Picture.{Drawn, row_at, swapped, added}
use Rattle.rows.proofs.Holding.{row_rising, row_narrow, row_length, row_first, row_constant, rest_kept}
use Rattle.sparse_rules.specs.Eliminate.{meeting, summed}
use Rattle.sparse_rows.specs.Reduce.{MetBy, clashed, vanished, paired, again}
use Rattle.sparse_rows.specs.declared.echelon.Met.TheVariants.{Clash, Identity, Both, Summed}
use Rattle.sparse_rules.proofs.Cases.{meeting_skip, meeting_clash, meeting_stay, meeting_swap, meeting_sum, summed_identity, summed_clash, summed_swap}

-- a list without elements begins with nothing
blank : (vs : List ℕ) → length vs ≡ 0 → get_or vs 0 0 ≡ 0
blank [] e = refl
blank (v ∷ vs) e = absurd (omega arith)

-- a rising list begins at its bound or above
begins : (b n : ℕ) (vs : List ℕ) → Rising b n vs → length vs ≢ 0 → b ≤ get_or vs 0 0
begins b n [] r f = absurd (f refl)
begins b n (v ∷ vs) r f = r.0

-- the sum of two rows that begin alike begins above them
sum_above : (n : ℕ) (us vs : List ℕ) → Rising 0 n us → Rising 0 n vs → length us ≢ 0 → length vs ≢ 0 → get_or us 0 0 ≡ get_or vs 0 0 → length (sym_diff us vs) ≢ 0
    → get_or vs 0 0 < get_or (sym_diff us vs) 0 0
sum_above n [] vs r s f g e h = absurd (f refl)
sum_above n (u ∷ us) [] r s f g e h = absurd (g refl)
sum_above n (u ∷ us) (v ∷ vs) r s f g e h =
    let a : suc u ≤ get_or (sym_diff (u ∷ us) (v ∷ vs)) 0 0 = begins (suc u) n (sym_diff (u ∷ us) (v ∷ vs)) (rising_sym_diff_heads 0 n u v us vs e r s) h in
    omega arith

-- rows i and j as they were
unchanged : (rows : List Equation) (i j : ℕ) → rows ≡ set (set rows i (row_at rows i)) j (row_at rows j)
unchanged rows i j = sym (ap (λ (l : List Equation). set l j (row_at rows j)) (set-get_or rows i (eqn [] 0)) ∙ set-get_or rows j (eqn [] 0))

module _ {n m : ℕ} {rows : List Equation} {rest rest' numbers words : List ℕ} (d : Drawn n m rows rest rest' numbers words) where
  -- a row that the code has found empty, or not
  module _ (i : ℕ) (h : i < m) where
    pub empty : get_or numbers (m * n + n + i) 0 ≡ 0 → length (row_at rows i).vars ≡ 0
    empty z = sym (row_length d i h) ∙ z

    pub full : get_or numbers (m * n + n + i) 0 ≢ 0 → length (row_at rows i).vars ≢ 0
    full f e = f (row_length d i h ∙ e)

    pub first : get_or numbers (m * n + n + i) 0 ≢ 0 → get_or numbers (i * n) 0 ≡ get_or (row_at rows i).vars 0 0
    first f = row_first d i h (let g = full f in omega (arith, row_narrow d i h))

    -- where its first variable lies
    pub first_in : get_or numbers (m * n + n + i) 0 ≢ 0 → i * n < m * n
    first_in f = let g = full f in omega (arith, row_narrow d i h, row_before i m n h)

    -- where the row begins, whether it is empty or not
    pub row_in : i * n < length numbers
    row_in = omega (arith, row_before i m n h, d.numbers_room)

  module _ (i j : ℕ) (h : i < j) (l : j < m) where
    i_in : i < m
    i_in = omega arith

    same_rows : Drawn n m (set (set rows i (row_at rows i)) j (row_at rows j)) rest rest' numbers words
    same_rows = subst (λ (r : List Equation). Drawn n m r rest rest' numbers words) (unchanged rows i j) d

    -- ---- a meeting

    pub meet_clash : get_or numbers (m * n + n + j) 0 ≡ 0 → get_or words j 0 ≢ 0 → MetBy n m i j rows rest rest' (meeting (row_at rows i) (row_at rows j)) numbers words Clash
    meet_clash z ne = clashed (meeting_clash (row_at rows i) (row_at rows j) (empty j l z) (λ e. ne (row_constant d j l ∙ e))) (rest_kept d)

    pub meet_skip : get_or numbers (m * n + n + i) 0 ≢ 0 → get_or numbers (m * n + n + j) 0 ≡ 0 → get_or words j 0 ≡ 0 → MetBy n m i j rows rest rest' (meeting (row_at rows i) (row_at rows j)) numbers words Both
    meet_skip fi z e = paired (row_at rows i) (row_at rows j) (meeting_skip (row_at rows i) (row_at rows j) (empty j l z) (sym (row_constant d j l) ∙ e)) (full i i_in fi) same_rows

    module _ (fj : get_or numbers (m * n + n + j) 0 ≢ 0) where
      module _ (fi : get_or numbers (m * n + n + i) 0 ≢ 0) where
        pub meet_stay : get_or numbers (i * n) 0 < get_or numbers (j * n) 0 → MetBy n m i j rows rest rest' (meeting (row_at rows i) (row_at rows j)) numbers words Both
        meet_stay k =
            paired (row_at rows i) (row_at rows j) (meeting_stay (row_at rows i) (row_at rows j) (full j l fj) (full i i_in fi) (omega (arith, first i i_in fi, first j l fj))) (full i i_in fi) same_rows

        pub meet_swap : get_or numbers (j * n) 0 < get_or numbers (i * n) 0 → (numbers' words' : List ℕ) → Drawn n m (swapped i j rows) rest rest' numbers' words'
            → MetBy n m i j rows rest rest' (meeting (row_at rows i) (row_at rows j)) numbers' words' Both
        meet_swap k numbers' words' b =
            paired (row_at rows j) (row_at rows i) (meeting_swap (row_at rows i) (row_at rows j) (full j l fj) (full i i_in fi) (omega (arith, first i i_in fi, first j l fj))) (full j l fj) b

        -- equal first variables: the sum, and what came of it
        module _ (same : get_or numbers (i * n) 0 ≡ get_or numbers (j * n) 0) {numbers₁ words₁ : List ℕ} (b : Drawn n m (added i j rows) rest rest' numbers₁ words₁) where
          total : Equation
          total = sum (row_at rows i) (row_at rows j)

          at_i : row_at (added i j rows) i ≡ total
          unfolding total
          at_i = get_or-set_same rows i (sum (row_at rows i) (row_at rows j)) (eqn [] 0) (omega (arith, d.count))

          at_j : row_at (added i j rows) j ≡ row_at rows j
          at_j = let ne : j ≢ i = omega arith in get_or-set_other rows i j (sum (row_at rows i) (row_at rows j)) (eqn [] 0) ne

          is_sum : meeting (row_at rows i) (row_at rows j) ≡ summed total (get_or (row_at rows j).vars 0 0) (row_at rows j)
          unfolding total
          is_sum = meeting_sum (row_at rows i) (row_at rows j) (full j l fj) (full i i_in fi) (sym (first i i_in fi) ∙ same ∙ first j l fj)

          total_length : get_or numbers₁ (m * n + n + i) 0 ≡ length total.vars
          total_length = row_length b i i_in ∙ ap (λ (e : Equation). length e.vars) at_i

          total_constant : get_or words₁ i 0 ≡ total.c
          total_constant = row_constant b i i_in ∙ ap (λ (e : Equation). e.c) at_i

          pub sum_clash : get_or numbers₁ (m * n + n + i) 0 ≡ 0 → get_or words₁ i 0 ≢ 0 → MetBy n m i j rows rest rest' (meeting (row_at rows i) (row_at rows j)) numbers₁ words₁ Clash
          sum_clash z ne = clashed (is_sum ∙ summed_clash total _ (row_at rows j) (sym total_length ∙ z) (λ e. ne (total_constant ∙ e))) (rest_kept b)

          pub sum_identity : get_or numbers₁ (m * n + n + i) 0 ≡ 0 → get_or words₁ i 0 ≡ 0 → MetBy n m i j rows rest rest' (meeting (row_at rows i) (row_at rows j)) numbers₁ words₁ Identity
          unfolding total
          sum_identity z e = vanished total (is_sum ∙ summed_identity total _ (row_at rows j) (sym total_length ∙ z) (sym total_constant ∙ e)) b

          pub sum_again : get_or numbers₁ (m * n + n + i) 0 ≢ 0 → MetBy n m i j rows rest rest' (meeting (row_at rows i) (row_at rows j)) numbers₁ words₁ Summed
          unfolding total
          sum_again f =
              let g : length total.vars ≢ 0 = λ e. f (total_length ∙ e) in
              let above : get_or (row_at rows j).vars 0 0 < get_or total.vars 0 0 =
              sum_above n (row_at rows i).vars (row_at rows j).vars (row_rising d i i_in) (row_rising d j l) (full i i_in fi) (full j l fj) (sym (first i i_in fi) ∙ same ∙ first j l fj) g in
              again total (is_sum ∙ summed_swap total _ (row_at rows j) g above ∙ sym (meeting_swap total (row_at rows j) (full j l fj) g above)) g (full j l fj) above b

    -- row j begins above row i: it has variables, as an empty row begins with 0
    pub meet_pass : get_or numbers (m * n + n + i) 0 ≢ 0 → get_or numbers (i * n) 0 < get_or numbers (j * n) 0 → MetBy n m i j rows rest rest' (meeting (row_at rows i) (row_at rows j)) numbers words Both
    meet_pass fi k = by_j (get_or numbers (m * n + n + j) 0) refl
      where
        wide : 0 < n
        wide = let g = full i i_in fi in omega (arith, row_narrow d i i_in)

        by_j : (x : ℕ) → get_or numbers (m * n + n + j) 0 ≡ x → MetBy n m i j rows rest rest' (meeting (row_at rows i) (row_at rows j)) numbers words Both
        by_j zero e = absurd (omega (arith, row_first d j l wide, blank (row_at rows j).vars (empty j l e)))
        by_j (suc x) e = meet_stay (λ z. omega arith) fi k
