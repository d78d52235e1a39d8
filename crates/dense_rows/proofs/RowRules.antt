-- The rows' rule: what it says of rows that keep it and of the lowest that does not, and what a search for that one comes to.
use mathlib.Core.Path.{◌≡◌, refl, sym, ap, ◌∙◌, subst}
use mathlib.Core.List.{List, [], ◌∷◌}
use mathlib.Core.Bool.{Bool, true, false}
use Prim.Native.Nat.{ℕ, zero, suc, ◌+◌, ◌-◌, ◌*◌, ◌<◌, ◌≤◌}
use native.Mathlib.Nat.{le_refl}
use native.Mathlib.Omega.{arith}
use lib.ListN.{length, get_or, take, drop, drop_of_length-le}
use lib.Seq.{drop-cons}
use Rattle.std.specs.Prelude.{Option, Some, None, MatchOption}
use Rattle.gf2.specs.Equation.{Each}
use Rattle.answers.specs.Answers.{BadEntry}
use Rattle.answers.specs.Answers.{Rules}
use Rattle.answers.specs.Answers.{Kept, Broken}
use Rattle.dense_rows.specs.Bits.{Row, row_fits}
use Rattle.dense_rows.specs.Rows.{rows_of}
use Rattle.dense_rows.specs.Steps.{no_row}
use Rattle.dense_rows.proofs.HeldLaws.{rows_length, row_lent}
use Rattle.dense_rows.specs.Rules.{row_rules, entry_rules}

-- the cases
rules_kept : (n i : ℕ) (row : Row) (rows : List Row) → row_fits n row.words ≡ true → row_rules n i (row ∷ rows) ≡ row_rules n (suc i) rows
unfolding row_rules
rules_kept n i row rows e = rw (e, row_rules)

rules_broken : (n i : ℕ) (row : Row) (rows : List Row) → row_fits n row.words ≡ false → row_rules n i (row ∷ rows) ≡ Broken (BadEntry i)
unfolding row_rules
rules_broken n i row rows e = rw (e, row_rules)

-- rows that keep the rules fit
pub rules_fit : (n i : ℕ) (rows : List Row) → row_rules n i rows ≡ Kept → Each (λ row. row_fits n row.words ≡ true) rows
rules_fit n i [] e = tt
rules_fit n i (row ∷ rows) e = go (row_fits n row.words) refl (λ k. rules_fit n (suc i) rows k)
  where
    go : (b : Bool) → row_fits n row.words ≡ b → (row_rules n (suc i) rows ≡ Kept → Each (λ r. row_fits n r.words ≡ true) rows) → Each (λ r. row_fits n r.words ≡ true) (row ∷ rows)
    go true f ih = (f, ih (sym (rules_kept n i row rows f) ∙ e))
    go false f ih = let q : Broken (BadEntry i) ≡ Kept = sym (rules_broken n i row rows f) ∙ e in absurd (let z : ◌≡◌ {A = ℕ} 0 1 = cc in omega arith)

-- .. and rows that fit keep them
pub fit_rules : (n i : ℕ) (rows : List Row) → Each (λ row. row_fits n row.words ≡ true) rows → row_rules n i rows ≡ Kept
unfolding row_rules
fit_rules n i [] h = refl
fit_rules n i (row ∷ rows) h = rules_kept n i row rows h.0 ∙ fit_rules n (suc i) rows h.1

-- of rows numbered from i on, row j does not fit and those before it do
pub record Lowest (n i j : ℕ) (rows : List Row) : Type 0 where
  pub from : i ≤ j
  pub there : j < i + length rows
  pub bad : row_fits n (get_or rows (j - i) no_row).words ≡ false
  pub good : (k : ℕ) → i ≤ k → k < j → row_fits n (get_or rows (k - i) no_row).words ≡ true

pub rules_lowest : (n i j : ℕ) (rows : List Row) → row_rules n i rows ≡ Broken (BadEntry j) → Lowest n i j rows
unfolding row_rules
rules_lowest n i j [] e = absurd (let z : ◌≡◌ {A = ℕ} 0 1 = cc in omega arith)
rules_lowest n i j (row ∷ rows) e = go (row_fits n row.words) refl e (rules_lowest n (suc i) j rows)
  where
    go : (b : Bool) → row_fits n row.words ≡ b → ◌≡◌ {A = Rules} (elim b [ true ↦ row_rules n (suc i) rows | false ↦ Broken (BadEntry i) ]) (Broken (BadEntry j))
        → (row_rules n (suc i) rows ≡ Broken (BadEntry j) → Lowest n (suc i) j rows) → Lowest n i j (row ∷ rows)
    go true f q ih =
        let l = ih q in
        let lf = l.from in
        let lt = l.there in
        let s : j - i ≡ suc (j - suc i) = omega arith in
        record { from = omega arith; there = omega arith; bad = rw s l.bad; good = λ k h g. before k h g l }
      where
        before : (k : ℕ) → i ≤ k → k < j → Lowest n (suc i) j rows → row_fits n (get_or (row ∷ rows) (k - i) no_row).words ≡ true
        before k h g l = at (k - i) refl
          where
            at : (d : ℕ) → k - i ≡ d → row_fits n (get_or (row ∷ rows) d no_row).words ≡ true
            at zero z = f
            at (suc d) z = let y : k - suc i ≡ d = omega arith in subst (λ (x : ℕ). row_fits n (get_or rows x no_row).words ≡ true) y (l.good k (omega arith) g)
    go false f q ih =
        let s : i ≡ j = cc in
        let z : j - i ≡ 0 = omega arith in
        record { from = omega arith; there = omega arith; bad = rw z f; good = λ k h g. absurd (omega arith) }

-- ---- a search for the lowest row that does not fit

module _ (n m : ℕ) (rows : List Row) (count : length rows ≡ m) where
  -- the rows before row i fit
  fitting_to : (i : ℕ) → i ≤ m → ((j : ℕ) → j < i → row_fits n (get_or rows j no_row).words ≡ true) → row_rules n 0 rows ≡ row_rules n i (drop i rows)
  fitting_to zero h f = refl
  fitting_to (suc i) h f =
      fitting_to i (omega arith) (λ j l. f j (omega arith)) ∙ ap (row_rules n i) (drop-cons rows i no_row (omega arith))
      ∙ rules_kept n i (get_or rows i no_row) (drop (suc i) rows) (f i (omega arith))

  searched_rules : (o : Option ℕ)
      → MatchOption o ((j : ℕ) → j < m → row_fits n (get_or rows j no_row).words ≡ true)
      (λ i. (i < m) × (row_fits n (get_or rows i no_row).words ≡ false) × ((j : ℕ) → j < i → row_fits n (get_or rows j no_row).words ≡ true))
      → entry_rules o ≡ row_rules n 0 rows
  unfolding row_rules
  searched_rules None f = sym (fitting_to m (le_refl m) f ∙ ap (row_rules n m) (drop_of_length-le rows {i = m} (omega arith)))
  searched_rules (Some i) f =
      sym (fitting_to i (omega (arith, f.0)) f.2 ∙ ap (row_rules n i) (drop-cons rows i no_row (omega (arith, f.0)))
      ∙ rules_broken n i (get_or rows i no_row) (drop (suc i) rows) f.1)

-- .. in words that are lent
module _ (n m w : ℕ) (words constants : List ℕ) where
  abbrev Fits : Bool → ℕ → Type 0
  Fits b i = row_fits n (take (i * w + w - i * w) (drop (i * w) words)) ≡ b

  row : (b : Bool) (i : ℕ) → i < m → Fits b i → row_fits n (get_or (rows_of m w words constants) i no_row).words ≡ b
  row b i h f = ap (row_fits n) (row_lent m w words constants i h) ∙ f

  pub searched_rows : (o : Option ℕ) → MatchOption o ((j : ℕ) → 0 ≤ j → j < m → Fits true j) (λ i. (0 ≤ i) × (i < m) × Fits false i × ((j : ℕ) → 0 ≤ j → j < i → Fits true j))
      → entry_rules o ≡ row_rules n 0 (rows_of m w words constants)
  searched_rows None f =
      searched_rules n m (rows_of m w words constants) (rows_length m w 0 words constants) None (λ j l. row true j l (f j (omega arith) l))
  searched_rows (Some i) f =
      searched_rules n m (rows_of m w words constants) (rows_length m w 0 words constants) (Some i)
      (f.1, row false i f.1 f.2, λ j l. row true j (omega (arith, f.1)) (f.3 j (omega arith) l))
