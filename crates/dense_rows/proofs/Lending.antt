-- The rules 1 to 3 of a dense system, exactly: they are kept where and only where it fits, and 3 names the lowest row that has a bit at column n or above.
use mathlib.Core.Path.{◌≡◌, refl, ap, subst}
use mathlib.Core.Logic.{◌↔◌}
use mathlib.Core.List.{List}
use mathlib.Core.Bool.{Bool, true, false, ◌&&◌, false≢true}
use Prim.Native.Nat.{ℕ, ◌-◌, ◌*◌, ◌^◌, ◌<◌, ◌≤◌}
use native.Mathlib.Nat.{sub-zero}
use native.Mathlib.Omega.{arith}
use borrow.Author.Tests.{le-leb}
use lib.ListN.{length, get_or, drop}
use lib.Dec.{leb, leb→le}
use Rattle.gf2.proofs.Each.{each_at, each_take, each_drop}
use Rattle.gf2.proofs.Tests.{true→T}
use Rattle.areas.specs.Stretch.{stretch}
use Rattle.answers.specs.Numbers.{number_of}
use Rattle.answers.specs.Sizes.{max_variables, max_equations, max_row_words}
use Rattle.answers.specs.Calls.{pick}
use Rattle.answers.specs.Answers.{Answer}
use Rattle.answers.specs.Answers.{TooLarge, BadShape, BadEntry}
use Rattle.answers.specs.Answers.{Rules}
use Rattle.answers.specs.Answers.{Kept, Broken}
use Rattle.dense_rows.specs.Bits.{Row, bit_at, row_fits}
use Rattle.dense_rows.specs.Rows.{row_at, rows_of}
use Rattle.dense_rows.specs.Steps.{no_row}
use Rattle.dense_rows.proofs.StepLaws.{WordSized}
use Rattle.dense_rows.proofs.Emptiness.{fits_no_bit, unfit_bit, fits_exactly}
use Rattle.dense_rows.proofs.HeldLaws.{rows_length, row_of, rows_each}
use Rattle.dense_rows.specs.Rules.{row_rules, dense_rules}
use Rattle.dense_rows.specs.Fits.{DenseFits}
use Rattle.dense_rows.proofs.RowRules.{rules_fit, fit_rules, rules_lowest}

-- ---- the tests

three : (a b c : Bool) → (a && b && c) ≡ true → (a ≡ true) × (b ≡ true) × (c ≡ true)
three true true true e = (refl, refl, refl)
three true true false e = absurd (false≢true e)
three true false c e = absurd (false≢true e)
three false b c e = absurd (false≢true e)

kept_test : (b : Bool) (r : Rules) (a : Answer) → pick b r (Broken a) ≡ Kept → (b ≡ true) × (r ≡ Kept)
kept_test true r a e = (refl, e)
kept_test false r a e = absurd (let z : ◌≡◌ {A = ℕ} 0 1 = cc in omega arith)

-- 3 is given by the last test alone
entry_test : (b : Bool) (r : Rules) (a : Answer) (i : ℕ) → number_of a < 3 → pick b r (Broken a) ≡ Broken (BadEntry i) → r ≡ Broken (BadEntry i)
entry_test true r a i h e = e
entry_test false r a i h e = let q : a ≡ BadEntry i = cc in let z : number_of a ≡ 3 = ap number_of q in absurd (omega arith)

word_sized : (b n : ℕ) (words : List ℕ) → WordSized words → WordSized (stretch b n words)
unfolding stretch
word_sized b n words h = each_take (λ x. x < 2 ^ 64) (drop b words) n (each_drop (λ x. x < 2 ^ 64) words b h)

module _ (n m w : ℕ) (rows constants : List ℕ) where
  -- ---- kept

  pub dense_kept_sound : dense_rules n m w rows constants ≡ Kept → DenseFits n m w rows constants
  unfolding dense_rules row_at
  dense_kept_sound e =
      let rs : List Row = rows_of m w rows constants in
      let r : Rules = row_rules n 0 rs in
      let there = leb (m * w) (length rows) && leb m (length constants) && leb n (64 * w) in
      let a = kept_test (leb n max_variables && leb m max_equations && leb w max_row_words) (pick there r (Broken BadShape)) TooLarge e in
      let b = kept_test there r BadShape a.1 in
      let s = three (leb n max_variables) (leb m max_equations) (leb w max_row_words) a.0 in
      let t = three (leb (m * w) (length rows)) (leb m (length constants)) (leb n (64 * w)) b.0 in
      record {
        few_variables = leb→le n max_variables (true→T s.0);
        few_rows = leb→le m max_equations (true→T s.1);
        few_words = leb→le w max_row_words (true→T s.2);
        rows_there = leb→le (m * w) (length rows) (true→T t.0);
        constants_there = leb→le m (length constants) (true→T t.1);
        columns_there = leb→le n (64 * w) (true→T t.2);
        no_bit = λ i h.
            let l = rows_length m w 0 rows constants in
            fits_no_bit n (stretch (i * w) w rows)
            (subst (λ (q : Row). row_fits n q.words ≡ true) (row_of m w rows constants i h) (each_at (λ q. row_fits n q.words ≡ true) rs no_row i (omega arith) (rules_fit n 0 rs b.1)));
      }

  pub dense_fits_kept : WordSized rows → DenseFits n m w rows constants → dense_rules n m w rows constants ≡ Kept
  unfolding dense_rules row_at
  dense_fits_kept sized f =
      rw (le-leb n max_variables f.few_variables, le-leb m max_equations f.few_rows, le-leb w max_row_words f.few_words, le-leb (m * w) (length rows) f.rows_there, le-leb m (length constants) f.constants_there, le-leb n (64 * w) f.columns_there)
      (fit_rules n 0 (rows_of m w rows constants)
      (rows_each (λ q. row_fits n q.words ≡ true) m w 0 rows constants
      (λ j _ l. (fits_exactly n (stretch (j * w) w rows) (word_sized (j * w) w rows sized)).1 (f.no_bit j (omega arith)))))

  -- the rules are kept exactly where the system fits
  pub dense_kept_fits : WordSized rows → (dense_rules n m w rows constants ≡ Kept) ↔ DenseFits n m w rows constants
  dense_kept_fits sized = (dense_kept_sound, dense_fits_kept sized)

  -- ---- 3 names a row that has a bit at column n or above, and no lower row has one

  pub lowest_row : WordSized rows → (i : ℕ) → dense_rules n m w rows constants ≡ Broken (BadEntry i)
      → (i < m) × ((v : ℕ) × (n ≤ v) × (bit_at v (stretch (i * w) w rows) ≡ true)) × ((j : ℕ) → j < i → (v : ℕ) → n ≤ v → bit_at v (stretch (j * w) w rows) ≡ false)
  unfolding dense_rules row_at
  lowest_row sized i e =
      let rs : List Row = rows_of m w rows constants in
      let r : Rules = row_rules n 0 rs in
      let there = leb (m * w) (length rows) && leb m (length constants) && leb n (64 * w) in
      let a = entry_test (leb n max_variables && leb m max_equations && leb w max_row_words) (pick there r (Broken BadShape)) TooLarge i (omega arith) e in
      let low = rules_lowest n 0 i rs (entry_test there r BadShape i (omega arith) a) in
      let l = rows_length m w 0 rows constants in
      let h : i < m = omega (arith, low.there) in (
        h,
        unfit_bit n (stretch (i * w) w rows) (word_sized (i * w) w rows sized) (row i h false low.bad),
        (λ j g. fits_no_bit n (stretch (j * w) w rows) (row j (omega arith) true (low.good j (omega arith) g))),
      )
    where
      row : (j : ℕ) → j < m → (b : Bool) → row_fits n (get_or (rows_of m w rows constants) (j - 0) no_row).words ≡ b → row_fits n (stretch (j * w) w rows) ≡ b
      row j h b q =
          subst (λ (s : Row). row_fits n s.words ≡ b) (row_of m w rows constants j h)
          (subst (λ (k : ℕ). row_fits n (get_or (rows_of m w rows constants) k no_row).words ≡ b) (sub-zero j) q)
