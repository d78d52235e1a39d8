-- The slow dense engine answers as the dense one does, on every input.
use mathlib.Core.Path.{◌≡◌, refl, sym, ap, ap₂, ◌∙◌, subst}
use mathlib.Core.Logic.{◌↔◌, ◌≢◌, ◌⊎◌}
use mathlib.Core.List.{List, [], ◌∷◌}
use mathlib.Core.Bool.{Bool, true, false}
use Prim.Native.Nat.{ℕ, ◌*◌, ◌<◌, ◌≤◌, ◌^◌}
use native.Mathlib.Nat.{zero-add}
use native.Mathlib.Omega.{arith}
use lib.ListN.{length, get_or, replicate, length-replicate}
use Rattle.gf2.specs.Equation.{Equation, eqn, Each, Increasing, MeetsAll, sum}
use Rattle.gf2.specs.Span.{Cancels, InSpan}
use Rattle.gf2.specs.Canonical.{Canonical}
use Rattle.gf2.specs.Ours.{Apart, our_part}
use Rattle.gf2.specs.Result.{Result, unsolvable, ok}
use Rattle.gf2.proofs.Each.{each_at, each_map}
use Rattle.gf2.proofs.EachMap.{each_of_map, each_both}
use Rattle.gf2.proofs.Spans.{span_zero, span_sum, span_each, solved_not_cancels, empty_row_cancels}
use Rattle.gf2.proofs.Elimination.{sum_twice}
use Rattle.gf2.proofs.Canon.{canonical_from_rows, canonical_unique}
use Rattle.gf2.proofs.OneValue.{zeros_at}
use Rattle.gf2.proofs.Results.{Case, refused, gave, which}
use Rattle.areas.specs.Stretch.{cleared}
use Rattle.answers.specs.Numbers.{number_of}
use Rattle.answers.specs.Calls.{Call, solver_call}
use Rattle.answers.specs.Sizes.{dense_numbers, dense_words}
use Rattle.answers.specs.Answers.{Solved, Unsolvable}
use Rattle.answers.specs.Answers.{Rules}
use Rattle.answers.specs.Answers.{Kept, Broken}
use Rattle.dense_rows.specs.Bits.{Row, Clear, equation_of, equations_of}
use Rattle.dense_rows.specs.Rows.{rows_of}
use Rattle.dense_rows.specs.Steps.{no_row}
use Rattle.dense_rows.proofs.ColumnLaws.{increasing_columns, columns_clear}
use Rattle.dense_rows.proofs.HeldLaws.{rows_wide}
use Rattle.dense_rows.proofs.StepLaws.{Wide}
use Rattle.dense_walk.specs.Eliminate.{residue, dense_elimination}
use Rattle.dense_walk.proofs.RowTheorems.{sorted_rows, wide_good, residue_none, residue_some, rows_canonical, rows_cancel}
use Rattle.dense_rows.specs.Rules.{dense_rules}
use Rattle.dense.specs.Call.{dense_call}
use Rattle.dense_rows.proofs.Lending.{dense_kept_sound}
use Rattle.dense.proofs.CallTheorems.{DenseLent, dense_on, dense_system, DenseRuns, dense_call_solves, dense_call_exact, dense_call_says, dense_call_canonical, dense_call_isolated, dense_call_narrow, dense_call_keeps, dense_call_untouched, dense_call_cleared}
use Rattle.slow_rules.specs.Slow.{PivotRow, Progress, untouched, clear_columns, read_off, read_end, slow_elimination}
use Rattle.slow_rules.specs.SlowCall.{slow_call}
use Rattle.slow_rules.proofs.ColumnsCleared.{ClearedTo, columns_cleared, columns_ahead, columns_behind}
use Rattle.slow_rules.proofs.ReadingOff.{pivot_equations, read_length, read_meets, read_lead}

module _ (n w : ℕ) (rows : List Row) (wide : Each (Wide w) rows) (hn : n ≤ 64 * w) where
  end : Progress
  end = clear_columns n 0 (untouched rows)

  begun : ClearedTo w 0 (untouched rows)
  begun = record { low = tt; rises = tt; firsts = tt; alone = tt; good = wide_good w rows wide }

  ends : ClearedTo w n end
  unfolding end
  ends = columns_cleared n w hn n 0 (untouched rows) (zero-add n) begun

  es : List Equation
  es = equations_of n rows

  unmap : (P : Equation → Type 0) (l : List Row) → Each P (equations_of n l) → Each (λ row. P (equation_of n row)) l
  unmap P [] h = tt
  unmap P (r ∷ l) h = (h.0, unmap P l h.1)

  spanned : Each (λ d. InSpan es (equation_of n d.row)) end.done × Each (λ row. InSpan es (equation_of n row)) end.left
  unfolding end es
  spanned =
      columns_ahead n w hn n (InSpan (equations_of n rows)) (span_sum (equations_of n rows)) n 0 (untouched rows) (zero-add n) begun
      (tt, unmap (InSpan (equations_of n rows)) rows (span_each (equations_of n rows) (sorted_rows n rows)))

  left_clear : Each (λ row. Clear n row.words) end.left
  left_clear = each_map end.left (λ row g. g.1) ends.good

  sorted_done : (ds : List PivotRow) → Each (λ e. Increasing e.vars) (pivot_equations n ds)
  sorted_done [] = tt
  sorted_done (d ∷ ds) = (increasing_columns n d.row.words, sorted_done ds)

  undone : (P : Equation → Type 0) (ds : List PivotRow) → Each P (pivot_equations n ds) → Each (λ d. P (equation_of n d.row)) ds
  undone P [] h = tt
  undone P (d ∷ ds) h = (h.0, undone P ds h.1)

  spans : residue end.left ≡ false → Each (InSpan (pivot_equations n end.done)) es
  unfolding end es
  spans e =
      each_of_map (equation_of n) (λ row. InSpan (pivot_equations n end.done) (equation_of n row)) (InSpan (pivot_equations n end.done)) rows (λ row p. p)
      (columns_behind n w hn n (InSpan (pivot_equations n end.done)) back n 0 (untouched rows) (zero-add n) begun (
        undone (InSpan (pivot_equations n end.done)) end.done (span_each (pivot_equations n end.done) (sorted_done end.done)),
        each_map end.left none (each_both (λ row. Clear n row.words) (λ row. row.c ≡ 0) end.left left_clear (residue_none end.left e)),
      )).1
    where
      back : (x y : Row) → InSpan (pivot_equations n end.done) (sum (equation_of n x) (equation_of n y)) → InSpan (pivot_equations n end.done) (equation_of n y) → InSpan (pivot_equations n end.done) (equation_of n x)
      back x y p q =
          subst (InSpan (pivot_equations n end.done)) (sum_twice (equation_of n x) (equation_of n y) (increasing_columns n x.words) (increasing_columns n y.words))
          (span_sum (pivot_equations n end.done) (sum (equation_of n x) (equation_of n y)) (equation_of n y) p q)

      none : (row : Row) → Clear n row.words × (row.c ≡ 0) → InSpan (pivot_equations n end.done) (equation_of n row)
      none row h = subst (InSpan (pivot_equations n end.done)) (sym (ap₂ eqn (columns_clear n row.words h.0) h.1)) (span_zero (pivot_equations n end.done))

  canonical_end : residue end.left ≡ false → Canonical n es (read_off end.done (replicate n 0))
  canonical_end e =
      canonical_from_rows n es (pivot_equations n end.done) (eqn [] 0) (read_off end.done (replicate n 0)) (sorted_done end.done)
      (each_of_map (λ d. equation_of n d.row) (λ d. InSpan es (equation_of n d.row)) (InSpan es) end.done (λ d p. p) spanned.0) (spans e)
      (read_length end.done (replicate n 0) ∙ length-replicate n 0)
      (read_meets n w (replicate n 0) (zeros_at n) (length-replicate n 0) end.done ends.rises ends.low ends.firsts ends.alone)
      (λ v _. read_lead n w (replicate n 0) (zeros_at n) (length-replicate n 0) end.done (eqn [] 0) ends.low ends.firsts v)

  -- the answer is the canonical solution
  pub slow_rows_canonical : (x : List ℕ) → slow_elimination n rows ≡ ok x → Canonical n (equations_of n rows) x
  unfolding slow_elimination read_end end es
  slow_rows_canonical x e = go (residue end.left) refl e
    where
      go : (b : Bool) → residue end.left ≡ b → ◌≡◌ {A = Result (List ℕ)} (elim b [ true ↦ unsolvable | false ↦ ok (read_off end.done (replicate n 0)) ]) (ok x) → Canonical n (equations_of n rows) x
      go true p q = absurd (let z : ◌≡◌ {A = ℕ} 0 1 = cc in omega arith)
      go false p q = let s : read_off end.done (replicate n 0) ≡ x = cc in subst (Canonical n (equations_of n rows)) s (canonical_end p)

  -- or some set of equations cancels
  pub slow_rows_cancel : slow_elimination n rows ≡ unsolvable → (mask : List Bool) × Cancels mask (equations_of n rows)
  unfolding slow_elimination read_end end es
  slow_rows_cancel e = go (residue end.left) refl e
    where
      go : (b : Bool) → residue end.left ≡ b → ◌≡◌ {A = Result (List ℕ)} (elim b [ true ↦ unsolvable | false ↦ ok (read_off end.done (replicate n 0)) ]) unsolvable → (mask : List Bool) × Cancels mask (equations_of n rows)
      go false p q = absurd (let z : ◌≡◌ {A = ℕ} 0 1 = cc in omega arith)
      go true p q =
          let t = residue_some end.left p in
          let row = get_or end.left t.0 no_row in
          let s = each_at (λ r. InSpan (equations_of n rows) (equation_of n r)) end.left no_row t.0 t.1 spanned.1 in
          let c = each_at (λ r. Clear n r.words) end.left no_row t.0 t.1 left_clear in
          (s.mask, empty_row_cancels (equations_of n rows) (equation_of n row) s (columns_clear n row.words c) t.2)

  -- The two engines answer alike.
  pub slow_rows_same : slow_elimination n rows ≡ dense_elimination n rows
  slow_rows_same = go (which (slow_elimination n rows)) (which (dense_elimination n rows))
    where
      go : Case (slow_elimination n rows) → Case (dense_elimination n rows) → slow_elimination n rows ≡ dense_elimination n rows
      go (refused a) (refused b) = a ∙ sym b
      go (refused a) (gave y b) =
          let k = slow_rows_cancel a in
          absurd (solved_not_cancels (equations_of n rows) y k.0 (sorted_rows n rows) (rows_canonical n w rows wide hn y b).meets k.1)
      go (gave x a) (refused b) =
          let k = rows_cancel n w rows wide hn b in
          absurd (solved_not_cancels (equations_of n rows) x k.0 (sorted_rows n rows) (slow_rows_canonical x a).meets k.1)
      go (gave x a) (gave y b) =
          a ∙ ap ok (canonical_unique n (equations_of n rows) x y (sorted_rows n rows) (slow_rows_canonical x a) (rows_canonical n w rows wide hn y b)) ∙ sym b

-- ---- of lent rows that keep the rules 1 to 3

pub slow_same : (n m w : ℕ) (rows constants : List ℕ) → dense_rules n m w rows constants ≡ Kept → slow_elimination n (rows_of m w rows constants) ≡ dense_elimination n (rows_of m w rows constants)
slow_same n m w rows constants k =
    let a = dense_kept_sound n m w rows constants k in
    slow_rows_same n w (rows_of m w rows constants) (rows_wide m w rows constants a.rows_there) a.columns_there

-- Answer, place, solution and both areas are those of the dense call, on every input.
pub slow_call_same : (n m w : ℕ) (rows constants solution numbers words : List ℕ) → slow_call n m w rows constants solution numbers words ≡ dense_call n m w rows constants solution numbers words
unfolding slow_call dense_call
slow_call_same n m w rows constants solution numbers words = go (dense_rules n m w rows constants) refl
  where
    go : (r : Rules) → dense_rules n m w rows constants ≡ r
        → solver_call r n (dense_numbers m) (dense_words m w) (slow_elimination n (rows_of m w rows constants)) solution numbers words
        ≡ solver_call r n (dense_numbers m) (dense_words m w) (dense_elimination n (rows_of m w rows constants)) solution numbers words
    go (Broken answer) e = refl
    go Kept e = ap (λ (run : Result (List ℕ)). solver_call Kept n (dense_numbers m) (dense_words m w) run solution numbers words) (slow_same n m w rows constants e)

-- ---- the theorems of the public call

abbrev pub slow_on : ℕ → DenseLent → Call
slow_on n l = slow_call n l.m l.w l.rows l.constants l.solution l.numbers l.words

-- the two engines on what either is lent
pub slow_on_same : (n : ℕ) (l : DenseLent) → slow_on n l ≡ dense_on n l
slow_on_same n l = slow_call_same n l.m l.w l.rows l.constants l.solution l.numbers l.words

pub slow_call_canonical : (n : ℕ) (l : DenseLent) → (slow_on n l).answer ≡ Solved → Canonical n (dense_system n l) (slow_on n l).solution
slow_call_canonical n l = rw (slow_on_same n l) (dense_call_canonical n l)

pub slow_call_solves : (n : ℕ) (l : DenseLent) → (slow_on n l).answer ≡ Solved → (length (slow_on n l).solution ≡ n) × MeetsAll (slow_on n l).solution (dense_system n l)
slow_call_solves n l = rw (slow_on_same n l) (dense_call_solves n l)

pub slow_call_exact : (n : ℕ) (l : DenseLent) → DenseRuns n l → ((slow_on n l).answer ≡ Unsolvable) ↔ ((mask : List Bool) × Cancels mask (dense_system n l))
slow_call_exact n l = rw (slow_on_same n l) (dense_call_exact n l)

-- a call that is not refused: 0, and n values that meet every equation; or 6, and some set of equations cancels
pub slow_call_says : (n : ℕ) (l : DenseLent) → DenseRuns n l
    → (((slow_on n l).answer ≡ Solved) × (length (slow_on n l).solution ≡ n) × MeetsAll (slow_on n l).solution (dense_system n l))
    ⊎ (((slow_on n l).answer ≡ Unsolvable) × ((mask : List Bool) × Cancels mask (dense_system n l)))
slow_call_says n l = rw (slow_on_same n l) (dense_call_says n l)

pub slow_call_narrow : (n : ℕ) (l : DenseLent) (k : ℕ) → ((i : ℕ) → i < l.m → get_or l.constants i 0 < 2 ^ k) → (slow_on n l).answer ≡ Solved → (v : ℕ) → get_or (slow_on n l).solution v 0 < 2 ^ k
slow_call_narrow n l = rw (slow_on_same n l) (dense_call_narrow n l)

pub slow_call_isolated : (P : ℕ → Bool) (n : ℕ) (a b : DenseLent) → Apart P (dense_system n a) → Apart P (dense_system n b) → our_part P (dense_system n a) ≡ our_part P (dense_system n b)
    → (slow_on n a).answer ≡ Solved → (slow_on n b).answer ≡ Solved → (v : ℕ) → P v ≡ true → get_or (slow_on n a).solution v 0 ≡ get_or (slow_on n b).solution v 0
slow_call_isolated P n a b = rw (slow_on_same n a, slow_on_same n b) (dense_call_isolated P n a b)

-- every number but 0 keeps the solution as lent
pub slow_call_keeps : (n : ℕ) (l : DenseLent) → (slow_on n l).answer ≢ Solved → (slow_on n l).solution ≡ l.solution
slow_call_keeps n l = rw (slow_on_same n l) (dense_call_keeps n l)

-- after 1 to 5 the work areas are untouched
pub slow_call_untouched : (n : ℕ) (l : DenseLent) → 1 ≤ number_of (slow_on n l).answer → number_of (slow_on n l).answer ≤ 5
    → ((slow_on n l).numbers ≡ l.numbers) × ((slow_on n l).words ≡ l.words)
slow_call_untouched n l = rw (slow_on_same n l) (dense_call_untouched n l)

-- after 0 and 6 the room part of each work area is zero and the remainder untouched
pub slow_call_cleared : (n : ℕ) (l : DenseLent) → ((slow_on n l).answer ≡ Solved) ⊎ ((slow_on n l).answer ≡ Unsolvable)
    → ((slow_on n l).numbers ≡ cleared (dense_numbers l.m) l.numbers) × ((slow_on n l).words ≡ cleared (dense_words l.m l.w) l.words)
slow_call_cleared n l = rw (slow_on_same n l) (dense_call_cleared n l)
