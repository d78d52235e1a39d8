-- The run of an engine: the loaded system, what the columns make of it, and the cleared room.
use mathlib.Core.Path.{◌≡◌, refl, sym, ap, ap₂, ◌∙◌}
use mathlib.Core.List.{List, ◌++◌, append-nil}
use mathlib.Core.Bool.{false}
use Prim.Native.Nat.{ℕ, ◌+◌, ◌-◌, ◌*◌, ◌<◌, ◌≤◌}
use native.Mathlib.Omega.{arith}
use lib.ListN.{length, get_or, take, drop, replicate, length-replicate}
use lib.Seq.{get_or-take, get_or-drop, length-take-le}
use Rattle.gf2.specs.Equation.{Each}
use Rattle.gf2.specs.Result.{Result, unsolvable, ok}
use Rattle.areas.specs.Stretch.{stretch, put, zeroed, cleared}
use Rattle.areas.proofs.Stretch.{stretch-take, stretch-put_before, stretch-put_within, length-put, drop-put_after, get_or-put, put_all, cleared_is_put, cleared_same, drop_agree}
use Rattle.areas.proofs.Offsets.{row_before}
use Rattle.answers.specs.Sizes.{dense_numbers, dense_words}
use Rattle.answers.specs.Answers.{Kept, Solved, Unsolvable}
use Rattle.answers.specs.Numbers.{number_of}
use Rattle.answers.specs.Told.{Tells}
use Rattle.dense_rows.specs.Bits.{Row, bit_at, columns_from, columns}
use Rattle.dense_rows.specs.Rows.{row_at, rows_of, Became}
use Rattle.dense_rows.specs.Areas.{rows_in, SameArea, Holds}
use Rattle.dense_rows.specs.Rules.{rules_in, rows_lent}
use Rattle.dense_rows.specs.declared.area.Area.{Area}
use Rattle.dense_rows.specs.declared.system.DenseSystem.{DenseSystem}
use Rattle.dense_rows.proofs.ColumnLaws.{columns_from_add, columns_from_none, columns_below}
use Rattle.dense_rows.proofs.HeldLaws.{rows_length, rows_are, row_of, rows_wide, rows_each}
use Rattle.dense_rows.proofs.Lending.{dense_kept_sound}
use Rattle.dense_rows.proofs.Holding.{same_rows, holds_in}
use Rattle.dense_walk.specs.Stairs.{FitRows}
use Rattle.dense.specs.Engines.{Reduced, run_call}

-- ---- the system is loaded

pub loaded_became : (m w : ℕ) (rows constants words mid after : List ℕ) → m * w ≤ length rows → m ≤ length constants → m * w + m ≤ length words
    → mid ≡ put 0 (take (m * w) rows) words → after ≡ put (m * w) (take m constants) mid → Became m w words (rows_of m w rows constants) after
unfolding row_at
loaded_became m w rows constants words mid after hr hc room e f = record {
  long = after_long;
  holds = rows_are m w after (drop (m * w) after) (rows_of m w rows constants) (rows_length m w 0 rows constants) (λ i h. row i h ∙ sym (row_of m w rows constants i h));
  past =
      let a = long_rows in
      let b = long_constants in
      let c = mid_long in
      ap (drop (m * w + m)) f ∙ drop-put_after (m * w + m) (m * w) (take m constants) mid (omega arith) (omega arith)
      ∙ ap (drop (m * w + m)) e ∙ drop-put_after (m * w + m) 0 (take (m * w) rows) words (omega arith) (omega arith);
}
  where
    long_rows : length (take (m * w) rows) ≡ m * w
    long_rows = length-take-le (m * w) rows hr

    long_constants : length (take m constants) ≡ m
    long_constants = length-take-le m constants hc

    mid_long : length mid ≡ length words
    mid_long = let a = long_rows in ap length e ∙ length-put 0 (take (m * w) rows) words (omega arith)

    after_long : length after ≡ length words
    after_long = let b = long_constants in let c = mid_long in ap length f ∙ length-put (m * w) (take m constants) mid (omega arith) ∙ mid_long

    words_at : (i : ℕ) → i < m → stretch (i * w) w after ≡ stretch (i * w) w rows
    words_at i h =
        let a = long_rows in
        let c = mid_long in
        let b = row_before i m w h in
        let z : i * w - 0 ≡ i * w = omega arith in
        ap (stretch (i * w) w) f ∙ stretch-put_before (i * w) w (m * w) (take m constants) mid (omega arith) (omega arith)
        ∙ ap (stretch (i * w) w) e ∙ stretch-put_within (i * w) w 0 (take (m * w) rows) words (omega arith) (omega arith) (omega arith)
        ∙ ap (λ (k : ℕ). stretch k w (take (m * w) rows)) z ∙ stretch-take (i * w) w (m * w) rows b

    constant_at : (i : ℕ) → i < m → get_or (drop (m * w) after) i 0 ≡ get_or constants i 0
    constant_at i h =
        let b = long_constants in
        let c = mid_long in
        get_or-drop (m * w) after i 0 ∙ ap (λ (l : List ℕ). get_or l (m * w + i) 0) f ∙ get_or-put (m * w) i 0 (take m constants) mid (omega arith) (omega arith) ∙ get_or-take m constants i 0 h

    row : (i : ℕ) → i < m → row_at w i after (drop (m * w) after) ≡ row_at w i rows constants
    row i h = λ x. record { words = words_at i h x; c = constant_at i h x }

-- ---- the room is cleared

pub zeroed_cleared : (room : ℕ) (l l' : List ℕ) → l' ≡ zeroed 0 room l → l' ≡ cleared room l
zeroed_cleared room l l' e =
    let z : room - 0 ≡ room = omega arith in
    e ∙ ap (λ (k : ℕ). put 0 (replicate k 0) l) z ∙ sym (cleared_is_put room l)

pub zeroed_all : (n : ℕ) (l l' : List ℕ) → length l ≡ n → l' ≡ zeroed 0 n l → l' ≡ replicate n 0
zeroed_all n l l' h e =
    let z : n - 0 ≡ n = omega arith in
    e ∙ ap (λ (k : ℕ). put 0 (replicate k 0) l) z ∙ put_all (replicate n 0) l (length-replicate n 0 ∙ sym h)

-- ---- the rows that are lent

-- a row without a bit at column n or above lists none of these
fitting_columns : (n w : ℕ) (words : List ℕ) → n ≤ 64 * w → ((v : ℕ) → n ≤ v → bit_at v words ≡ false) → Each (λ u. u < n) (columns (64 * w) words)
fitting_columns n w words h f =
    let s : 64 * w ≡ n + (64 * w - n) = omega arith in
    let same : columns (64 * w) words ≡ columns n words =
    ap (λ (k : ℕ). columns_from k 0 words) s ∙ columns_from_add n (64 * w - n) 0 words
    ∙ ap (λ (l : List ℕ). columns n words ++ l) (columns_from_none (64 * w - n) (0 + n) words (λ v g _. f v (omega arith)))
    ∙ append-nil (columns n words) in
    rw same (columns_below n words)

pub rows_fit : (s : DenseSystem) → rules_in s ≡ Kept → FitRows s.n s.w (rows_lent s)
unfolding row_at
rows_fit s kept =
    let lent = dense_kept_sound s.n s.m s.w s.rows.now s.constants.now kept in (
      rows_wide s.m s.w s.rows.now s.constants.now lent.rows_there,
      rows_each (λ row. Each (λ u. u < s.n) (columns (64 * s.w) row.words)) s.m s.w 0 s.rows.now s.constants.now
          (λ j _ g. fitting_columns s.n s.w (stretch (j * s.w) s.w s.rows.now) lent.columns_there (lent.no_bit j (omega arith))),
    )

-- ---- the columns and what follows, in an area of the system's size

module _ (s : DenseSystem) {R : List Row → List ℕ → List Row → List Row → Type 0} {a b c : Area} {rows : List Row} {numbers numbers' : List ℕ} {rank : ℕ} (hm : a.m ≡ s.m) (hw : a.w ≡ s.w)
    (l : Holds a rows b) (q : SameArea b c) (e : Reduced R b.m b.w numbers b.words.now rank numbers' c.words.now) where
  m_is : c.m ≡ s.m
  m_is = q.same_m ∙ l.same.same_m ∙ hm

  pub w_is : c.w ≡ s.w
  w_is = q.same_w ∙ l.same.same_w ∙ hw

  -- what the columns made of the rows that were loaded
  pub run_reduced : R rows (take rank numbers') (take rank (rows_in c)) (drop rank (rows_in c))
  run_reduced = rw (← (holds_in l), same_rows q) e.reduces

  pub run_numbers : cleared (dense_numbers c.m) numbers' ≡ cleared (dense_numbers s.m) numbers
  run_numbers =
      let h = l.same.same_m in
      let r = e.ranked in
      ap (λ (k : ℕ). cleared k numbers') m_is ∙ cleared_same s.m numbers' numbers (drop_agree rank s.m numbers' numbers (omega arith) e.numbers_past)

  pub run_words : cleared (dense_words c.m c.w) c.words.now ≡ cleared (dense_words s.m s.w) a.words.now
  run_words =
      let past = rw (l.same.same_m, l.same.same_w) at e.words_past in
      let same : drop (s.m * s.w + s.m) c.words.now ≡ drop (s.m * s.w + s.m) a.words.now = rw (hm, hw) at (past ∙ l.became.past) in
      ap₂ (λ (m w : ℕ). cleared (dense_words m w) c.words.now) m_is w_is ∙ cleared_same (s.m * s.w + s.m) c.words.now a.words.now same

-- ---- what the run tells

module _ (elimination : ℕ → List Row → Result (List ℕ)) (s : DenseSystem) (solution numbers words solution' : List ℕ) {numbers' words' : List ℕ} (n : numbers' ≡ cleared (dense_numbers s.m) numbers)
    (w : words' ≡ cleared (dense_words s.m s.w) words) where
  pub tells_refused : elimination s.n (rows_lent s) ≡ unsolvable → solution' ≡ solution → Tells (run_call elimination s solution numbers words) (number_of Unsolvable) 0 solution' numbers' words'
  tells_refused e f = rw e (record { number_is = refl; place_is = refl; solution_is = f; numbers_are = n; words_are = w })

  pub tells_solved : elimination s.n (rows_lent s) ≡ ok solution' → Tells (run_call elimination s solution numbers words) (number_of Solved) 0 solution' numbers' words'
  tells_solved e = rw e (record { number_is = refl; place_is = refl; solution_is = refl; numbers_are = n; words_are = w })

-- ---- the solution

pub zeroed_length : (n : ℕ) (l l' : List ℕ) → length l ≡ n → l' ≡ zeroed 0 n l → length l' ≡ n
zeroed_length n l l' h e = ap length (zeroed_all n l l' h e) ∙ length-replicate n 0
