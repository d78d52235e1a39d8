-- The theorems of dense elimination, of its public call: what the solution slice holds after 0, when the answer is 6, and what is left in the lent cells.
use mathlib.Core.Path.{◌≡◌, ap}
use mathlib.Core.Logic.{◌↔◌, ◌≢◌, ◌⊎◌, inl, inr}
use mathlib.Core.Bool.{Bool, true, false, ◌&&◌}
use mathlib.Core.List.{List, [], ◌∷◌}
use Prim.Native.Nat.{ℕ, suc, ◌*◌, ◌<◌, ◌≤◌, ◌^◌}
use native.Mathlib.Omega.{arith}
use lib.ListN.{length, get_or}
use lib.Dec.{leb}
use Rattle.gf2.specs.Equation.{Equation, MeetsAll}
use Rattle.gf2.specs.Span.{Cancels}
use Rattle.gf2.specs.Canonical.{Canonical}
use Rattle.gf2.specs.Ours.{Apart, our_part}
use Rattle.gf2.specs.Result.{ok}
use Rattle.areas.specs.Stretch.{cleared}
use Rattle.answers.specs.Numbers.{number_of}
use Rattle.answers.specs.Calls.{Call, pick}
use Rattle.answers.specs.Sizes.{max_variables, max_equations, max_row_words, dense_numbers, dense_words}
use Rattle.answers.specs.Answers.{Solved, TooLarge, BadShape, BadEntry, Unsolvable}
use Rattle.answers.specs.Answers.{Kept, Broken}
use Rattle.answers.proofs.Calls.{Early, Admitted, call_two, solved_call, unsolvable_call, none_call, call_keeps, call_untouched, call_cleared}
use Rattle.dense_rows.specs.Bits.{Row, row_fits}
use Rattle.dense_rows.specs.Rows.{rows_of}
use Rattle.dense_walk.specs.Eliminate.{dense_elimination}
use Rattle.dense_rows.specs.Rules.{row_rules, dense_rules}
use Rattle.dense.specs.Call.{dense_equations, dense_call}
use Rattle.dense.proofs.Theorems.{dense_canonical, dense_exact, dense_narrow, dense_isolated}

-- ---- the rules refuse with 1 to 3

early_rows : (n i : ℕ) (rows : List Row) → Early (row_rules n i rows)
unfolding row_rules
early_rows n i [] = tt
early_rows n i (row ∷ rows) = go (row_fits n row.words) (early_rows n (suc i) rows)
  where
    go : (b : Bool) → Early (row_rules n (suc i) rows) → Early (elim b [ true ↦ row_rules n (suc i) rows | false ↦ Broken (BadEntry i) ])
    go true h = h
    go false h = (omega arith, omega arith)

dense_early : (n m w : ℕ) (rows constants : List ℕ) → Early (dense_rules n m w rows constants)
unfolding dense_rules
dense_early n m w rows constants =
    go (leb n max_variables && leb m max_equations && leb w max_row_words) (leb (m * w) (length rows) && leb m (length constants) && leb n (64 * w))
  where
    go : (a b : Bool) → Early (pick a (pick b (row_rules n 0 (rows_of m w rows constants)) (Broken BadShape)) (Broken TooLarge))
    go true true = early_rows n 0 (rows_of m w rows constants)
    go true false = (omega arith, omega arith)
    go false b = (omega arith, omega arith)

-- ---- the call

-- what is lent to the dense solver
pub record DenseLent : Type 0 where
  pub m : ℕ
  pub w : ℕ
  pub rows : List ℕ
  pub constants : List ℕ
  pub solution : List ℕ
  pub numbers : List ℕ
  pub words : List ℕ

abbrev pub dense_on : ℕ → DenseLent → Call
dense_on n l = dense_call n l.m l.w l.rows l.constants l.solution l.numbers l.words

abbrev pub dense_system : ℕ → DenseLent → List Equation
dense_system n l = dense_equations n l.m l.w l.rows l.constants

-- no refusal from 1 to 5
abbrev pub DenseRuns : ℕ → DenseLent → Type 0
DenseRuns n l =
    Admitted n (dense_numbers l.m) (dense_words l.m l.w) l.solution l.numbers l.words (dense_rules n l.m l.w l.rows l.constants)

-- the rules are kept, and the run has what the solution slice holds
solved : (n : ℕ) (l : DenseLent) → (dense_on n l).answer ≡ Solved
    → (dense_rules n l.m l.w l.rows l.constants ≡ Kept) × (dense_elimination n (rows_of l.m l.w l.rows l.constants) ≡ ok (dense_on n l).solution)
unfolding dense_call
solved n l e =
    let s = solved_call n (dense_numbers l.m) (dense_words l.m l.w) (dense_elimination n (rows_of l.m l.w l.rows l.constants)) l.solution l.numbers l.words
    (dense_rules n l.m l.w l.rows l.constants) (dense_early n l.m l.w l.rows l.constants) e in
    (s.0.kept, s.1)

pub dense_call_canonical : (n : ℕ) (l : DenseLent) → (dense_on n l).answer ≡ Solved → Canonical n (dense_system n l) (dense_on n l).solution
dense_call_canonical n l e = let s = solved n l e in dense_canonical n l.m l.w l.rows l.constants s.0 (dense_on n l).solution s.1

pub dense_call_solves : (n : ℕ) (l : DenseLent) → (dense_on n l).answer ≡ Solved → (length (dense_on n l).solution ≡ n) × MeetsAll (dense_on n l).solution (dense_system n l)
dense_call_solves n l e = let c = dense_call_canonical n l e in (c.size, c.meets)

pub dense_call_exact : (n : ℕ) (l : DenseLent) → DenseRuns n l → ((dense_on n l).answer ≡ Unsolvable) ↔ ((mask : List Bool) × Cancels mask (dense_system n l))
unfolding dense_call
dense_call_exact n l a = (forth, back)
  where
    forth : (dense_on n l).answer ≡ Unsolvable → (mask : List Bool) × Cancels mask (dense_system n l)
    forth e =
        (dense_exact n l.m l.w l.rows l.constants a.kept).0
        (unsolvable_call n (dense_numbers l.m) (dense_words l.m l.w) (dense_elimination n (rows_of l.m l.w l.rows l.constants)) l.solution l.numbers l.words
        (dense_rules n l.m l.w l.rows l.constants) (dense_early n l.m l.w l.rows l.constants) e).1

    back : (mask : List Bool) × Cancels mask (dense_system n l) → (dense_on n l).answer ≡ Unsolvable
    back c =
        ap (λ (r : Call). r.answer)
        (none_call n (dense_numbers l.m) (dense_words l.m l.w) (dense_elimination n (rows_of l.m l.w l.rows l.constants)) l.solution l.numbers l.words
        (dense_rules n l.m l.w l.rows l.constants) a ((dense_exact n l.m l.w l.rows l.constants a.kept).1 c))

-- a call that is not refused: 0, and n values that meet every equation; or 6, and some set of equations cancels
pub dense_call_says : (n : ℕ) (l : DenseLent) → DenseRuns n l
    → (((dense_on n l).answer ≡ Solved) × (length (dense_on n l).solution ≡ n) × MeetsAll (dense_on n l).solution (dense_system n l))
    ⊎ (((dense_on n l).answer ≡ Unsolvable) × ((mask : List Bool) × Cancels mask (dense_system n l)))
unfolding dense_call
dense_call_says n l a =
    go (call_two n (dense_numbers l.m) (dense_words l.m l.w) (dense_elimination n (rows_of l.m l.w l.rows l.constants)) l.solution l.numbers l.words
    (dense_rules n l.m l.w l.rows l.constants) a)
  where
    go : ((dense_on n l).answer ≡ Solved) ⊎ ((dense_on n l).answer ≡ Unsolvable)
        → (((dense_on n l).answer ≡ Solved) × (length (dense_on n l).solution ≡ n) × MeetsAll (dense_on n l).solution (dense_system n l))
        ⊎ (((dense_on n l).answer ≡ Unsolvable) × ((mask : List Bool) × Cancels mask (dense_system n l)))
    go (inl e) = inl (let s = dense_call_solves n l e in (e, s.0, s.1))
    go (inr e) = inr (e, (dense_call_exact n l a).0 e)

pub dense_call_narrow : (n : ℕ) (l : DenseLent) (k : ℕ) → ((i : ℕ) → i < l.m → get_or l.constants i 0 < 2 ^ k) → (dense_on n l).answer ≡ Solved → (v : ℕ) → get_or (dense_on n l).solution v 0 < 2 ^ k
dense_call_narrow n l k h e = let s = solved n l e in dense_narrow n l.m l.w l.rows l.constants s.0 k h (dense_on n l).solution s.1

pub dense_call_isolated : (P : ℕ → Bool) (n : ℕ) (a b : DenseLent) → Apart P (dense_system n a) → Apart P (dense_system n b) → our_part P (dense_system n a) ≡ our_part P (dense_system n b)
    → (dense_on n a).answer ≡ Solved → (dense_on n b).answer ≡ Solved → (v : ℕ) → P v ≡ true → get_or (dense_on n a).solution v 0 ≡ get_or (dense_on n b).solution v 0
dense_call_isolated P n a b pa pb same ea eb =
    let s = solved n a ea in
    let t = solved n b eb in
    dense_isolated P n a.m a.w b.m b.w a.rows a.constants b.rows b.constants s.0 t.0 pa pb same (dense_on n a).solution (dense_on n b).solution s.1 t.1

-- ---- what is left in the lent cells

-- every number but 0 keeps the solution as lent
pub dense_call_keeps : (n : ℕ) (l : DenseLent) → (dense_on n l).answer ≢ Solved → (dense_on n l).solution ≡ l.solution
unfolding dense_call
dense_call_keeps n l =
    call_keeps n (dense_numbers l.m) (dense_words l.m l.w) (dense_elimination n (rows_of l.m l.w l.rows l.constants)) l.solution l.numbers l.words
    (dense_rules n l.m l.w l.rows l.constants)

-- after 1 to 5 the work areas are untouched
pub dense_call_untouched : (n : ℕ) (l : DenseLent) → 1 ≤ number_of (dense_on n l).answer → number_of (dense_on n l).answer ≤ 5
    → ((dense_on n l).numbers ≡ l.numbers) × ((dense_on n l).words ≡ l.words)
unfolding dense_call
dense_call_untouched n l =
    call_untouched n (dense_numbers l.m) (dense_words l.m l.w) (dense_elimination n (rows_of l.m l.w l.rows l.constants)) l.solution l.numbers l.words
    (dense_rules n l.m l.w l.rows l.constants)

-- after 0 and 6 the room part of each work area is zero and the remainder untouched
pub dense_call_cleared : (n : ℕ) (l : DenseLent) → ((dense_on n l).answer ≡ Solved) ⊎ ((dense_on n l).answer ≡ Unsolvable)
    → ((dense_on n l).numbers ≡ cleared (dense_numbers l.m) l.numbers) × ((dense_on n l).words ≡ cleared (dense_words l.m l.w) l.words)
unfolding dense_call
dense_call_cleared n l =
    call_cleared n (dense_numbers l.m) (dense_words l.m l.w) (dense_elimination n (rows_of l.m l.w l.rows l.constants)) l.solution l.numbers l.words
    (dense_rules n l.m l.w l.rows l.constants) (dense_early n l.m l.w l.rows l.constants)
