-- The theorems of sparse elimination, of its public call: what the solution slice holds after 0, when the answer is 6, what is left in the lent cells,
-- and what is told of the sums.
use mathlib.Core.Path.{◌≡◌}
use mathlib.Core.Logic.{◌↔◌, ◌≢◌, ◌⊎◌}
use mathlib.Core.Bool.{Bool, true}
use mathlib.Core.List.{List}
use Prim.Native.Nat.{ℕ, ◌*◌, ◌≤◌, ◌<◌, ◌^◌}
use lib.ListN.{length, get_or}
use Rattle.gf2.specs.Equation.{Each, MeetsAll}
use Rattle.gf2.specs.Span.{Cancels}
use Rattle.gf2.specs.Canonical.{Canonical}
use Rattle.gf2.specs.Ours.{Apart, our_part}
use Rattle.areas.specs.Stretch.{cleared}
use Rattle.answers.specs.Numbers.{number_of}
use Rattle.answers.specs.Calls.{Call}
use Rattle.answers.specs.Reported.{reported}
use Rattle.answers.specs.Sizes.{max_variables, max_equations, sparse_numbers, sparse_words}
use Rattle.answers.specs.Answers.{Solved, Unsolvable}
use Rattle.answers.proofs.Calls.{call_keeps, call_untouched, call_cleared}
use Rattle.answers.proofs.Reported.{Reports, call_reports, call_reports_le}
use Rattle.system.specs.System.{system_rules}
use Rattle.system.proofs.Soundness.{kept_sound, rules_early}
use Rattle.system.proofs.SolverCalls.{Lent, system, Runs, solved, call_solves, call_exact, call_says, call_narrow, call_isolated}
use Rattle.sparse_rules.specs.Eliminate.{gaussian_elimination}
use Rattle.sparse_rules.specs.Cancelled.{sparse_cancels}
use Rattle.sparse_rules.specs.SparseCall.{sparse_call}
use Rattle.sparse_rules.proofs.Cancelled.{sparse_fits}
use Rattle.sparse_rules.proofs.Theorems.{sparse_solves, sparse_exact, sparse_narrow, sparse_isolated, sparse_canonical}

abbrev numbers_room : ℕ → ℕ → ℕ → ℕ
numbers_room n m t = sparse_numbers n m

abbrev words_room : ℕ → ℕ → ℕ → ℕ
words_room n m t = sparse_words m

-- the call on what is lent
abbrev pub sparse_on : ℕ → Lent → Call
sparse_on n l = sparse_call n l.m l.starts l.vars l.constants l.solution l.numbers l.words

-- no refusal from 1 to 5
abbrev pub SparseRuns : ℕ → Lent → Type 0
SparseRuns n l = Runs numbers_room words_room n l

pub sparse_call_solves : (n : ℕ) (l : Lent) → (sparse_on n l).answer ≡ Solved → (length (sparse_on n l).solution ≡ n) × MeetsAll (sparse_on n l).solution (system l)
unfolding sparse_call
sparse_call_solves n l = call_solves gaussian_elimination numbers_room words_room sparse_solves sparse_exact sparse_narrow sparse_isolated n l

pub sparse_call_canonical : (n : ℕ) (l : Lent) → (sparse_on n l).answer ≡ Solved → Canonical n (system l) (sparse_on n l).solution
unfolding sparse_call
sparse_call_canonical n l e =
    let s = solved gaussian_elimination numbers_room words_room sparse_solves sparse_exact sparse_narrow sparse_isolated n l e in
    sparse_canonical n (system l) s.0.sorted s.0.below (sparse_on n l).solution s.1

pub sparse_call_exact : (n : ℕ) (l : Lent) → SparseRuns n l → ((sparse_on n l).answer ≡ Unsolvable) ↔ ((mask : List Bool) × Cancels mask (system l))
unfolding sparse_call
sparse_call_exact n l = call_exact gaussian_elimination numbers_room words_room sparse_solves sparse_exact sparse_narrow sparse_isolated n l

-- a call that is not refused: 0, and n values that meet every equation; or 6, and some set of equations cancels
pub sparse_call_says : (n : ℕ) (l : Lent) → SparseRuns n l
    → (((sparse_on n l).answer ≡ Solved) × (length (sparse_on n l).solution ≡ n) × MeetsAll (sparse_on n l).solution (system l))
    ⊎ (((sparse_on n l).answer ≡ Unsolvable) × ((mask : List Bool) × Cancels mask (system l)))
unfolding sparse_call
sparse_call_says n l = call_says gaussian_elimination numbers_room words_room sparse_solves sparse_exact sparse_narrow sparse_isolated n l

pub sparse_call_narrow : (n : ℕ) (l : Lent) (k : ℕ) → Each (λ e. e.c < 2 ^ k) (system l) → (sparse_on n l).answer ≡ Solved → (v : ℕ) → get_or (sparse_on n l).solution v 0 < 2 ^ k
unfolding sparse_call
sparse_call_narrow n l = call_narrow gaussian_elimination numbers_room words_room sparse_solves sparse_exact sparse_narrow sparse_isolated n l

pub sparse_call_isolated : (P : ℕ → Bool) (n : ℕ) (a b : Lent) → Apart P (system a) → Apart P (system b) → our_part P (system a) ≡ our_part P (system b)
    → (sparse_on n a).answer ≡ Solved → (sparse_on n b).answer ≡ Solved → (v : ℕ) → P v ≡ true → get_or (sparse_on n a).solution v 0 ≡ get_or (sparse_on n b).solution v 0
unfolding sparse_call
sparse_call_isolated P n a b = call_isolated gaussian_elimination numbers_room words_room sparse_solves sparse_exact sparse_narrow sparse_isolated P n a b

-- ---- what is left in the lent cells

-- every number but 0 keeps the solution as lent
pub sparse_call_keeps : (n : ℕ) (l : Lent) → (sparse_on n l).answer ≢ Solved → (sparse_on n l).solution ≡ l.solution
unfolding sparse_call
sparse_call_keeps n l =
    call_keeps n (sparse_numbers n l.m) (sparse_words l.m) (gaussian_elimination n (system l)) l.solution l.numbers l.words
    (system_rules n l.m l.starts l.vars l.constants)

-- after 1 to 5 the work areas are untouched
pub sparse_call_untouched : (n : ℕ) (l : Lent) → 1 ≤ number_of (sparse_on n l).answer → number_of (sparse_on n l).answer ≤ 5
    → ((sparse_on n l).numbers ≡ l.numbers) × ((sparse_on n l).words ≡ l.words)
unfolding sparse_call
sparse_call_untouched n l =
    call_untouched n (sparse_numbers n l.m) (sparse_words l.m) (gaussian_elimination n (system l)) l.solution l.numbers l.words
    (system_rules n l.m l.starts l.vars l.constants)

-- after 0 and 6 the room part of each work area is zero and the remainder untouched
pub sparse_call_cleared : (n : ℕ) (l : Lent) → ((sparse_on n l).answer ≡ Solved) ⊎ ((sparse_on n l).answer ≡ Unsolvable)
    → ((sparse_on n l).numbers ≡ cleared (sparse_numbers n l.m) l.numbers) × ((sparse_on n l).words ≡ cleared (sparse_words l.m) l.words)
unfolding sparse_call
sparse_call_cleared n l =
    call_cleared n (sparse_numbers n l.m) (sparse_words l.m) (gaussian_elimination n (system l)) l.solution l.numbers l.words
    (system_rules n l.m l.starts l.vars l.constants) (rules_early n l.m l.starts l.vars l.constants)

-- ---- what is told of the sums

-- what the call on what is lent tells of its sums
abbrev pub sparse_told : ℕ → Lent → ℕ
sparse_told n l = reported (sparse_on n l).answer (sparse_cancels (system l))

-- 0 after 1 to 5; after 0 and 6 how many variables cancelled in the sums of the rules' own steps
pub sparse_cancelled : (n : ℕ) (l : Lent) → Reports (sparse_cancels (system l)) (sparse_on n l).answer (sparse_told n l)
unfolding sparse_call
sparse_cancelled n l =
    call_reports n (sparse_numbers n l.m) (sparse_words l.m) (gaussian_elimination n (system l)) l.solution l.numbers l.words (sparse_cancels (system l))
    (system_rules n l.m l.starts l.vars l.constants) (rules_early n l.m l.starts l.vars l.constants)

-- .. and 64 bits hold it
pub sparse_cancelled_fits : (n : ℕ) (l : Lent) → sparse_told n l ≤ max_equations * (max_equations * max_variables)
unfolding sparse_call
sparse_cancelled_fits n l =
    call_reports_le n (sparse_numbers n l.m) (sparse_words l.m) (gaussian_elimination n (system l)) l.solution l.numbers l.words (sparse_cancels (system l))
    (system_rules n l.m l.starts l.vars l.constants) (rules_early n l.m l.starts l.vars l.constants)
    (λ kept.
    let f = kept_sound n l.m l.starts l.vars l.constants kept in
    sparse_fits n (system l) f.each_rising f.few_variables (rw f.many f.few_equations))
