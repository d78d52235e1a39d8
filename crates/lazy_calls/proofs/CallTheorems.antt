-- The theorems of lazy elimination, of its public call: what the solution slice holds after 0, when the answer is 6, what is left in the lent cells,
-- and what is told of the sums.
use mathlib.Core.Path.{◌≡◌}
use mathlib.Core.Logic.{◌↔◌, ◌≢◌, ◌⊎◌}
use mathlib.Core.Bool.{Bool, true}
use mathlib.Core.List.{List}
use Prim.Native.Nat.{ℕ, ◌+◌, ◌*◌, ◌≤◌, ◌<◌, ◌^◌}
use lib.ListN.{length, get_or}
use Rattle.gf2.specs.Equation.{Each, MeetsAll}
use Rattle.gf2.specs.Span.{Cancels}
use Rattle.gf2.specs.Ours.{Apart, our_part}
use Rattle.areas.specs.Stretch.{cleared}
use Rattle.answers.specs.Numbers.{number_of}
use Rattle.answers.specs.Calls.{Call}
use Rattle.answers.specs.Reported.{reported}
use Rattle.answers.specs.Sizes.{max_variables, max_equations, lazy_numbers, lazy_words}
use Rattle.answers.specs.Answers.{Solved, Unsolvable}
use Rattle.answers.proofs.Calls.{call_keeps, call_untouched, call_cleared}
use Rattle.answers.proofs.Reported.{Reports, call_reports, call_reports_le}
use Rattle.system.specs.System.{system_rules}
use Rattle.system.proofs.Soundness.{kept_sound, rules_early}
use Rattle.system.proofs.SolverCalls.{Lent, system, Runs, call_solves, call_exact, call_says, call_narrow, call_isolated}
use Rattle.lazy.specs.Lazy.{lazy_elimination}
use Rattle.lazy.specs.Cancelled.{lazy_cancels}
use Rattle.lazy.proofs.Cancelled.{lazy_fits}
use Rattle.lazy.proofs.Theorems.{lent, lazy_solves, lazy_exact, lazy_narrow, lazy_isolated}
use Rattle.lazy_calls.specs.LazyCall.{lazy_call}

abbrev words_room : ℕ → ℕ → ℕ → ℕ
words_room n m t = lazy_words m

-- the call on what is lent
abbrev pub lazy_on : ℕ → Lent → Call
lazy_on n l = lazy_call n l.m l.starts l.vars l.constants l.solution l.numbers l.words

-- no refusal from 1 to 5
abbrev pub LazyRuns : ℕ → Lent → Type 0
LazyRuns n l = Runs lazy_numbers words_room n l

pub lazy_call_solves : (n : ℕ) (l : Lent) → (lazy_on n l).answer ≡ Solved → (length (lazy_on n l).solution ≡ n) × MeetsAll (lazy_on n l).solution (system l)
unfolding lazy_call
lazy_call_solves n l = call_solves lazy_elimination lazy_numbers words_room lazy_solves lazy_exact lazy_narrow lazy_isolated n l

pub lazy_call_exact : (n : ℕ) (l : Lent) → LazyRuns n l → ((lazy_on n l).answer ≡ Unsolvable) ↔ ((mask : List Bool) × Cancels mask (system l))
unfolding lazy_call
lazy_call_exact n l = call_exact lazy_elimination lazy_numbers words_room lazy_solves lazy_exact lazy_narrow lazy_isolated n l

-- a call that is not refused: 0, and n values that meet every equation; or 6, and some set of equations cancels
pub lazy_call_says : (n : ℕ) (l : Lent) → LazyRuns n l
    → (((lazy_on n l).answer ≡ Solved) × (length (lazy_on n l).solution ≡ n) × MeetsAll (lazy_on n l).solution (system l))
    ⊎ (((lazy_on n l).answer ≡ Unsolvable) × ((mask : List Bool) × Cancels mask (system l)))
unfolding lazy_call
lazy_call_says n l = call_says lazy_elimination lazy_numbers words_room lazy_solves lazy_exact lazy_narrow lazy_isolated n l

pub lazy_call_narrow : (n : ℕ) (l : Lent) (k : ℕ) → Each (λ e. e.c < 2 ^ k) (system l) → (lazy_on n l).answer ≡ Solved → (v : ℕ) → get_or (lazy_on n l).solution v 0 < 2 ^ k
unfolding lazy_call
lazy_call_narrow n l = call_narrow lazy_elimination lazy_numbers words_room lazy_solves lazy_exact lazy_narrow lazy_isolated n l

pub lazy_call_isolated : (P : ℕ → Bool) (n : ℕ) (a b : Lent) → Apart P (system a) → Apart P (system b) → our_part P (system a) ≡ our_part P (system b)
    → (lazy_on n a).answer ≡ Solved → (lazy_on n b).answer ≡ Solved → (v : ℕ) → P v ≡ true → get_or (lazy_on n a).solution v 0 ≡ get_or (lazy_on n b).solution v 0
unfolding lazy_call
lazy_call_isolated P n a b = call_isolated lazy_elimination lazy_numbers words_room lazy_solves lazy_exact lazy_narrow lazy_isolated P n a b

-- ---- what is left in the lent cells

-- every number but 0 keeps the solution as lent
pub lazy_call_keeps : (n : ℕ) (l : Lent) → (lazy_on n l).answer ≢ Solved → (lazy_on n l).solution ≡ l.solution
unfolding lazy_call
lazy_call_keeps n l =
    call_keeps n (lazy_numbers n l.m (length l.vars)) (lazy_words l.m) (lazy_elimination n (system l)) l.solution l.numbers l.words
    (system_rules n l.m l.starts l.vars l.constants)

-- after 1 to 5 the work areas are untouched
pub lazy_call_untouched : (n : ℕ) (l : Lent) → 1 ≤ number_of (lazy_on n l).answer → number_of (lazy_on n l).answer ≤ 5
    → ((lazy_on n l).numbers ≡ l.numbers) × ((lazy_on n l).words ≡ l.words)
unfolding lazy_call
lazy_call_untouched n l =
    call_untouched n (lazy_numbers n l.m (length l.vars)) (lazy_words l.m) (lazy_elimination n (system l)) l.solution l.numbers l.words
    (system_rules n l.m l.starts l.vars l.constants)

-- after 0 and 6 the room part of each work area is zero and the remainder untouched
pub lazy_call_cleared : (n : ℕ) (l : Lent) → ((lazy_on n l).answer ≡ Solved) ⊎ ((lazy_on n l).answer ≡ Unsolvable)
    → ((lazy_on n l).numbers ≡ cleared (lazy_numbers n l.m (length l.vars)) l.numbers) × ((lazy_on n l).words ≡ cleared (lazy_words l.m) l.words)
unfolding lazy_call
lazy_call_cleared n l =
    call_cleared n (lazy_numbers n l.m (length l.vars)) (lazy_words l.m) (lazy_elimination n (system l)) l.solution l.numbers l.words
    (system_rules n l.m l.starts l.vars l.constants) (rules_early n l.m l.starts l.vars l.constants)

-- ---- what is told of the sums

-- what the call on what is lent tells of its sums
abbrev pub lazy_told : ℕ → Lent → ℕ
lazy_told n l = reported (lazy_on n l).answer (lazy_cancels n (system l))

-- 0 after 1 to 5; after 0 and 6 how many variables cancelled in the sums of the rules' own units, the dense part's with them
pub lazy_cancelled : (n : ℕ) (l : Lent) → Reports (lazy_cancels n (system l)) (lazy_on n l).answer (lazy_told n l)
unfolding lazy_call
lazy_cancelled n l =
    call_reports n (lazy_numbers n l.m (length l.vars)) (lazy_words l.m) (lazy_elimination n (system l)) l.solution l.numbers l.words (lazy_cancels n (system l))
    (system_rules n l.m l.starts l.vars l.constants) (rules_early n l.m l.starts l.vars l.constants)

-- .. and 64 bits hold it
pub lazy_cancelled_fits : (n : ℕ) (l : Lent) → lazy_told n l ≤ (max_equations + max_equations + max_variables + 1) * (max_equations * max_variables)
unfolding lazy_call
lazy_cancelled_fits n l =
    call_reports_le n (lazy_numbers n l.m (length l.vars)) (lazy_words l.m) (lazy_elimination n (system l)) l.solution l.numbers l.words (lazy_cancels n (system l))
    (system_rules n l.m l.starts l.vars l.constants) (rules_early n l.m l.starts l.vars l.constants)
    (λ kept.
    let f = kept_sound n l.m l.starts l.vars l.constants kept in
    lazy_fits n (system l) (lent n (system l) f.sorted f.below) f.few_variables (rw f.many f.few_equations))
