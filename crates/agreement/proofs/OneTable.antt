-- Sparse elimination and both dense ones return one table: the smallest solution, whatever the order of the equations.
use mathlib.Core.Path.{◌≡◌, sym, ◌∙◌}
use mathlib.Core.Logic.{◌⊎◌, inl, inr}
use mathlib.Core.Bool.{Bool}
use mathlib.Core.List.{List, Permᴰ}
use Prim.Native.Nat.{ℕ}
use native.Mathlib.Omega.{arith}
use lib.ListN.{length}
use Rattle.gf2.specs.Equation.{Equation, Sorted, MeetsAll}
use Rattle.gf2.specs.Span.{Cancels}
use Rattle.gf2.specs.Canonical.{Canonical}
use Rattle.gf2.proofs.Spans.{solved_not_cancels}
use Rattle.answers.specs.Calls.{Call}
use Rattle.answers.specs.Answers.{Solved, Unsolvable}
use Rattle.system.proofs.Soundness.{kept_sound}
use Rattle.system.proofs.SolverCalls.{Lent, system}
use Rattle.sparse_rules.proofs.CallTheorems.{sparse_on, SparseRuns, sparse_call_canonical, sparse_call_says}
use Rattle.dense_rows.specs.Rows.{rows_of}
use Rattle.dense_walk.proofs.RowTheorems.{sorted_rows}
use Rattle.dense.proofs.CallTheorems.{DenseLent, dense_on, dense_system, DenseRuns, dense_call_canonical, dense_call_says}
use Rattle.slow_rules.proofs.SlowTheorems.{slow_on, slow_call_canonical, slow_call_says}
use Rattle.agreement.specs.Smallest.{Smallest, Solvable, SameEquations}
use Rattle.agreement.proofs.Orders.{same_sym, reordered, canonical_is_smallest, smallest_unique, smallest_same}

-- ---- what each call returns for the equations es in n variables

-- a call that comes to its run (no refusal from 1 to 5), where what it is lent reads as es
pub data RunOn (n : ℕ) : List Equation → Call → Type 0 where
  by_sparse : (l : Lent) → SparseRuns n l → RunOn n (system l) (sparse_on n l)
  by_dense : (d : DenseLent) → DenseRuns n d → RunOn n (dense_system n d) (dense_on n d)
  by_slow : (d : DenseLent) → DenseRuns n d → RunOn n (dense_system n d) (slow_on n d)

-- 0 and the smallest solution, or 6 and a set of equations that cancels
pub data RunEnds (n : ℕ) (es : List Equation) (call : Call) : Type 0 where
  solves : call.answer ≡ Solved → Smallest n es call.solution → RunEnds n es call
  clashes : call.answer ≡ Unsolvable → (mask : List Bool) → Cancels mask es → RunEnds n es call

ends : (n : ℕ) (es : List Equation) (call : Call) → Sorted es → (call.answer ≡ Solved → Canonical n es call.solution)
    → ((call.answer ≡ Solved) × (length call.solution ≡ n) × MeetsAll call.solution es) ⊎ ((call.answer ≡ Unsolvable) × ((mask : List Bool) × Cancels mask es)) → RunEnds n es call
ends n es call s canonical (inl a) = solves a.0 (canonical_is_smallest n es call.solution s (canonical a.0))
ends n es call s canonical (inr k) = clashes k.0 k.1.0 k.1.1

run_sorted : {n : ℕ} {es : List Equation} {call : Call} → RunOn n es call → Sorted es
run_sorted {n} (by_sparse l a) = (kept_sound n l.m l.starts l.vars l.constants a.kept).sorted
run_sorted {n} (by_dense d a) = sorted_rows n (rows_of d.m d.w d.rows d.constants)
run_sorted {n} (by_slow d a) = sorted_rows n (rows_of d.m d.w d.rows d.constants)

pub run_ends : {n : ℕ} {es : List Equation} {call : Call} → RunOn n es call → RunEnds n es call
run_ends {n} (by_sparse l a) = ends n (system l) (sparse_on n l) (run_sorted (by_sparse l a)) (sparse_call_canonical n l) (sparse_call_says n l a)
run_ends {n} (by_dense d a) = ends n (dense_system n d) (dense_on n d) (run_sorted (by_dense d a)) (dense_call_canonical n d) (dense_call_says n d a)
run_ends {n} (by_slow d a) = ends n (dense_system n d) (slow_on n d) (run_sorted (by_slow d a)) (slow_call_canonical n d) (slow_call_says n d a)

-- ---- the theorems

-- Two runs on the same equations, each by any of the three, in whatever orders: one answer, 0 or 6, and after 0 one table.
pub one_answer : {n : ℕ} {es fs : List Equation} {c d : Call} → RunOn n es c → RunOn n fs d → SameEquations es fs
    → (c.answer ≡ d.answer) × (c.answer ≡ Solved → c.solution ≡ d.solution)
one_answer {n} {es} {fs} {c} {d} p q same = go (run_ends p) (run_ends q)
  where
    go : RunEnds n es c → RunEnds n fs d → (c.answer ≡ d.answer) × (c.answer ≡ Solved → c.solution ≡ d.solution)
    go (solves e h) (solves f k) = (e ∙ sym f, λ _. smallest_unique n es c.solution d.solution h (smallest_same n d.solution (same_sym same) k))
    go (solves e h) (clashes f mask k) =
        absurd (solved_not_cancels fs c.solution mask (run_sorted q) (smallest_same n c.solution same h).solves.meets k)
    go (clashes e mask k) (solves f h) =
        absurd (solved_not_cancels es d.solution mask (run_sorted p) (smallest_same n d.solution (same_sym same) h).solves.meets k)
    go (clashes e mask k) (clashes f mask' k') = (e ∙ sym f, λ g. let z : ◌≡◌ {A = ℕ} 0 1 = cc in absurd (omega arith))

-- Solvable equations: the answer is 0, and the solution slice holds the smallest solution.
pub smallest_table : {n : ℕ} {es : List Equation} {call : Call} → RunOn n es call → Solvable n es → (call.answer ≡ Solved) × Smallest n es call.solution
smallest_table {n} {es} {call} b s = go (run_ends b)
  where
    go : RunEnds n es call → (call.answer ≡ Solved) × Smallest n es call.solution
    go (solves e h) = (e, h)
    go (clashes e mask h) = absurd (solved_not_cancels es s.x mask (run_sorted b) s.solves.meets h)

-- Two runs on the same solvable equations, each by any of the three, in whatever orders: one and the same vector, the smallest solution.
pub one_table : {n : ℕ} {es fs : List Equation} {c d : Call} → RunOn n es c → RunOn n fs d → SameEquations es fs → Solvable n es
    → (c.answer ≡ Solved) × (d.answer ≡ Solved) × (c.solution ≡ d.solution) × Smallest n es c.solution
one_table p q same s =
    let least = smallest_table p s in
    let alike = one_answer p q same in
    (least.0, sym alike.0 ∙ least.0, alike.1 least.0, least.1)

-- .. in so many words of sparse and dense elimination
pub sparse_dense_agree : {n : ℕ} (l : Lent) (d : DenseLent) → SparseRuns n l → DenseRuns n d → SameEquations (system l) (dense_system n d) → Solvable n (system l)
    → (sparse_on n l).solution ≡ (dense_on n d).solution
sparse_dense_agree l d p q same s = (one_table (by_sparse l p) (by_dense d q) same s).2

-- .. of which another order is the plain case
pub any_order : {n : ℕ} {es fs : List Equation} {c d : Call} → RunOn n es c → RunOn n fs d → Permᴰ es fs → Solvable n es
    → (c.answer ≡ Solved) × (d.answer ≡ Solved) × (c.solution ≡ d.solution) × Smallest n es c.solution
any_order p q moved = one_table p q (reordered moved)

-- an answer of 0 shows that there is a solution
pub solved_solvable : {n : ℕ} {es : List Equation} {call : Call} → RunOn n es call → call.answer ≡ Solved → Solvable n es
solved_solvable {n} {es} {call} b e = go (run_ends b)
  where
    go : RunEnds n es call → Solvable n es
    go (solves f h) = record { x = call.solution; solves = h.solves }
    go (clashes f mask h) = let z : ◌≡◌ {A = ℕ} 0 1 = cc in absurd (omega arith)
