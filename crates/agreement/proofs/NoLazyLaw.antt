-- Lazy elimination has no such law: neither theorem about sparse and dense elimination holds of its call.
use mathlib.Core.Path.{◌≡◌, sym, ap, ◌∙◌}
use mathlib.Core.List.{List}
use Prim.Native.Nat.{ℕ}
use native.Mathlib.Omega.{arith}
use lib.ListN.{get_or}
use Rattle.system.proofs.SolverCalls.{Lent, system}
use Rattle.sparse_rules.proofs.CallTheorems.{sparse_on}
use Rattle.lazy_calls.proofs.CallTheorems.{lazy_on, LazyRuns}
use Rattle.agreement.specs.Smallest.{Smallest, Solvable, SameEquations}
use Rattle.agreement.proofs.Orders.{smallest_unique}
use Rattle.agreement.proofs.OneTable.{by_sparse, smallest_table}
use Rattle.agreement.proofs.Examples.{p3, p3_twice, p5, p5_sparse, p5_lazy, p3_lazy, sparse_runs, lazy_runs, p5_solvable, p3_solvable, p3_same}

-- P5: the lazy table of solvable equations need not be the smallest solution
pub lazy_not_smallest : ((l : Lent) → LazyRuns 3 l → Solvable 3 (system l) → Smallest 3 (system l) (lazy_on 3 l).solution) → ⊥
lazy_not_smallest law =
    let same = smallest_unique 3 (system p5) (lazy_on 3 p5).solution (sparse_on 3 p5).solution (law p5 lazy_runs.0 p5_solvable) (smallest_table (by_sparse p5 sparse_runs.0) p5_solvable).1 in
    let first : ◌≡◌ {A = ℕ} 0 2 = ap (λ (x : List ℕ). get_or x 0 0) (sym p5_lazy.0.1 ∙ same ∙ p5_sparse.0.1) in
    omega arith

-- P3 and P3 with an equation twice: the same solvable equations need not get the same lazy table
pub lazy_not_one_table : ((a b : Lent) → LazyRuns 3 a → LazyRuns 3 b → SameEquations (system a) (system b) → Solvable 3 (system a) → (lazy_on 3 a).solution ≡ (lazy_on 3 b).solution) → ⊥
lazy_not_one_table law =
    let same = law p3 p3_twice lazy_runs.1 lazy_runs.2 p3_same p3_solvable.0 in
    let first : ◌≡◌ {A = ℕ} 6 5 = ap (λ (x : List ℕ). get_or x 0 0) (sym p3_lazy.0.1 ∙ same ∙ p3_lazy.1.1) in
    omega arith
