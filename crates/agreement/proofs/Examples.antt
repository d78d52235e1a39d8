-- P3 and P5 by the public calls, computed: in two orders, and with an equation listed twice.
use mathlib.Core.Path.{◌≡◌, refl}
use mathlib.Core.List.{List, [], ◌∷◌, Memᴰ}
use Prim.Native.Nat.{ℕ, zero, suc, ◌<◌}
use native.Mathlib.Omega.{arith}
use borrow.Author.Tests.{leb-true}
use lib.ListN.{length, get_or}
use Rattle.gf2.specs.Equation.{Equation, eval_vars, lists, sym_diff}
use Rattle.gf2.specs.Canonical.{Before}
use Rattle.gf2.specs.NumberLists.{up_from, down_from, keep, first_of}
use Rattle.areas.specs.Stretch.{stretch, put, zeros, cleared}
use Rattle.answers.specs.Calls.{Call}
use Rattle.answers.specs.Sizes.{lazy_numbers, lazy_words, dense_numbers, dense_words}
use Rattle.answers.specs.Answers.{Solved}
use Rattle.system.specs.System.{equation_at, equations_from, climbs, starts_kept, rises_below, lowest_bad, sizes_fit, shape_kept, system_rules}
use Rattle.system.proofs.SolverCalls.{Lent, system}
use Rattle.sparse_rules.specs.Eliminate.{summed, meeting, meet_row, outer_row, outer_rows, echelon_form, contradicted, pin, back_sub, finish, gaussian_elimination}
use Rattle.sparse_rules.specs.SparseCall.{sparse_call}
use Rattle.sparse_rules.proofs.CallTheorems.{sparse_on, SparseRuns}
use Rattle.dense_rows.specs.Bits.{bit_at, columns_from, empty_from, xor_words}
use Rattle.dense_rows.specs.Rows.{row_at, rows_from}
use Rattle.dense_rows.specs.Steps.{pivot_from, from_word, swap_rows, xor_from, clear_row}
use Rattle.dense_walk.specs.Eliminate as dense
use Rattle.dense_rows.specs.Rules.{row_rules, dense_rules}
use Rattle.dense.specs.Call.{dense_call}
use Rattle.dense.proofs.CallTheorems.{DenseLent, dense_on, dense_system, DenseRuns}
use Rattle.lazy.specs.Lazy.{lazy_elimination, whole_run, after, unit, pop, pop_equation, pop_variable, pop_dense, pass_over, copy, solve_for, skip, activate, lowered, pushed, added_into, dense_row, last_unit, fill, start, heaviest, listing, others}
use Rattle.lazy_calls.specs.LazyCall.{lazy_call}
use Rattle.lazy_calls.proofs.CallTheorems.{lazy_on, LazyRuns}
use Rattle.agreement.specs.Smallest.{Solvable, SameEquations}
use Rattle.agreement.proofs.OneTable.{sparse_dense_agree}

-- ---- what is lent

-- three variables; a solution of zeros, and zeros as many as lazy elimination asks for, which are enough for sparse
abbrev lent : List ℕ → List ℕ → List ℕ → Lent
lent starts vars constants = record {
  m = length constants;
  starts = starts;
  vars = vars;
  constants = constants;
  solution = zeros 3;
  numbers = zeros (lazy_numbers 3 (length constants) (length vars));
  words = zeros (lazy_words (length constants));
}

-- the same as rows of one word
abbrev lent_rows : List ℕ → List ℕ → DenseLent
lent_rows rows constants = record {
  m = length constants;
  w = 1;
  rows = rows;
  constants = constants;
  solution = zeros 3;
  numbers = zeros (dense_numbers (length constants));
  words = zeros (dense_words (length constants) 1);
}

-- P3: {0,1} = 5, {1,2} = 3, {0,2} = 6
abbrev pub p3 : Lent
p3 = lent (0 ∷ 2 ∷ 4 ∷ 6 ∷ []) (0 ∷ 1 ∷ 1 ∷ 2 ∷ 0 ∷ 2 ∷ []) (5 ∷ 3 ∷ 6 ∷ [])

-- from the last to the first
abbrev pub p3_turned : Lent
p3_turned = lent (0 ∷ 2 ∷ 4 ∷ 6 ∷ []) (0 ∷ 2 ∷ 1 ∷ 2 ∷ 0 ∷ 1 ∷ []) (6 ∷ 3 ∷ 5 ∷ [])

-- the first equation once more at the end
abbrev pub p3_twice : Lent
p3_twice = lent (0 ∷ 2 ∷ 4 ∷ 6 ∷ 8 ∷ []) (0 ∷ 1 ∷ 1 ∷ 2 ∷ 0 ∷ 2 ∷ 0 ∷ 1 ∷ []) (5 ∷ 3 ∷ 6 ∷ 5 ∷ [])

-- P5: {0,1} = 1, {0,2} = 2
abbrev pub p5 : Lent
p5 = lent (0 ∷ 2 ∷ 4 ∷ []) (0 ∷ 1 ∷ 0 ∷ 2 ∷ []) (1 ∷ 2 ∷ [])

abbrev pub p5_turned : Lent
p5_turned = lent (0 ∷ 2 ∷ 4 ∷ []) (0 ∷ 2 ∷ 0 ∷ 1 ∷ []) (2 ∷ 1 ∷ [])

-- as rows, {0,1} is the word 3, {1,2} the word 6, {0,2} the word 5
abbrev pub p3_rows : DenseLent
p3_rows = lent_rows (3 ∷ 6 ∷ 5 ∷ []) (5 ∷ 3 ∷ 6 ∷ [])

abbrev pub p3_rows_turned : DenseLent
p3_rows_turned = lent_rows (5 ∷ 6 ∷ 3 ∷ []) (6 ∷ 3 ∷ 5 ∷ [])

abbrev pub p3_rows_twice : DenseLent
p3_rows_twice = lent_rows (3 ∷ 6 ∷ 5 ∷ 3 ∷ []) (5 ∷ 3 ∷ 6 ∷ 5 ∷ [])

abbrev pub p5_rows : DenseLent
p5_rows = lent_rows (3 ∷ 5 ∷ []) (1 ∷ 2 ∷ [])

abbrev pub p5_rows_turned : DenseLent
p5_rows_turned = lent_rows (5 ∷ 3 ∷ []) (2 ∷ 1 ∷ [])

-- ---- what comes of it

-- the call answers 0 and leaves this table
abbrev pub Gives : Call → List ℕ → Type 0
Gives call x = (call.answer ≡ Solved) × (call.solution ≡ x)

pub p3_sparse : Gives (sparse_on 3 p3) (6 ∷ 3 ∷ 0 ∷ []) × Gives (sparse_on 3 p3_turned) (6 ∷ 3 ∷ 0 ∷ []) × Gives (sparse_on 3 p3_twice) (6 ∷ 3 ∷ 0 ∷ [])
unfolding sparse_call system_rules sizes_fit shape_kept starts_kept climbs rises_below lowest_bad equations_from equation_at stretch cleared gaussian_elimination echelon_form outer_rows outer_row meet_row meeting summed sym_diff contradicted finish back_sub pin eval_vars
p3_sparse = ((refl, refl), (refl, refl), (refl, refl))

pub p5_sparse : Gives (sparse_on 3 p5) (2 ∷ 3 ∷ 0 ∷ []) × Gives (sparse_on 3 p5_turned) (2 ∷ 3 ∷ 0 ∷ [])
unfolding sparse_call system_rules sizes_fit shape_kept starts_kept climbs rises_below lowest_bad equations_from equation_at stretch cleared gaussian_elimination echelon_form outer_rows outer_row meet_row meeting summed sym_diff contradicted finish back_sub pin eval_vars
p5_sparse = ((refl, refl), (refl, refl))

pub p3_dense : Gives (dense_on 3 p3_rows) (6 ∷ 3 ∷ 0 ∷ []) × Gives (dense_on 3 p3_rows_turned) (6 ∷ 3 ∷ 0 ∷ []) × Gives (dense_on 3 p3_rows_twice) (6 ∷ 3 ∷ 0 ∷ [])
unfolding stretch put cleared eval_vars bit_at columns_from empty_from xor_words row_at rows_from pivot_from from_word swap_rows xor_from clear_row dense.topped dense.column dense.walk dense.residue dense.pin dense.back_sub dense.finish dense.dense_elimination row_rules dense_rules dense_call
p3_dense = ((refl, refl), (refl, refl), (refl, refl))

pub p5_dense : Gives (dense_on 3 p5_rows) (2 ∷ 3 ∷ 0 ∷ []) × Gives (dense_on 3 p5_rows_turned) (2 ∷ 3 ∷ 0 ∷ [])
unfolding stretch put cleared eval_vars bit_at columns_from empty_from xor_words row_at rows_from pivot_from from_word swap_rows xor_from clear_row dense.topped dense.column dense.walk dense.residue dense.pin dense.back_sub dense.finish dense.dense_elimination row_rules dense_rules dense_call
p5_dense = ((refl, refl), (refl, refl))

-- lazy elimination gives P5 another table, and P3 another one when an equation is listed twice
pub p5_lazy : Gives (lazy_on 3 p5) (0 ∷ 1 ∷ 2 ∷ []) × Gives (lazy_on 3 p5_turned) (0 ∷ 1 ∷ 2 ∷ [])
unfolding lazy_call system_rules sizes_fit shape_kept starts_kept climbs rises_below lowest_bad equations_from equation_at stretch cleared lazy_elimination whole_run after unit pop pop_equation pop_variable pop_dense pass_over copy solve_for skip activate lowered pushed added_into dense_row last_unit fill start heaviest listing others up_from down_from keep first_of lists outer_row meet_row meeting summed contradicted back_sub pin sym_diff eval_vars
p5_lazy = ((refl, refl), (refl, refl))

pub p3_lazy : Gives (lazy_on 3 p3) (6 ∷ 3 ∷ 0 ∷ []) × Gives (lazy_on 3 p3_twice) (5 ∷ 0 ∷ 3 ∷ [])
unfolding lazy_call system_rules sizes_fit shape_kept starts_kept climbs rises_below lowest_bad equations_from equation_at stretch cleared lazy_elimination whole_run after unit pop pop_equation pop_variable pop_dense pass_over copy solve_for skip activate lowered pushed added_into dense_row last_unit fill start heaviest listing others up_from down_from keep first_of lists outer_row meet_row meeting summed contradicted back_sub pin sym_diff eval_vars
p3_lazy = ((refl, refl), (refl, refl))

-- the order of the two tables of P5: at variable 2, the highest, 0 is below 2
pub p5_before : Before (2 ∷ 3 ∷ 0 ∷ []) (0 ∷ 1 ∷ 2 ∷ [])
p5_before = record { at = 2; smaller = omega arith; equal_above = past }
  where
    past : (u : ℕ) → 2 < u → ◌≡◌ {A = ℕ} (get_or (2 ∷ 3 ∷ 0 ∷ []) u 0) (get_or (0 ∷ 1 ∷ 2 ∷ []) u 0)
    past zero h = absurd (omega arith)
    past (suc zero) h = absurd (omega arith)
    past (suc (suc zero)) h = absurd (omega arith)
    past (suc (suc (suc u))) h = refl

-- ---- the examples meet what the theorems ask

pub sparse_runs : SparseRuns 3 p5 × SparseRuns 3 p3_twice
unfolding system_rules sizes_fit shape_kept starts_kept climbs rises_below lowest_bad equations_from equation_at stretch
sparse_runs = (
  record { kept = refl; sized = refl; numbers_room = leb-true _ _ refl; words_room = leb-true _ _ refl },
  record { kept = refl; sized = refl; numbers_room = leb-true _ _ refl; words_room = leb-true _ _ refl },
)

pub dense_runs : DenseRuns 3 p3_rows_turned
unfolding dense_rules row_rules row_at rows_from stretch bit_at empty_from
dense_runs = record { kept = refl; sized = refl; numbers_room = leb-true _ _ refl; words_room = leb-true _ _ refl }

pub lazy_runs : LazyRuns 3 p5 × LazyRuns 3 p3 × LazyRuns 3 p3_twice
unfolding system_rules sizes_fit shape_kept starts_kept climbs rises_below lowest_bad equations_from equation_at stretch
lazy_runs = (
  record { kept = refl; sized = refl; numbers_room = leb-true _ _ refl; words_room = leb-true _ _ refl },
  record { kept = refl; sized = refl; numbers_room = leb-true _ _ refl; words_room = leb-true _ _ refl },
  record { kept = refl; sized = refl; numbers_room = leb-true _ _ refl; words_room = leb-true _ _ refl },
)

pub p5_solvable : Solvable 3 (system p5)
unfolding eval_vars equations_from equation_at stretch
p5_solvable = record { x = 2 ∷ 3 ∷ 0 ∷ []; solves = record { size = refl; meets = (refl, (refl, tt)) } }

pub p3_solvable : Solvable 3 (system p3) × Solvable 3 (system p3_twice)
unfolding eval_vars equations_from equation_at stretch
p3_solvable = (
  record { x = 6 ∷ 3 ∷ 0 ∷ []; solves = record { size = refl; meets = (refl, (refl, (refl, tt))) } },
  record { x = 6 ∷ 3 ∷ 0 ∷ []; solves = record { size = refl; meets = (refl, (refl, (refl, (refl, tt)))) } },
)

-- the equation at the head of a list, behind it, and behind that
abbrev at_0 : {e : Equation} {es : List Equation} → Memᴰ e (e ∷ es)
at_0 = Memᴰ.head refl

abbrev at_1 : {d e : Equation} {es : List Equation} → Memᴰ e (d ∷ e ∷ es)
at_1 = Memᴰ.tail at_0

abbrev at_2 : {c d e : Equation} {es : List Equation} → Memᴰ e (c ∷ d ∷ e ∷ es)
at_2 = Memᴰ.tail at_1

pub p3_same : SameEquations (system p3) (system p3_twice)
unfolding equations_from equation_at stretch
p3_same = record { forth = (at_0, (at_1, (at_2, tt))); back = (at_0, (at_1, (at_2, (at_0, tt)))) }

-- a list with an equation twice, and rows in another order
pub p3_rows_same : SameEquations (system p3_twice) (dense_system 3 p3_rows_turned)
unfolding equations_from equation_at stretch row_at rows_from bit_at columns_from
p3_rows_same = record { forth = (at_2, (at_1, (at_0, (at_2, tt)))); back = (at_2, (at_1, (at_0, tt))) }

-- the theorem on these two
pub p3_agree : (sparse_on 3 p3_twice).solution ≡ (dense_on 3 p3_rows_turned).solution
p3_agree = sparse_dense_agree p3_twice p3_rows_turned sparse_runs.1 dense_runs p3_rows_same p3_solvable.1
