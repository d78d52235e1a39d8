-- The dense lines of the table, computed, and by them those of the slow engine.
use mathlib.Core.Path.{◌≡◌, refl, ap, ◌∙◌}
use mathlib.Core.List.{List}
use Prim.Native.Nat.{ℕ, ◌+◌}
use lib.ListN.{length}
use Rattle.gf2.specs.Equation.{Each, eval_vars}
use Rattle.answers.specs.Sizes.{dense_numbers, dense_words}
use Rattle.workbench.specs.Bench.{Seen, of_solver, nines, Comes, comes_to, dense_lines, by_dense, by_slow}
use Rattle.areas.specs.Stretch.{stretch, put, cleared}
use Rattle.dense_rows.specs.Bits.{bit_at, columns_from, empty_from, xor_words}
use Rattle.dense_rows.specs.Rows.{row_at, rows_from}
use Rattle.dense_rows.specs.Steps.{pivot_from, from_word, swap_rows, xor_from, clear_row}
use Rattle.dense_walk.specs.Eliminate.{topped, column, walk, residue, pin, back_sub, finish, dense_elimination}
use Rattle.dense_rows.specs.Rules.{row_rules, dense_rules}
use Rattle.dense.specs.Call.{dense_call}
use Rattle.slow_rules.proofs.SlowTheorems.{slow_call_same}

pub dense_come_out : Each Comes (dense_lines by_dense)
unfolding comes_to stretch put cleared eval_vars bit_at columns_from empty_from xor_words row_at rows_from pivot_from from_word swap_rows xor_from clear_row topped column walk residue pin back_sub finish dense_elimination row_rules dense_rules dense_call
dense_come_out = (refl, (refl, (refl, (refl, tt))))

-- the slow engine's call is the dense one
slow_line : (n w : ℕ) (rows constants : List ℕ) {x : Seen} → comes_to (by_dense n w rows constants) ≡ x → comes_to (by_slow n w rows constants) ≡ x
unfolding comes_to
slow_line n w rows constants h =
    let m = length constants in
    ap of_solver (slow_call_same n m w rows constants (nines n) (nines (dense_numbers m + 1)) (nines (dense_words m w + 1))) ∙ h

pub slow_come_out : Each Comes (dense_lines by_slow)
slow_come_out =
    let d = dense_come_out in
    (slow_line _ _ _ _ d.0, (slow_line _ _ _ _ d.1.0, (slow_line _ _ _ _ d.1.1.0, (slow_line _ _ _ _ d.1.1.1.0, tt))))
