-- P1 to P10 come out, by the definitions of the public calls.
use mathlib.Core.List.{◌++◌}
use Rattle.gf2.specs.Equation.{Each}
use Rattle.gf2.proofs.Each.{each_append}
use Rattle.workbench.specs.Bench.{Comes, sparse_lines, lazy_lines, peel_lines, by_high, by_low, dense_lines, by_dense, by_slow, sum_lines, table}
use Rattle.workbench.proofs.BySparse.{sparse_come_out}
use Rattle.workbench.proofs.ByLazy.{lazy_come_out}
use Rattle.workbench.proofs.ByPeeling.{high_come_out, low_come_out}
use Rattle.workbench.proofs.ByDense.{dense_come_out, slow_come_out}
use Rattle.workbench.proofs.BySum.{sum_come_out}

pub all_come_out : Each Comes table
all_come_out =
    each_append Comes sparse_lines (lazy_lines ++ (peel_lines by_high ++ (peel_lines by_low ++ (dense_lines by_dense ++ (dense_lines by_slow ++ sum_lines))))) sparse_come_out
    (each_append Comes lazy_lines (peel_lines by_high ++ (peel_lines by_low ++ (dense_lines by_dense ++ (dense_lines by_slow ++ sum_lines)))) lazy_come_out
    (each_append Comes (peel_lines by_high) (peel_lines by_low ++ (dense_lines by_dense ++ (dense_lines by_slow ++ sum_lines))) high_come_out
    (each_append Comes (peel_lines by_low) (dense_lines by_dense ++ (dense_lines by_slow ++ sum_lines)) low_come_out
    (each_append Comes (dense_lines by_dense) (dense_lines by_slow ++ sum_lines) dense_come_out (each_append Comes (dense_lines by_slow) sum_lines slow_come_out sum_come_out)))))
