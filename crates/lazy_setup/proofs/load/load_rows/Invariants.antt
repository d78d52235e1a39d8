-- The first i rows are loaded.
use Rattle.std.proofs.Common.{replicate}
use Rattle.lazy_setup.proofs.Loading.{Loading}
use Rattle.lazy_setup.proofs.load.load_rows.Given as goal

abbrev pub invariant-loop-i : goal.invariant-loop-i
invariant-loop-i l = Loading l.system.n l.system.m l.system.starts.now l.system.vars.now (replicate l.system.m 0) l.initial.numbers l.i l.numbers
