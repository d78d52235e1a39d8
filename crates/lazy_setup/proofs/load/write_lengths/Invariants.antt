-- The first i lengths are written.
use Rattle.areas.proofs.Cells.{Writing}
use Rattle.lazy_setup.specs.Tables.{spans}
use Rattle.lazy_setup.proofs.load.write_lengths.Given as goal

abbrev pub invariant-loop-i : goal.invariant-loop-i
invariant-loop-i l = Writing l.at (spans l.system.m l.system.starts.now) l.initial.numbers l.i l.numbers
