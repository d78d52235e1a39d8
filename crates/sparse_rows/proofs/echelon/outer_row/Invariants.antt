-- Row i passes some rows, meets one, and so on: what is left of its round gives what all of it gives, and cancels what all of it cancels less what fell away.
use Rattle.std.proofs.Common.{◌-◌}
use Rattle.sparse_rows.specs.Counts.{ahead}
use Rattle.sparse_rows.specs.Reduce.{Passes}
use Rattle.sparse_rows.proofs.Fallen.{Fallen}
use Rattle.sparse_rows.proofs.echelon.outer_row.Given as goal

abbrev pub invariant-loop-j : goal.invariant-loop-j
invariant-loop-j l =
    record {
      passes : Passes l.n l.m l.d l.i l.initial.j l.initial.numbers l.initial.words l.numbers l.words l.j;
      fallen : Fallen l.fallen (ahead l.n l.m l.d l.i l.numbers l.words l.j) (ahead l.n l.m l.d l.i l.initial.numbers l.initial.words l.initial.j);
    }

abbrev pub decreases-loop-j : goal.decreases-loop-j
decreases-loop-j l = l.d - l.j
