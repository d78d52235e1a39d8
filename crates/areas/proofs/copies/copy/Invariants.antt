use Rattle.areas.proofs.Cells.{Writing}
use Rattle.areas.proofs.copies.copy.Given as goal

abbrev pub invariant-loop-i : goal.invariant-loop-i
invariant-loop-i g l = Writing l.at l.src l.initial.area l.i l.area
