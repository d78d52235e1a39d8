use Rattle.areas.specs.Stretch.{stretch}
use Rattle.areas.proofs.Cells.{Writing}
use Rattle.areas.proofs.copies.copy_down.Given as goal

abbrev pub invariant-loop-i : goal.invariant-loop-i
invariant-loop-i g l = Writing l.to (stretch l.from l.n l.initial.area) l.initial.area l.i l.area
