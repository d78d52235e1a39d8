use Rattle.areas.specs.Stretch.{stretch}
use Rattle.areas.proofs.Cells.{WritingBack}
use Rattle.areas.proofs.copies.copy_up.Given as goal

abbrev pub invariant-loop-i : goal.invariant-loop-i
invariant-loop-i g l = WritingBack l.to (stretch l.from l.n l.initial.area) l.initial.area l.i l.area
