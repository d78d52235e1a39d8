use Rattle.std.proofs.Common.{◌≡◌, replicate, take}
use Rattle.lent_cells.proofs.cells.mark.Given as goal

abbrev pub invariant-loop-cell : goal.invariant-loop-cell
invariant-loop-cell g l = take l.cell-index l.cells ≡ replicate l.cell-index g.T.Cell.MARK
