-- What is still to be read stands past what is written.
use Rattle.std.proofs.Common.{◌∙◌, ◌<◌, sym, length, arith}
use Rattle.areas.specs.Stretch.{stretch}
use Rattle.areas.proofs.Stretch.{length-stretch, get_or-stretch}
use Rattle.areas.proofs.Cells.{writing_begin, writing_next, writing_past, writing_end}
use Rattle.areas.proofs.copies.copy_down.Goals as goal

pub loop-i-init : goal.loop-i-init
loop-i-init g c =
    let e = length-stretch c.args.from c.args.n c.args.area.now c.requires.1 in
    writing_begin _ _ _ (omega arith)

pub loop-i-preserved : goal.loop-i-preserved
loop-i-preserved g c =
    let e = length-stretch c.args.from c.args.n c.args.area.now c.requires.1 in
    let within : c.loop-i.i < length (stretch c.args.from c.args.n c.args.area.now) = omega arith in
    let read = c.index-area-from.is ∙ writing_past _ _ c.loop-i.invariant (omega arith) ∙ sym (get_or-stretch _ _ _ _ _ (omega arith)) in
    writing_next _ _ c.loop-i.invariant within read

pub returns : goal.returns
returns g c =
    let e = length-stretch c.args.from c.args.n c.args.area.now c.requires.1 in
    writing_end c.loop-i.invariant (omega arith)
