-- What is still to be read stands before what is written.
use Rattle.std.proofs.Common.{◌∙◌, ◌<◌, sym, arith}
use Rattle.areas.proofs.Stretch.{length-stretch, get_or-stretch}
use Rattle.areas.proofs.Cells.{back_begin, back_next, back_before, back_end}
use Rattle.areas.proofs.copies.copy_up.Goals as goal

pub loop-i-init : goal.loop-i-init
loop-i-init g c = back_begin _ _ _ _ (length-stretch c.args.from c.args.n c.args.area.now (omega arith)) c.requires.1

pub loop-i-preserved : goal.loop-i-preserved
loop-i-preserved g c =
    let e = length-stretch c.args.from c.args.n c.args.area.now (omega arith) in
    let some = c.loop-i.invariant.some in
    let more : 0 < c.loop-i.i = omega arith in
    let read = c.index-area-from.is ∙ back_before _ _ c.loop-i.invariant (omega arith) ∙ sym (get_or-stretch _ _ _ _ _ (omega arith)) in
    back_next _ _ c.loop-i.invariant more read

pub returns : goal.returns
returns g c = back_end c.loop-i.invariant (omega arith)
