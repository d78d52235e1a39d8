use Rattle.std.proofs.Common.{arith}
use Rattle.areas.proofs.Cells.{writing_begin, writing_turn, writing_end}
use Rattle.lazy_setup.proofs.Loading.{length_spans, span_at}
use Rattle.lazy_setup.proofs.load.write_lengths.Goals as goal

pub loop-i-init : goal.loop-i-init
loop-i-init c = writing_begin _ _ _ (omega (arith, length_spans c.args.system.now.m c.args.system.now.starts.now))

pub loop-i-preserved : goal.loop-i-preserved
loop-i-preserved c =
    let s = c.args.system.now in
    writing_turn _ c.loop-i.invariant (omega (arith, length_spans s.m s.starts.now)) (span_at s.m s.starts.now c.loop-i.i c.loop-i-test.true)

pub returns : goal.returns
returns c = writing_end c.loop-i.invariant (omega (arith, length_spans c.args.system.now.m c.args.system.now.starts.now))
