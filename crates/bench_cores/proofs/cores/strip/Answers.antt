use Rattle.bench_cores.proofs.Stripping.{stripping_turn, stripping_end}
use Rattle.bench_cores.proofs.cores.strip.Goals as goal
use Rattle.bench_cores.proofs.cores.strip.Goals.{then-strip_one, else-strip_one}

pub loop-i-preserved : goal.loop-i-preserved
loop-i-preserved c =
    let turn = stripping_turn c.loop-i.invariant c.loop-i-test.true c.strip_one.ensures in
    elim c.if-strip_one.branch [
      | then-strip_one w ↦ rw w.gone-is (rw w.if-strip_one.true at turn)
      | else-strip_one w ↦ rw w.gone-is (rw w.if-strip_one.false at turn)
    ]

pub returns-clause-stripped : goal.returns-clause-stripped
returns-clause-stripped c = stripping_end c.loop-i.invariant c.loop-i-test.false
