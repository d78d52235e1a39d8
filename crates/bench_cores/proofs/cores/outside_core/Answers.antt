use Rattle.std.proofs.Common.{arith}
use Rattle.bench_cores.proofs.Stripping.{rounds_begin, rounds_end}
use Rattle.bench_cores.proofs.cores.outside_core.Goals as goal

pub loop-round-init : goal.loop-round-init
loop-round-init c = rounds_begin c.args.edges.now (omega arith)

pub returns : goal.returns
returns c = rounds_end c.loop-round.invariant c.loop-round-test.false
