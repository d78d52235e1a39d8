use Rattle.std.proofs.Common.{sym, ◌∙◌}
use Rattle.bench_cores.specs.Counted.{dead, stays, goes}
use Rattle.bench_cores.proofs.cores.strip_one.Goals as goal
use Rattle.bench_cores.proofs.cores.strip_one.Goals.{else-alive-i-via-then-alive-i+else-hangs, else-alive-i-via-else-alive-i}

pub returns-then-hangs : goal.returns-then-hangs
returns-then-hangs c = goes c.if-alive-i.true (sym c.hangs.ensures ∙ c.if-hangs.true)

pub returns : goal.returns
returns c =
    elim c.else-alive-i.branch [
      | else-alive-i-via-then-alive-i+else-hangs w ↦ stays (sym w.hangs.ensures ∙ w.if-hangs.false)
      | else-alive-i-via-else-alive-i w ↦ dead w.if-alive-i.false
    ]
