use Rattle.std.proofs.Common.{ℕ, ◌<◌, get_or}
use Rattle.replay_cases.specs.declared.lend.Way.TheVariants.{Exact}
use Rattle.replay_cases.specs.Ways.{SaysYes}
use Rattle.replay_cases.proofs.ways.each_way.Given as goal

abbrev pub invariant-loop-way : goal.invariant-loop-way
invariant-loop-way g l =
    (k : ℕ) → k < l.way-index → SaysYes g.F.Fn l.judge g.C.Cell.MARK l.room l.said (get_or l.ways k Exact)
