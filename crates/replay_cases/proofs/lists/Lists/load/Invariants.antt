use Rattle.std.proofs.Common.{map}
use Rattle.replay_cases.proofs.ListLoading.{Loading}
use Rattle.replay_cases.proofs.lists.Lists.load.Given as goal

abbrev pub invariant-loop-i : goal.invariant-loop-i
invariant-loop-i g l =
    Loading l.self.bytes.now l.head.at l.head.width l.head.count (map g.T.Listed.value l.fn.out) l.at l.i (map g.T.Listed.value l.out)
