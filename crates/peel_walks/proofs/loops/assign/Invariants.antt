use Rattle.std.proofs.Common.{◌≡◌}
use Rattle.peel_rules.specs.Peel.{fill}
use Rattle.peel_steps.specs.Pictures.{peeled_in}
use Rattle.peel_walks.proofs.loops.assign.Given as goal

-- the first `k` peeled edges are still to fill
abbrev pub invariant-loop-k : goal.invariant-loop-k
invariant-loop-k g l =
    fill (peeled_in g.M.Memory.high l.fn.edges l.fn.n l.k l.fn.numbers l.fn.bytes) l.solution
    ≡ fill (peeled_in g.M.Memory.high l.fn.edges l.fn.n l.fn.count l.fn.numbers l.fn.bytes) l.fn.solution
