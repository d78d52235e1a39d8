use Rattle.peel_rules.proofs.PeelEmpty.{work}
use Rattle.peel_steps.specs.Pictures.{graph_in, stack_in}
use Rattle.peel_walks.proofs.FromLaws.{LoopFrom}
use Rattle.peel_walks.proofs.loops.peel_from.Given as goal

-- some pops of the rules' run are done, and the next edge is told
abbrev pub invariant-loop-h : goal.invariant-loop-h
invariant-loop-h g l = LoopFrom g.M.Memory.high l.fn.n l.fn.edges l.fn.numbers l.fn.bytes l.numbers l.bytes l.h

-- the vertices on the stack, and those that may come on it
abbrev pub decreases-loop-h : goal.decreases-loop-h
decreases-loop-h g l = work l.fn.n (graph_in l.fn.n l.numbers l.bytes) (stack_in l.fn.n l.h.stack l.numbers)
