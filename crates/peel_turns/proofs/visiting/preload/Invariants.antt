use Rattle.peel_turns.proofs.StepLaws.{Preloading}
use Rattle.peel_turns.proofs.visiting.preload.Given as goal

-- the vertices below `v` are looked at
abbrev pub invariant-loop-v : goal.invariant-loop-v
invariant-loop-v l = Preloading l.fn.n l.fn.numbers l.fn.bytes l.numbers l.v l.top
