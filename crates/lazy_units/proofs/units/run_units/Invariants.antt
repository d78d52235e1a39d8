-- The units so far lead to the same end; each leaves fewer.
use Rattle.std.proofs.Common.{List}
use Rattle.gf2.specs.Equation.{Equation}
use Rattle.lazy.specs.Lazy.{State}
use Rattle.lazy_units.specs.Ending.{UnitAt}
use Rattle.lazy_units.specs.Running.{left_of}
use Rattle.lazy_units.proofs.RunTurns.{Running}
use Rattle.lazy_units.proofs.units.run_units.Given as goal

abbrev pub invariant-loop-next : goal.invariant-loop-next
invariant-loop-next l =
    (sys : List Equation) (s : State) → UnitAt l.layout.n l.layout.m l.layout sys s l.fn.stand l.fn.numbers l.fn.words l.fn.solution
    → Running l.layout.n l.layout.m l.layout sys s l.at l.numbers l.words l.fn.solution l.solution l.cancelled

abbrev pub decreases-loop-next : goal.decreases-loop-next
decreases-loop-next l = left_of l.at
