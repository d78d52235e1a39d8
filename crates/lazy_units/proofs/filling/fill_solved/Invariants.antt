-- What is left to fill in leads to the same end.
use Rattle.std.proofs.Common.{◌≡◌, List, drop}
use Rattle.gf2.specs.Equation.{Equation}
use Rattle.lazy.specs.Lazy.{State, fill}
use Rattle.lazy_units.specs.Ending.{FillAt}
use Rattle.lazy_units.proofs.filling.fill_solved.Given as goal

abbrev pub invariant-loop-i : goal.invariant-loop-i
invariant-loop-i l =
    (sys : List Equation) (s : State) → FillAt l.layout.n l.layout.m l.layout sys s l.k l.numbers l.words
    → fill s.rows (drop l.i s.solved) l.solution ≡ fill s.rows s.solved l.initial.solution
