-- The equation is added into those before k.
use Rattle.std.proofs.Common.{ℕ, List}
use Rattle.gf2.specs.Equation.{Equation}
use Rattle.lazy.specs.Lazy.{State}
use Rattle.lazy_pops.specs.Adding.{AddsAt}
use Rattle.lazy_pops.proofs.AddTurns.{Adding}
use Rattle.lazy_pops.proofs.solving.add_listed.Given as goal

abbrev pub invariant-loop-k : goal.invariant-loop-k
invariant-loop-k l =
    (sys : List Equation) (s : State) (v : ℕ) → AddsAt l.layout.n l.layout.m l.layout sys s v l.list l.count l.e l.initial.numbers l.initial.words
    → Adding l.layout.n l.layout.m l.layout sys s v l.list l.count l.e l.numbers l.words l.cancelled l.k
