use Rattle.peel_rules.proofs.PeelEmpty.{first<, second<}
use Rattle.peel_steps.proofs.SideLaws.{pivot<}
use Rattle.peel_steps.proofs.filling.fill_one.Goals as goal

pub bounds-solution-x : goal.bounds-solution-x
bounds-solution-x c = rw c.first_of-x.ensures (first< c.requires _)

pub bounds-solution-y : goal.bounds-solution-y
bounds-solution-y c = rw c.second_of-y.ensures (second< c.requires _)

pub bounds-solution-v : goal.bounds-solution-v
bounds-solution-v c = rw c.vertex_at-v.ensures (pivot< c.requires _)
