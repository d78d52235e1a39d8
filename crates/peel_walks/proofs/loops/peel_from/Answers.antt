use Rattle.std.proofs.Common.{refl, arith}
use Rattle.peel_walks.proofs.PeelLaws.{loop_ends}
use Rattle.peel_walks.proofs.FromLaws.{starts_of, begins_from, next<, turn_on_asks, turned_on, turn_on_less}
use Rattle.peel_walks.proofs.loops.peel_from.Goals as goal

pub loop-h-init : goal.loop-h-init
loop-h-init g c = begins_from c.requires

pub offset_bounds-edges-h : goal.offset_bounds-edges-h
offset_bounds-edges-h g c = let i = next< c.requires c.loop-h.invariant c.loop-h-test.true in omega (arith, i, c.requires.lent.m_small)

pub bounds-edges-h : goal.bounds-edges-h
bounds-edges-h g c = next< c.requires c.loop-h.invariant c.loop-h-test.true

pub turn_on-h-requires : goal.turn_on-h-requires
turn_on-h-requires g c = turn_on_asks c.requires c.loop-h.invariant c.loop-h-test.true _ refl

pub loop-h-smaller : goal.loop-h-smaller
loop-h-smaller g c = turn_on_less c.requires c.loop-h.invariant c.loop-h-test.true _ refl _ _ _ c.turn_on-h.ensures

pub loop-h-preserved : goal.loop-h-preserved
loop-h-preserved g c = (turned_on c.requires c.loop-h.invariant c.loop-h-test.true _ refl _ _ _ c.turn_on-h.ensures).loop

pub returns : goal.returns
returns g c = loop_ends (starts_of c.requires) c.loop-h.invariant.loop c.loop-h-test.false
