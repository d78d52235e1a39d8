use Rattle.std.proofs.Common.{arith}
use Rattle.peel_turns.proofs.StepLaws.{next_none, next_idle, next_busy}
use Rattle.peel_turns.proofs.visiting.next_edge.Goals as goal

pub returns-then-stack-eq0 : goal.returns-then-stack-eq0
returns-then-stack-eq0 c = next_none c.args.n c.args.stack c.args.numbers.now c.args.bytes.now c.if-stack-eq0.true

pub degree_at-requires : goal.degree_at-requires
degree_at-requires c = let v = c.requires.top< (omega (arith, c.if-stack-eq0.false)) in omega (arith, v, c.requires.holds.room_b)

pub returns-then-degree_at-eq0 : goal.returns-then-degree_at-eq0
returns-then-degree_at-eq0 c = next_idle c.args.n c.args.stack c.args.numbers.now c.args.bytes.now c.if-stack-eq0.false c.degree_at.ensures c.if-degree_at-eq0.true

pub number_at-requires : goal.number_at-requires
number_at-requires c = let v = c.requires.top< (omega (arith, c.if-stack-eq0.false)) in omega (arith, v, c.requires.holds.room)

pub returns : goal.returns
returns c = next_busy c.args.n c.args.stack c.args.numbers.now c.args.bytes.now c.if-stack-eq0.false c.degree_at.ensures c.if-degree_at-eq0.false (omega (arith, c.number_at.ensures))
