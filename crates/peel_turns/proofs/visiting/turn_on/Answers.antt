use Rattle.peel_turns.proofs.StepLaws.{turn_tops}
use Rattle.peel_turns.proofs.visiting.turn_on.Goals as goal

pub next_edge-next-requires : goal.next_edge-next-requires
next_edge-next-requires g c =
    turn_tops c.requires c.degree_at.ensures c.if-degree_at-eq0.false c.number_at.ensures c.side_at.ensures c.keep.ensures.numbers_after c.keep.ensures.bytes_after c.take_off-stack.ensures
