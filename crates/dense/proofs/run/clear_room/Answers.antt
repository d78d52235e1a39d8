-- Zeros from 0 up to the room are the cleared room.
use Rattle.dense.proofs.Running.{zeroed_cleared}
use Rattle.dense.proofs.run.clear_room.Goals as goal

pub returns-clause-numbers_after : goal.returns-clause-numbers_after
returns-clause-numbers_after c = zeroed_cleared _ _ _ c.fill.ensures

pub returns-clause-words_after : goal.returns-clause-words_after
returns-clause-words_after c = zeroed_cleared _ _ _ c.fill-2.ensures
