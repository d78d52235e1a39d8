use Rattle.std.proofs.Common.{rules}
use Rattle.link_form.specs.Bytes.{power}
use Rattle.replay_cases.proofs.lists.U32Listed.listed.Goals as goal

pub overflow_cast-result : goal.overflow_cast-result
unfolding power
overflow_cast-result c = let h = c.requires in search rules
