use Rattle.std.proofs.Common.{refl, inl, inr}
use Rattle.link_form.proofs.kind.Kind.standing_for.Goals as goal

pub returns-in-Ok : goal.returns-in-Ok
returns-in-Ok c = inl (rw c.in-Ok.is at c.try_from.ensures)

pub returns-in-Err : goal.returns-in-Err
returns-in-Err c = let h = rw c.in-Err.is at c.try_from.ensures in inr (refl, h.1)
