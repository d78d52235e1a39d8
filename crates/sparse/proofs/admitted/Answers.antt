-- The room is asked of a system that keeps its rules.
use Rattle.std.proofs.Common.{sym}
use Rattle.system.proofs.Soundness.{kept_sound}
use Rattle.sparse.proofs.admitted.Goals as goal

pub sparse_numbers-room-requires : goal.sparse_numbers-room-requires
sparse_numbers-room-requires c = let k = kept_sound _ _ _ _ _ (sym c.in_ok-rules.ensures) in (k.few_variables, k.few_equations)
