use Rattle.std.proofs.Common.{refl}
use Rattle.dense_steps.proofs.xor_row.Goals as goal

pub returns : goal.returns
returns c = record { same = record { same_m = refl; same_w = refl; same_reference = refl }; became = c.xor_row_in.ensures }
