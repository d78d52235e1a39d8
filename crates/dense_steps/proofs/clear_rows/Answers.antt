use Rattle.std.proofs.Common.{refl}
use Rattle.dense_steps.proofs.clear_rows.Goals as goal

pub returns : goal.returns
returns c = record { same = record { same_m = refl; same_w = refl; same_reference = refl }; became = c.clear_rows_in.ensures }
