-- Equation i as it is read.
use mathlib.Core.Path.{refl}
use Rattle.areas.specs.Stretch.{stretch}
use Rattle.system.specs.System.{equation_at}
use Rattle.system.proofs.System.variables.Goals as goal

pub returns : goal.returns
unfolding equation_at stretch
returns c = refl
