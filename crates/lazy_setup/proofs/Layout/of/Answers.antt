use mathlib.Core.Path.{refl}
use Rattle.lazy_setup.specs.Layout.{layout_of}
use Rattle.lazy_setup.proofs.Layout.of.Goals as goal

pub returns : goal.returns
unfolding layout_of
returns c = refl
