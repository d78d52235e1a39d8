-- How a unit ends; in the code a result.
use Rattle.std.specs.Prelude.{Result, Ok, Err}
use Rattle.lazy_setup.specs.declared.Stand.{Stand}
use Rattle.rows.specs.declared.counted.Unsolvable.{Unsolvable as NoValues}

-- there is more to do, or the build is solved or refused
pub data Step : Type 0 where
  More : Stand → Step
  Solved : Step
  Unsolvable : Step

-- what a pop hands back
abbrev pub step_of : Result Stand NoValues → Step
step_of (Ok stand) = More stand
step_of (Err e) = Unsolvable
