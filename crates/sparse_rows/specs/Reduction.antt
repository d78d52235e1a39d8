-- What comes of an elimination of rows; in the code a result.
use Rattle.std.specs.Prelude.{Result, Ok, Err}
use Rattle.rows.specs.declared.counted.Unsolvable.{Unsolvable as NoValues}

pub data Reduction : Type 0 where
  Unsolvable : Reduction
  Reduced : Reduction

abbrev pub Outcome : Type 0
Outcome = Result (Unit {0}) NoValues

abbrev pub reduction_of : Outcome → Reduction
reduction_of (Ok x) = Reduced
reduction_of (Err e) = Unsolvable
