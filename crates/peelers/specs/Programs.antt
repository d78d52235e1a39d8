-- The edges that a program has by value.
use Rattle.std.specs.Prelude.{ℕ, ltb}
use Rattle.answers.specs.Calls.{pick}

abbrev pub at_most256 : ℕ → ℕ
at_most256 m = pick (ltb 256 m) 256 m
