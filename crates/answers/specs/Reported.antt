-- What a solver's call reports of its sums: 0 on a refusal, but that 6 covers the sums done until then.
use Rattle.std.specs.Prelude.{◌||◌, ℕ, eqb}
use Rattle.answers.specs.Answers.{Answer}
use Rattle.answers.specs.Numbers.{number_of}
use Rattle.answers.specs.Calls.{pick}

-- the total after 0 and 6, else 0
unfoldable pub reported : Answer → ℕ → ℕ
reported answer total = pick (eqb (number_of answer) 0 || eqb (number_of answer) 6) total 0
