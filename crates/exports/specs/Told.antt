-- What `check` says, as it is told to a program in another language: a number and a place.
use Rattle.std.specs.Prelude.{ℕ}
use Rattle.answers.specs.Numbers.{number_of, place_of}
use Rattle.answers.specs.Answers.{Solved, Unsolvable}
use Rattle.system_check.specs.CheckCall.{Checked, Refused, Yes, No}

-- `check`: a refusal's own number, 0 for yes and 6 for no
abbrev pub told_number : Checked → ℕ
told_number (Refused answer) = number_of answer
told_number Yes = number_of Solved
told_number No = number_of Unsolvable

abbrev pub told_place : Checked → ℕ
told_place (Refused answer) = place_of answer
told_place Yes = place_of Solved
told_place No = place_of Unsolvable
