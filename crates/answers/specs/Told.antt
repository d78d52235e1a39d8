-- What a solver's call tells, in the numbers of the rules, and what it leaves.
use Rattle.std.specs.Prelude.{◌≡◌, List, ℕ}
use Rattle.answers.specs.Numbers.{number_of, place_of}
use Rattle.answers.specs.Calls.{Call}

-- number and place, and every lent cell, are as the definition of the call says
pub record Tells (c : Call) (number place : ℕ) (solution numbers words : List ℕ) : Type 0 where
  pub number_is : number ≡ number_of c.answer
  pub place_is : place ≡ place_of c.answer
  pub solution_is : solution ≡ c.solution
  pub numbers_are : numbers ≡ c.numbers
  pub words_are : words ≡ c.words
