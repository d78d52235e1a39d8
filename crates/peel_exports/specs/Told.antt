-- What a peeler's call answers, as it is told to a program in another language.
use Rattle.std.specs.Prelude.{◌≡◌, List, ℕ, Float}
use Rattle.answers.specs.Numbers.{number_of, place_of}
use Rattle.answers.specs.Answers.{Answer}
use Rattle.peel_rules.specs.Calls.{PeelCall}
use Rattle.answers.specs.declared.refusal.StuckReport.{StuckReport}

-- number and place are the answer's, the counts and the percentage the report's
pub record TellsReport (answer : Answer) (report : StuckReport) (number place peeled total : ℕ) (unpeeled : Float) : Type 0 where
  pub number_is : number ≡ number_of answer
  pub place_is : place ≡ place_of answer
  pub peeled_is : peeled ≡ report.peeled
  pub total_is : total ≡ report.edges
  pub unpeeled_is : unpeeled ≡ report.unpeeled

-- what is told and every lent cell are as the definition of the call says
pub record Tells (c : PeelCall) (number place peeled total : ℕ) (unpeeled : Float) (solution numbers bytes : List ℕ) : Type 0 where
  pub told : TellsReport c.answer c.report number place peeled total unpeeled
  pub solution_is : solution ≡ c.solution
  pub numbers_are : numbers ≡ c.numbers
  pub bytes_are : bytes ≡ c.bytes
