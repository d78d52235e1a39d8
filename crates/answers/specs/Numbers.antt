-- The number and the place of each answer: the table of the rules.
use Rattle.std.specs.Prelude.{ℕ}
use Rattle.answers.specs.Answers.{Answer}
use Rattle.answers.specs.Answers.{Solved, TooLarge, BadShape, BadEntry, WrongSolution, ShortArea, Unsolvable, CrowdedVertex, Stuck, BadFile, OutsideDomain}

abbrev pub number_of : Answer → ℕ
number_of Solved = 0
number_of TooLarge = 1
number_of BadShape = 2
number_of (BadEntry place) = 3
number_of WrongSolution = 4
number_of ShortArea = 5
number_of Unsolvable = 6
number_of (CrowdedVertex vertex) = 7
number_of (Stuck outside) = 8
number_of BadFile = 9
number_of OutsideDomain = 10

-- the lowest bad equation, row or edge; the lowest crowded vertex; how many edges are outside the core; else 0
abbrev pub place_of : Answer → ℕ
place_of Solved = 0
place_of TooLarge = 0
place_of BadShape = 0
place_of (BadEntry place) = place
place_of WrongSolution = 0
place_of ShortArea = 0
place_of Unsolvable = 0
place_of (CrowdedVertex vertex) = vertex
place_of (Stuck outside) = outside
place_of BadFile = 0
place_of OutsideDomain = 0
