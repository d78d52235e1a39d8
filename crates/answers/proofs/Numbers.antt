-- Number and place determine an answer.
use mathlib.Core.Path.{◌≡◌, refl, sym, ap₂, ◌∙◌}
use mathlib.Core.List.{[], ◌∷◌}
use Prim.Native.Nat.{ℕ}
use lib.ListN.{get_or}
use Rattle.answers.specs.Answers.{Answer}
use Rattle.answers.specs.Answers.{Solved, TooLarge, BadShape, BadEntry, WrongSolution, ShortArea, Unsolvable, CrowdedVertex, Stuck, BadFile, OutsideDomain}
use Rattle.answers.specs.Numbers.{number_of, place_of}

-- the answer that has this number and this place
meant : ℕ → ℕ → Answer
meant number place =
    get_or
    (Solved ∷ TooLarge ∷ BadShape ∷ BadEntry place ∷ WrongSolution ∷ ShortArea ∷ Unsolvable ∷ CrowdedVertex place ∷ Stuck place ∷ BadFile ∷ OutsideDomain ∷ [])
    number Solved

meant_of : (a : Answer) → meant (number_of a) (place_of a) ≡ a
unfolding meant
meant_of Solved = refl
meant_of TooLarge = refl
meant_of BadShape = refl
meant_of (BadEntry place) = refl
meant_of WrongSolution = refl
meant_of ShortArea = refl
meant_of Unsolvable = refl
meant_of (CrowdedVertex vertex) = refl
meant_of (Stuck outside) = refl
meant_of BadFile = refl
meant_of OutsideDomain = refl

pub same_answer : (a b : Answer) → number_of a ≡ number_of b → place_of a ≡ place_of b → a ≡ b
same_answer a b e f = sym (meant_of a) ∙ ap₂ meant e f ∙ meant_of b
