-- Whether a list is strictly increasing, as a test that computes.
use Rattle.std.specs.Prelude.{List, [], ◌∷◌, Bool, true, ◌&&◌, ℕ, ltb}

-- each element is above the one before it, and the first is above p
unfoldable pub rises_from : ℕ → List ℕ → Bool
rises_from p [] = true
rises_from p (x ∷ xs) = ltb p x && rises_from x xs

-- the list is strictly increasing
unfoldable pub rises : List ℕ → Bool
rises [] = true
rises (x ∷ xs) = rises_from x xs
