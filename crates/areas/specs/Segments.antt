-- An area as segments, one after the other.
use Rattle.std.specs.Prelude.{List, [], ◌∷◌, ◌++◌, ℕ, zero, suc, ◌+◌, length}

-- the segments, one after the other
unfoldable pub joined : List (List ℕ) → List ℕ
joined [] = []
joined (s ∷ segs) = s ++ joined segs

-- where segment k begins
unfoldable pub offset : ℕ → List (List ℕ) → ℕ
offset zero segs = 0
offset (suc k) [] = 0
offset (suc k) (s ∷ segs) = length s + offset k segs
