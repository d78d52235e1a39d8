-- Lent memory as lists: the stretch that stands from an index on, and what is written over one.
use Rattle.std.specs.Prelude.{List, ◌++◌, ℕ, ◌+◌, ◌-◌, length, take, drop, replicate}

-- the n elements from b on
unfoldable pub stretch : {A : Type 0} → ℕ → ℕ → List A → List A
stretch b n area = take n (drop b area)

-- the area with s written over what stands from b on
unfoldable pub put : {A : Type 0} → ℕ → List A → List A → List A
put b s area = take b area ++ (s ++ drop (b + length s) area)

-- k zeros
abbrev pub zeros : ℕ → List ℕ
zeros k = replicate k 0

-- the area with zeros from b up to e
abbrev pub zeroed : ℕ → ℕ → List ℕ → List ℕ
zeroed b e area = put b (replicate (e - b) 0) area

-- the area in which the n elements from p on and the n elements from q on have changed places
abbrev pub exchanged : {A : Type 0} → ℕ → ℕ → ℕ → List A → List A
exchanged p q n area = put p (stretch q n area) (put q (stretch p n area) area)

-- an area whose first `room` elements are zero and whose remainder is untouched
unfoldable pub cleared : ℕ → List ℕ → List ℕ
cleared room area = replicate room 0 ++ drop room area
