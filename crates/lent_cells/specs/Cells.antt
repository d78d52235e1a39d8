-- What a call must leave of a lent area whose cells all held the mark.
use Rattle.std.specs.Prelude.{Bool, true, false, List, ℕ, ltb, nat_eq, length, take, replicate}
use Rattle.std.specs.Cmp.Lexicographic.{pointwise}
use Rattle.areas.specs.Stretch.{cleared}

abbrev pub mark : ℕ
mark = 165

abbrev pub zero_or : Bool → ℕ → ℕ
zero_or true x = 0
zero_or false x = x

-- 0 in the room, the mark past it
abbrev pub left_at : ℕ → ℕ → ℕ
left_at room i = zero_or (ltb i room) mark

-- as long, and cell for cell the same: what `==` says of two slices of numbers
abbrev pub same_cells : List ℕ → List ℕ → Bool
same_cells = pointwise nat_eq

-- n marked cells of which the room has been cleared, as the calls' definitions clear it
abbrev pub leaves : ℕ → ℕ → List ℕ
leaves room n = take n (cleared room (replicate n mark))

-- the room is zero, and the remainder as it was lent
abbrev pub left_cells : ℕ → List ℕ → Bool
left_cells room cells = same_cells cells (leaves room (length cells))
