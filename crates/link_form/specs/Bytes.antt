-- Numbers in a file: w bytes, the low byte first.
use Rattle.std.specs.Prelude.{List, [], ◌∷◌, ◌++◌, ℕ, zero, suc, ◌+◌, ◌*◌, ◌/◌, ◌%◌, drop, take}
use Rattle.areas.specs.Stretch.{stretch}

-- the number that the bytes hold
unfoldable pub little : List ℕ → ℕ
little [] = 0
little (b ∷ bytes) = b + 256 * little bytes

-- the w bytes that hold a number
unfoldable pub bytes_of : ℕ → ℕ → List ℕ
bytes_of zero x = []
bytes_of (suc w) x = x % 256 ∷ bytes_of w (x / 256)

-- 256 to the w: no w bytes hold a number as large
unfoldable pub power : ℕ → ℕ
power zero = 1
power (suc w) = 256 * power w

-- the number in the w bytes from b on
abbrev pub field : ℕ → ℕ → List ℕ → ℕ
field w b bytes = little (stretch b w bytes)

-- the first k numbers of w bytes each
unfoldable pub fields : ℕ → ℕ → List ℕ → List ℕ
fields w zero bytes = []
fields w (suc k) bytes = little (take w bytes) ∷ fields w k (drop w bytes)

-- the numbers, w bytes each, one after the other
unfoldable pub all_bytes : ℕ → List ℕ → List ℕ
all_bytes w [] = []
all_bytes w (x ∷ xs) = bytes_of w x ++ all_bytes w xs
