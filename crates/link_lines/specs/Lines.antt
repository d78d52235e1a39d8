-- The lines that tell an answer: numbers in decimal digits, a space between two, a newline at the end.
use Rattle.std.specs.Prelude.{List, [], ◌∷◌, ◌++◌, ℕ, ◌+◌, ◌*◌}
use Rattle.link_lines.specs.Decimal.{most_digits, decimal}

abbrev pub space : ℕ
space = 32

abbrev pub newline : ℕ
newline = 10

-- a number and the byte that ends it
unfoldable pub ended : ℕ → ℕ → List ℕ
ended x end = decimal x ++ (end ∷ [])

-- the letters LNK and a space
abbrev pub mark_text : List ℕ
mark_text = 76 ∷ 78 ∷ 75 ∷ space ∷ []

-- mark, version, kind, n, m
unfoldable pub header_line : ℕ → ℕ → ℕ → ℕ → List ℕ
header_line version kind n m = mark_text ++ (ended version space ++ (ended kind space ++ (ended n space ++ ended m newline)))

-- number and place
unfoldable pub answer_line : ℕ → ℕ → List ℕ
answer_line number place = ended number space ++ ended place newline

-- one value a line
unfoldable pub value_lines : List ℕ → List ℕ
value_lines [] = []
value_lines (v ∷ vs) = ended v newline ++ value_lines vs

-- ---- no number and no line is longer

abbrev pub most_ended : ℕ
most_ended = most_digits + 1

abbrev pub most_header : ℕ
most_header = 4 + 4 * most_ended

abbrev pub most_answer : ℕ
most_answer = 2 * most_ended
