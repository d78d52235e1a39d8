-- Why the swap and the XOR may begin at the pivot's word: in every row from the rank on, the words before it are zero.
use mathlib.Core.Path.{◌≡◌, refl, sym, ◌∙◌, subst}
use mathlib.Core.List.{List, [], ◌∷◌}
use Prim.Native.Nat.{ℕ, suc, ◌*◌, ◌/◌, ◌^◌, ◌<◌, ◌≤◌}
use native.Mathlib.Omega.{arith}
use lib.ListN.{length, get_or, set, take, drop}
use lib.Bits.{bit_xor, xor_lt}
use Rattle.gf2.specs.Equation.{Each, eqn}
use Rattle.gf2.proofs.Each.{each_at, each_map, each_set, each_append, each_take, each_drop}
use Rattle.gf2.proofs.EachMap.{each_of_map, each_both}
use Rattle.dense_rows.specs.Bits.{Row, bit_at, columns_from, equations_of, xor_words}
use Rattle.dense_rows.specs.Steps.{from_word, no_row, swap_rows, xor_from, clear_row}
use Rattle.dense_rows.proofs.StepLaws.{Wide, WordSized, ZeroBefore, words_zero, clear_row_cases, swap_from_word, xor_from_word}
use Rattle.dense_walk.specs.Eliminate.{Step, passed, taken, column}
use Rattle.dense_walk.proofs.ColumnStep.{Stepped, pass, first, later, stepped, Good, step_leaves}
use Rattle.dense_walk.proofs.RowTheorems.{wide_good}

-- the rows from the rank on, as the walk comes to column c
pub data Reached (rows : List Row) : ℕ → List Row → Type 0 where
  begin : Reached rows 0 rows
  passed_over : {c : ℕ} {rest : List Row} → Reached rows c rest → column c rest ≡ passed → Reached rows (suc c) rest
  pivoted : {c : ℕ} {rest below : List Row} {pivot : Row} → Reached rows c rest → column c rest ≡ taken pivot below → Reached rows (suc c) below

-- ---- words of 64 bits stay so

abbrev Slim : Row → Type 0
Slim row = WordSized row.words

slim_xor : (a b : List ℕ) → WordSized a → WordSized b → WordSized (xor_words a b)
unfolding xor_words
slim_xor [] b h k = k
slim_xor (x ∷ a) [] h k = h
slim_xor (x ∷ a) (y ∷ b) h k = (xor_lt 64 x y h.0 k.0, slim_xor a b h.1 k.1)

slim_from_word : (k : ℕ) (a b : Row) → Slim a → Slim b → Slim (from_word k a b)
unfolding from_word
slim_from_word k a b h g =
    each_append (λ x. x < 2 ^ 64) (take k a.words) (drop k b.words) (each_take (λ x. x < 2 ^ 64) a.words k h) (each_drop (λ x. x < 2 ^ 64) b.words k g)

slim_xor_from : (k : ℕ) (p r : Row) → Slim p → Slim r → Slim (xor_from k p r)
unfolding xor_from
slim_xor_from k p r h g =
    each_append (λ x. x < 2 ^ 64) (take k r.words) (xor_words (drop k r.words) (drop k p.words)) (each_take (λ x. x < 2 ^ 64) r.words k g)
    (slim_xor (drop k r.words) (drop k p.words) (each_drop (λ x. x < 2 ^ 64) r.words k g) (each_drop (λ x. x < 2 ^ 64) p.words k h))

slim_cleared : (c : ℕ) (p r : Row) → Slim p → Slim r → Slim (clear_row c p r)
slim_cleared c p r h g = clear_row_cases Slim c p r (λ b. slim_xor_from (c / 64) p r h g) (λ b. g)

abbrev SlimStep : List Row → Step → Type 0
SlimStep rest passed = Each Slim rest
SlimStep rest (taken p below) = Each Slim below

step_slim : {c : ℕ} {rest : List Row} {s : Step} → Stepped c rest s → Each Slim rest → SlimStep rest s
step_slim (pass f) h = h
step_slim {c} (first {a} {below} e) h =
    let p = slim_from_word (c / 64) a a h.0 h.0 in
    each_of_map (clear_row c (from_word (c / 64) a a)) Slim Slim below (λ r g. slim_cleared c (from_word (c / 64) a a) r p g) h.1
step_slim {c} (later {a} {below} j l e) h =
    let d = get_or below j no_row in
    let hd = each_at Slim below no_row j l h.1 in
    let p = slim_from_word (c / 64) a d h.0 hd in
    each_of_map (clear_row c (from_word (c / 64) a d)) Slim Slim (set below j (from_word (c / 64) d a)) (λ r g. slim_cleared c (from_word (c / 64) a d) r p g)
    (each_set Slim below j (from_word (c / 64) d a) (slim_from_word (c / 64) d a hd h.0) h.1)

-- ---- along the walk

module _ (w : ℕ) (rows : List Row) (wide : Each (Wide w) rows) (sized : Each (λ row. WordSized row.words) rows) where
  reached_slim : {c : ℕ} {rest : List Row} → Reached rows c rest → Each Slim rest
  reached_slim begin = sized
  reached_slim (passed_over r e) = reached_slim r
  reached_slim (pivoted {c} {rest} r e) = subst (SlimStep rest) e (step_slim (stepped c rest) (reached_slim r))

  reached_good : {c : ℕ} {rest : List Row} → Reached rows c rest → c ≤ 64 * w → Each (Good w c) rest
  reached_good begin h = wide_good w rows wide
  reached_good (passed_over {c} {rest} r e) h = step_leaves w c (omega arith) (subst (Stepped c rest) e (stepped c rest)) (reached_good r (omega arith))
  reached_good (pivoted {c} {rest} r e) h = (step_leaves w c (omega arith) (subst (Stepped c rest) e (stepped c rest)) (reached_good r (omega arith))).2

  -- At column c the words before the column's word are zero in all rows from the rank on.
  pub words_before_zero : {c : ℕ} {rest : List Row} → Reached rows c rest → c ≤ 64 * w → Each (ZeroBefore (c / 64)) rest
  words_before_zero {c} {rest} r h =
      each_map rest (λ row g. words_zero c row.words g.0 g.1.1) (each_both Slim (Good w c) rest (reached_slim r) (reached_good r h))

  -- So rows that change places from that word on change places whole,
  pub swap_whole : {c : ℕ} {rest : List Row} → Reached rows c rest → c ≤ 64 * w → (i j : ℕ) → i < length rest → j < length rest
      → swap_rows (c / 64) i j rest ≡ set (set rest i (get_or rest j no_row)) j (get_or rest i no_row)
  swap_whole {c} {rest} r h i j hi hj =
      let z = words_before_zero r h in
      let g = reached_good r h in
      swap_from_word (c / 64) i j rest ((each_at (Good w c) rest no_row i hi g).0 ∙ sym (each_at (Good w c) rest no_row j hj g).0) (each_at (ZeroBefore (c / 64)) rest no_row i hi z)
      (each_at (ZeroBefore (c / 64)) rest no_row j hj z)

  -- and the XOR with one of them from that word on is the XOR of the whole rows.
  pub xor_whole : {c : ℕ} {rest : List Row} → Reached rows c rest → c < 64 * w → (i j : ℕ) → i < length rest → j < length rest
      → xor_from (c / 64) (get_or rest i no_row) (get_or rest j no_row)
      ≡ record { words = xor_words (get_or rest j no_row).words (get_or rest i no_row).words; c = bit_xor (get_or rest j no_row).c (get_or rest i no_row).c }
  xor_whole {c} {rest} r h i j hi hj =
      let g = reached_good r (omega arith) in
      let a = (each_at (Good w c) rest no_row i hi g).0 in
      let b = (each_at (Good w c) rest no_row j hj g).0 in
      xor_from_word (c / 64) (get_or rest i no_row) (get_or rest j no_row) (omega arith) (a ∙ sym b)
      (each_at (ZeroBefore (c / 64)) rest no_row i hi (words_before_zero r (omega arith)))

-- ---- one word late

-- {1} = 3 and {0} = 5: the second row has column 0
abbrev rows₀ : List Row
rows₀ = record { words = 2 ∷ []; c = 3 } ∷ record { words = 1 ∷ []; c = 5 } ∷ []

-- from the pivot's word, which is word 0: the two equations in the other order
from_the_word : equations_of 2 (swap_rows 0 0 1 rows₀) ≡ eqn (0 ∷ []) 5 ∷ eqn (1 ∷ []) 3 ∷ []
unfolding swap_rows from_word columns_from bit_at
from_the_word = refl

-- from the word after it: the constants change places and the columns do not, so each value goes to the other variable
one_word_late : equations_of 2 (swap_rows 1 0 1 rows₀) ≡ eqn (1 ∷ []) 5 ∷ eqn (0 ∷ []) 3 ∷ []
unfolding swap_rows from_word columns_from bit_at
one_word_late = refl

-- the XOR one word late leaves the pivot's column in the row
xor_one_word_late : equations_of 2 (xor_from 1 (record { words = 1 ∷ []; c = 5 }) (record { words = 3 ∷ []; c = 6 }) ∷ []) ≡ eqn (0 ∷ 1 ∷ []) 3 ∷ []
unfolding xor_from xor_words columns_from bit_at
xor_one_word_late = refl
