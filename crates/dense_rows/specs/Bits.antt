-- A row of bits: column c is bit c mod 64 of word c div 64. Its reading as an equation.
use Rattle.std.specs.Prelude.{◌≡◌, List, [], ◌∷◌, map, Bool, true, false, ◌&&◌, ℕ, zero, suc, ◌/◌, ◌%◌, ◌^◌, ◌<◌, get_or, drop, eqb}
use Rattle.std.specs.Int.Bits.{bit_xor}
use Rattle.gf2.specs.Equation.{Equation, eqn}

-- a row: its words and its constant
pub record Row : Type 0 where
  pub words : List ℕ
  pub c : ℕ

-- bit c mod 64 of word c div 64
unfoldable pub bit_at : ℕ → List ℕ → Bool
bit_at c words = eqb (get_or words (c / 64) 0 / 2 ^ (c % 64) % 2) 1

-- no column below c is set
abbrev pub Clear : ℕ → List ℕ → Type 0
Clear c words = (v : ℕ) → v < c → bit_at v words ≡ false

-- has the row the column c?
abbrev pub has_bit : ℕ → Row → Bool
has_bit c row = bit_at c row.words

-- the set columns of k, from column c on, in order
unfoldable pub columns_from : ℕ → ℕ → List ℕ → List ℕ
columns_from zero c words = []
columns_from (suc k) c words = elim (bit_at c words) [ true ↦ c ∷ columns_from k (suc c) words | false ↦ columns_from k (suc c) words ]

-- the set columns below n
abbrev pub columns : ℕ → List ℕ → List ℕ
columns n words = columns_from n 0 words

-- a row of n columns as an equation: the XOR of its set columns' values is its constant
abbrev pub equation_of : ℕ → Row → Equation
equation_of n row = eqn (columns n row.words) row.c

abbrev pub equations_of : ℕ → List Row → List Equation
equations_of n rows = map (equation_of n) rows

-- no bit set, in the first of the words from bit b on
unfoldable pub empty_from : ℕ → List ℕ → Bool
empty_from b [] = true
empty_from b (word ∷ words) = eqb (word / 2 ^ b) 0 && empty_from 0 words

-- no bit at column n or above
abbrev pub row_fits : ℕ → List ℕ → Bool
row_fits n words = empty_from (n % 64) (drop (n / 64) words)

-- the set bits of the k lowest of a word, numbered from b on, in order
unfoldable pub set_bits : ℕ → ℕ → ℕ → List ℕ
set_bits zero b word = []
set_bits (suc k) b word = elim (eqb (word % 2) 1) [ true ↦ b ∷ set_bits k (suc b) (word / 2) | false ↦ set_bits k (suc b) (word / 2) ]

-- the words of two rows XORed, one by one
unfoldable pub xor_words : List ℕ → List ℕ → List ℕ
xor_words [] ys = ys
xor_words (x ∷ xs) [] = x ∷ xs
xor_words (x ∷ xs) (y ∷ ys) = bit_xor x y ∷ xor_words xs ys
