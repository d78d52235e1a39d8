-- The numbers that a seed gives, and what is drawn from them.
use Rattle.std.specs.Prelude.{List, [], ◌∷◌, ℕ, zero, suc, ◌+◌, ◌-◌, ◌*◌, ◌/◌, ◌%◌, ◌^◌, ltb, eqb, get_or, set}
use Rattle.std.specs.Int.Bits.{bit_xor}
use Rattle.answers.specs.Calls.{pick}
use Rattle.peeling.specs.declared.numbers.Edge.{Edge}

-- ---- the generator

-- x << k on a 64-bit word
abbrev pub shifted : ℕ → ℕ → ℕ
shifted x k = x * 2 ^ k % 2 ^ 64

-- Marsaglia's xorshift64, its three steps
abbrev pub step13 : ℕ → ℕ
step13 x = bit_xor x (shifted x 13)

abbrev pub step7 : ℕ → ℕ
step7 x = bit_xor x (x / 2 ^ 7)

abbrev pub step17 : ℕ → ℕ
step17 x = bit_xor x (shifted x 17)

-- the number that is drawn, which is the next seed too
unfoldable pub next : ℕ → ℕ
next seed = step17 (step7 (step13 seed))

-- the seed after k draws
unfoldable pub after : ℕ → ℕ → ℕ
after zero seed = seed
after (suc k) seed = after k (next seed)

-- a number below the bound, from the high bits of the one that is drawn
abbrev pub below_of : ℕ → ℕ → ℕ
below_of bound seed = next seed / 2 ^ 16 % bound

-- k draws of so many bits
unfoldable pub values_of : ℕ → ℕ → ℕ → List ℕ
values_of bits zero seed = []
values_of bits (suc k) seed = next seed / 2 ^ (64 - bits) ∷ values_of bits k (next seed)

-- ---- systems

-- one of the m constants with another bit
abbrev pub spoilt : ℕ → ℕ → List ℕ → List ℕ
spoilt m seed constants =
    pick (eqb m 0) constants (set constants (below_of m seed) (bit_xor (get_or constants (below_of m seed) 0) (shifted 1 (below_of 64 (next seed)))))

-- two draws, or none
abbrev pub spoilt_seed : ℕ → ℕ → ℕ
spoilt_seed m seed = pick (eqb m 0) seed (after 2 seed)

-- ---- tables of edges

-- the number j of those that are left when i is taken away
abbrev pub passing : ℕ → ℕ → ℕ
passing j i = pick (ltb j i) j (j + 1)

-- three vertices round n, from the first on, and a value
abbrev pub edge_round : ℕ → ℕ → ℕ → ℕ → ℕ → Edge
edge_round n a i k value =
    record { a = record { 0 = (a + 0) % n }; b = record { 0 = (a + (i + 1)) % n }; c = record { 0 = (a + (k + 1)) % n }; value = value }

-- the first vertex below `hubs`, then two others, then the value
unfoldable pub edge_of : ℕ → ℕ → ℕ → Edge
edge_of n hubs seed =
    edge_round n (below_of hubs seed) (below_of (n - 1) (after 1 seed)) (passing (below_of (n - 2) (after 2 seed)) (below_of (n - 1) (after 1 seed))) (after 4 seed)

-- m edges, one after the other
unfoldable pub edges_of : ℕ → ℕ → ℕ → ℕ → List Edge
edges_of n hubs zero seed = []
edges_of n hubs (suc m) seed = edge_of n hubs seed ∷ edges_of n hubs m (after 4 seed)
