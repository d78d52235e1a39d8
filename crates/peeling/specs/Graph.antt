-- The graph of both peelers: for each vertex the XOR of its edges' numbers, and a byte: its degree times 4 plus the XOR of its sides.
use Rattle.std.specs.Prelude.{List, Bool, ◌&&◌, ℕ, ◌+◌, ◌-◌, ◌/◌, ◌%◌, length, get_or, set, leb, ltb}
use Rattle.std.specs.Int.Bits.{bit_xor}

-- the two lent slices
pub record Graph : Type 0 where
  pub edges : List ℕ
  pub degrees : List ℕ

abbrev pub graph_of : List ℕ → List ℕ → Graph
graph_of edges degrees = record { edges = edges; degrees = degrees }

-- v lies in both
abbrev pub holds_vertex : Graph → ℕ → Bool
holds_vertex g v = ltb v (length g.edges) && ltb v (length g.degrees)

abbrev pub degree_of : Graph → ℕ → ℕ
degree_of g v = get_or g.degrees v 0 / 4

abbrev pub sides_of : Graph → ℕ → ℕ
sides_of g v = get_or g.degrees v 0 % 4

-- edge i comes to vertex v, at side t; a byte that has no room begins anew
abbrev pub add : Graph → ℕ → ℕ → ℕ → Graph
add g v i t = record {
  edges = set g.edges v (bit_xor (get_or g.edges v 0) i);
  degrees = set g.degrees v (bit_xor ((get_or g.degrees v 0 + 4) % 256) t);
}

-- whether the byte of v has no room for one incidence more: the 64th has come
abbrev pub overflows : Graph → ℕ → Bool
overflows g v = leb 252 (get_or g.degrees v 0)

-- edge i leaves vertex v, at side t
abbrev pub remove : Graph → ℕ → ℕ → ℕ → Graph
remove g v i t = record {
  edges = set g.edges v (bit_xor (get_or g.edges v 0) i);
  degrees = set g.degrees v (bit_xor (get_or g.degrees v 0 - 4) t);
}

-- the degree of v is taken away; its edge and its side stay
abbrev pub clear : Graph → ℕ → Graph
clear g v = record { edges = g.edges; degrees = set g.degrees v (get_or g.degrees v 0 % 4) }
