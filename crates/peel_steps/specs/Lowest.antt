-- The lowest vertex of a crowd of edges, as the code keeps it: the rules say n where there is none.
use Rattle.std.specs.Prelude.{ℕ, min, Option, Some, None}
use Rattle.peeling.specs.declared.numbers.Vertex.{Vertex}

abbrev pub vertex_or : ℕ → Option Vertex → ℕ
vertex_or n None = n
vertex_or n (Some v) = v.0

abbrev pub lower : Option Vertex → Option Vertex → Option Vertex
lower None b = b
lower (Some v) None = Some v
lower (Some v) (Some w) = Some (record { 0 = min v.0 w.0 })
