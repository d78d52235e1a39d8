-- An edge comes to the graph: three incidences, and the lowest vertex that has no room for one.
use Rattle.std.proofs.Common.{◌≡◌, refl, Bool, true, false, cond, ℕ, ◌<◌, min, ltb, Option, Some, None, arith}
use borrow.Author.Tests.{lt-ltb, ltb-true, ltb-false}
use Rattle.std.specs.Bool.{then_some}
use Rattle.peeling.specs.declared.numbers.Vertex.{Vertex}
use Rattle.peel_steps.specs.Lowest.{lower, vertex_or}

min_is : (a b : ℕ) → min a b ≡ cond (ltb a b) a b
min_is a b = go (ltb a b) refl
  where
    go : (t : Bool) → ltb a b ≡ t → min a b ≡ cond t a b
    go true q = omega (arith, ltb-true a b q)
    go false q = omega (arith, ltb-false a b q)

pub is_noted : (n : ℕ) (o : Bool) (v : Vertex) (low : Option Vertex) → v.0 < n
    → vertex_or n (lower (then_some o v) low) ≡ cond o (cond (ltb v.0 (vertex_or n low)) v.0 (vertex_or n low)) (vertex_or n low)
is_noted n false v low h = refl
is_noted n true v None h = rw (lt-ltb v.0 n h)
is_noted n true v (Some w) h = min_is v.0 w.0
