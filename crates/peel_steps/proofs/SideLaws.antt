-- The vertex from which an edge is peeled.
use Rattle.std.proofs.Common.{ℕ, ◌<◌}
use Rattle.peeling.specs.declared.numbers.Edge.{Edge}
use Rattle.peel_rules.specs.Edges.{Valid, Side, side0, side1, side2, pivot}

pub pivot< : {n : ℕ} {e : Edge} → Valid n e → (s : Side) → pivot s e < n
unfolding pivot
pivot< v side0 = v.a<
pivot< v side1 = v.b<
pivot< v side2 = v.c<
