-- Our cells, and the edges among them.
use Rattle.std.specs.Prelude.{◌≡◌, List, [], ◌∷◌, Bool, cond, ℕ}
use Rattle.peeling.specs.declared.numbers.Edge.{Edge}

-- all three vertices are ours, or none
pub record Closed (ours : ℕ → Bool) (e : Edge) : Type 0 where
  pub same_b : ours e.b.0 ≡ ours e.a.0
  pub same_c : ours e.c.0 ≡ ours e.a.0

-- our edges, in their order
unfoldable pub keep : (ℕ → Bool) → List Edge → List Edge
keep ours [] = []
keep ours (e ∷ es) = cond (ours e.a.0) (e ∷ keep ours es) (keep ours es)
