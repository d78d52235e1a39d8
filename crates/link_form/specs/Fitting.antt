-- What a file can hold, in numbers of w bytes.
use Rattle.std.specs.Prelude.{◌≡◌, List, ℕ, ◌≤◌, ◌<◌, length}
use Rattle.gf2.specs.Equation.{Equation, Each}
use Rattle.link_form.specs.Bytes.{power}
use Rattle.link_form.specs.File.{Link, sparse_kind, peel_kind, width, max_bytes, write_file}

-- a byte is below 256
abbrev pub AllBytes : List ℕ → Type 0
AllBytes bytes = Each (λ b. b < 256) bytes

-- an edge has three vertices; the count of any other row fits w bytes, as does each variable; the constant fits 64 bits
pub record RowFits (kind w : ℕ) (r : Equation) : Type 0 where
  pub three : kind ≡ peel_kind → length r.vars ≡ 3
  pub counted : (kind ≡ peel_kind → ⊥) → length r.vars < power w
  pub low : Each (λ v. v < power w) r.vars
  pub word : r.c < power 8

pub record LinkFits (f : Link) : Type 0 where
  pub lowest : sparse_kind ≤ f.kind
  pub highest : f.kind ≤ peel_kind
  pub few_variables : f.n < power width
  pub few_rows : length f.rows < power width
  pub each : Each (RowFits f.kind width) f.rows
  pub short : length (write_file f) ≤ max_bytes
