-- What the lazy rules determine of a solved system, without their steps.
use Rattle.std.specs.Prelude.{◌≡◌, ◌⊎◌, List, Bool, true, false, ℕ, ◌<◌, ◌^◌, length, get_or}
use Rattle.gf2.specs.ByNumber.{row_of, lists_at, MeetsRows}
use Rattle.gf2.specs.Equation.{Equation}
use Rattle.lazy.specs.Invariant.{Stopping, TakenBefore}

-- v is in a stopping set without active variables that are taken before v
pub record Chosen (sys : List Equation) (active : ℕ → Bool) (v : ℕ) : Type 0 where
  pub S : ℕ → Bool
  pub holds : S v ≡ true
  pub stopping : Stopping sys S
  pub spared : (u : ℕ) → active u ≡ true → TakenBefore sys u v → S u ≡ false

-- two solutions that agree on the variables of P agree on v
abbrev pub Fixed : List Equation → (ℕ → Type 0) → ℕ → Type 0
Fixed sys P v = (y z : List ℕ) → MeetsRows y sys → MeetsRows z sys → ((u : ℕ) → P u → get_or y u 0 ≡ get_or z u 0) → get_or y v 0 ≡ get_or z v 0

pub record Described (n : ℕ) (sys : List Equation) (x : List ℕ) : Type 0 where
  pub size : length x ≡ n
  pub meets : MeetsRows x sys
  pub active : ℕ → Bool
  -- a listed variable is active exactly if it is chosen
  pub why : (v : ℕ) → active v ≡ true → Chosen sys active v
  pub because : (v e : ℕ) → lists_at sys v e ≡ true → Chosen sys active v → active v ≡ true
  -- an active variable is 0 unless the active ones above it fix it
  pub lowest : (v : ℕ) → active v ≡ true → (get_or x v 0 ≡ 0) ⊎ Fixed sys (λ u. (active u ≡ true) × (v < u)) v
  -- the active variables fix the others
  pub others : (v e : ℕ) → lists_at sys v e ≡ true → active v ≡ false → Fixed sys (λ u. active u ≡ true) v
  pub unlisted : (v : ℕ) → ((e : ℕ) → lists_at sys v e ≡ false) → get_or x v 0 ≡ 0
  -- constants of k digits give values of k digits
  pub small : (k : ℕ) → ((e : ℕ) → (row_of sys e).c < 2 ^ k) → (v : ℕ) → get_or x v 0 < 2 ^ k
