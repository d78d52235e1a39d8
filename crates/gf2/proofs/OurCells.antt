-- A variable that an equation lists, and whether the equation's variables are ours.
use mathlib.Core.Path.{◌≡◌, sym, ap, ◌∙◌}
use mathlib.Core.List.{List, [], ◌∷◌}
use mathlib.Core.Bool.{Bool, true, ◌||◌, false≢true}
use Prim.Native.Nat.{ℕ}
use Rattle.gf2.specs.Equation.{lists}
use Rattle.gf2.specs.Ours.{any_ours, all_ours}
use Rattle.gf2.proofs.Members.{Same, eq, ne, same?, or_r, and_true}

-- where one of ours is listed, one is ours
pub any_listed : (P : ℕ → Bool) (v : ℕ) (vs : List ℕ) → lists v vs ≡ true → P v ≡ true → any_ours P vs ≡ true
unfolding any_ours lists
any_listed P v [] h p = absurd (false≢true h)
any_listed P v (u ∷ us) h p = go (same? v u) (any_listed P v us)
  where
    go : Same v u → (lists v us ≡ true → P v ≡ true → any_ours P us ≡ true) → (P u || any_ours P us) ≡ true
    go (eq r t) ih = rw (sym (ap P r) ∙ p)
    go (ne r t) ih = or_r (P u) (ih (rw t at h) p)

-- where all are ours, each that is listed is
pub all_listed : (P : ℕ → Bool) (v : ℕ) (vs : List ℕ) → all_ours P vs ≡ true → lists v vs ≡ true → P v ≡ true
unfolding all_ours lists
all_listed P v [] h l = absurd (false≢true l)
all_listed P v (u ∷ us) h l = go (same? v u) (and_true (P u) (all_ours P us) h) (all_listed P v us)
  where
    go : Same v u → (P u ≡ true) × (all_ours P us ≡ true) → (all_ours P us ≡ true → lists v us ≡ true → P v ≡ true) → P v ≡ true
    go (eq r t) k ih = ap P r ∙ k.0
    go (ne r t) k ih = ih k.1 (rw t at l)
