-- Membership in a list of numbers, as an equation between truth values.
use mathlib.Core.Path.{◌≡◌, refl, sym, ap, ◌∙◌}
use mathlib.Core.Logic.{◌≢◌, ◌⊎◌, inl, inr}
use mathlib.Core.List.{List, [], ◌∷◌}
use mathlib.Core.Bool.{Bool, true, false, ◌&&◌, ◌||◌, true≢false, false≢true}
use Prim.Native.Nat.{ℕ}
use lib.Dec.{eqb}
use Rattle.gf2.specs.Equation.{Each, Increasing, lists}
use Rattle.gf2.specs.NumberLists.{Distinct}
use Rattle.gf2.proofs.Tests.{eqb_same, eqb_true}
use Rattle.gf2.proofs.VarLists.{above_not_listed}

-- ---- tests

-- are two numbers equal? with the test's value
pub data Same (a b : ℕ) : Type 0 where
  eq : a ≡ b → eqb a b ≡ true → Same a b
  ne : a ≢ b → eqb a b ≡ false → Same a b

pub same? : (a b : ℕ) → Same a b
same? a b = go (eqb a b) refl
  where
    go : (t : Bool) → eqb a b ≡ t → Same a b
    go true e = eq (eqb_true a b e) e
    go false e = ne (λ p. false≢true (sym e ∙ ap (λ x. eqb x b) p ∙ eqb_same b)) e

pub or_false : (a b : Bool) → (a || b) ≡ false → (a ≡ false) × (b ≡ false)
or_false true b h = absurd (true≢false h)
or_false false b h = (refl, h)

pub or_true : (a b : Bool) → (a || b) ≡ true → (a ≡ true) ⊎ (b ≡ true)
or_true true b h = inl refl
or_true false b h = inr h

pub or_r : (a : Bool) {b : Bool} → b ≡ true → (a || b) ≡ true
or_r true e = refl
or_r false e = e

pub or_assoc : (a b c : Bool) → (a || (b || c)) ≡ ((a || b) || c)
or_assoc true b c = refl
or_assoc false b c = refl

pub and_true : (a b : Bool) → (a && b) ≡ true → (a ≡ true) × (b ≡ true)
and_true true b h = (refl, h)
and_true false b h = absurd (false≢true h)

-- a number in a list, and one that is not
pub listed_differ : (e f : ℕ) (l : List ℕ) → lists e l ≡ true → lists f l ≡ false → e ≢ f
listed_differ e f l p q r = true≢false (sym p ∙ ap (λ x. lists x l) r ∙ q)

-- what holds of the first and of the others holds of all
pub on_cons : (P : ℕ → Type 0) (v : ℕ) (vs : List ℕ) → P v → ((u : ℕ) → lists u vs ≡ true → P u) → (u : ℕ) → lists u (v ∷ vs) ≡ true → P u
unfolding lists
on_cons P v vs hv hvs u k = go (same? u v)
  where
    go : Same u v → P u
    go (eq r t) = rw r hv
    go (ne r t) = hvs u (rw t at k)

pub head_listed : (v : ℕ) (vs : List ℕ) → lists v (v ∷ vs) ≡ true
unfolding lists
head_listed v vs = ap (λ t. t || lists v vs) (eqb_same v)

pub tail_listed : (u v : ℕ) (vs : List ℕ) → lists u vs ≡ true → lists u (v ∷ vs) ≡ true
unfolding lists
tail_listed u v vs h = or_r (eqb u v) h

-- an increasing list is distinct
pub increasing_distinct : (l : List ℕ) → Increasing l → Distinct l
increasing_distinct [] h = tt
increasing_distinct (v ∷ vs) h = (above_not_listed v vs h.0, increasing_distinct vs h.1)

-- ---- each and listed

pub listed_each : (P : ℕ → Type 0) (l : List ℕ) → ((w : ℕ) → lists w l ≡ true → P w) → Each P l
listed_each P [] h = tt
listed_each P (v ∷ vs) h = (h v (head_listed v vs), listed_each P vs (λ w k. h w (tail_listed w v vs k)))

pub each_listed : (P : ℕ → Type 0) (l : List ℕ) → Each P l → (w : ℕ) → lists w l ≡ true → P w
unfolding lists
each_listed P [] h w k = absurd (false≢true k)
each_listed P (v ∷ vs) h w k = on_cons P v vs h.0 (each_listed P vs h.1) w k
