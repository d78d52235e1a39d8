-- Systems of the same equations, and the smallest solution of a system.
use mathlib.Core.Path.{◌≡◌, sym, ◌∙◌}
use mathlib.Core.Logic.{◌⊎◌, inl, inr}
use mathlib.Core.List.{List, Memᴰ, Permᴰ}
use Prim.Native.Nat.{ℕ}
use Rattle.gf2.specs.Equation.{Equation, Each, Sorted, Meets}
use Rattle.gf2.specs.Canonical.{Canonical, Before}
use Rattle.gf2.proofs.Each.{each_map, each_mem, each_from_mem}
use Rattle.gf2.proofs.Canon.{canonical_smallest, before_asym}
use Rattle.agreement.specs.Smallest.{Solution, Smallest, SameEquations}

-- ---- the same equations

pub same_sym : {es fs : List Equation} → SameEquations es fs → SameEquations fs es
same_sym s = record { forth = s.back; back = s.forth }

-- what holds of each equation of the one holds of each of the other
pub same_each : (P : Equation → Type 0) {es fs : List Equation} → SameEquations es fs → Each P es → Each P fs
same_each P {es} {fs} s h = each_map fs (λ f m. each_mem P m h) s.back

-- a list in another order has the same equations
pub reordered : {es fs : List Equation} → Permᴰ es fs → SameEquations es fs
reordered {es} {fs} p = record { forth = each_from_mem (λ e. Memᴰ e fs) es (λ e. moves p); back = each_from_mem (λ e. Memᴰ e es) fs (λ e. comes p) }
  where
    moves : {ks ls : List Equation} {e : Equation} → Permᴰ ks ls → Memᴰ e ks → Memᴰ e ls
    moves Permᴰ.nil h = h
    moves (Permᴰ.cons q r) (Memᴰ.head h) = Memᴰ.head (h ∙ q)
    moves (Permᴰ.cons q r) (Memᴰ.tail h) = Memᴰ.tail (moves r h)
    moves (Permᴰ.swap q r) (Memᴰ.head h) = Memᴰ.tail (Memᴰ.head (h ∙ q))
    moves (Permᴰ.swap q r) (Memᴰ.tail (Memᴰ.head h)) = Memᴰ.head (h ∙ r)
    moves (Permᴰ.swap q r) (Memᴰ.tail (Memᴰ.tail h)) = Memᴰ.tail (Memᴰ.tail h)
    moves (Permᴰ.trans q r) h = moves r (moves q h)

    comes : {ks ls : List Equation} {e : Equation} → Permᴰ ks ls → Memᴰ e ls → Memᴰ e ks
    comes Permᴰ.nil h = h
    comes (Permᴰ.cons q r) (Memᴰ.head h) = Memᴰ.head (h ∙ sym q)
    comes (Permᴰ.cons q r) (Memᴰ.tail h) = Memᴰ.tail (comes r h)
    comes (Permᴰ.swap q r) (Memᴰ.head h) = Memᴰ.tail (Memᴰ.head (h ∙ sym r))
    comes (Permᴰ.swap q r) (Memᴰ.tail (Memᴰ.head h)) = Memᴰ.head (h ∙ sym q)
    comes (Permᴰ.swap q r) (Memᴰ.tail (Memᴰ.tail h)) = Memᴰ.tail (Memᴰ.tail h)
    comes (Permᴰ.trans q r) h = comes q (comes r h)

-- ---- the smallest solution

-- the canonical solution is the smallest
pub canonical_is_smallest : (n : ℕ) (es : List Equation) (x : List ℕ) → Sorted es → Canonical n es x → Smallest n es x
canonical_is_smallest n es x s c = record {
  solves = record { size = c.size; meets = c.meets };
  first = λ z h. canonical_smallest n es x z s c h.size h.meets;
}

-- there is one at the most
pub smallest_unique : (n : ℕ) (es : List Equation) (x y : List ℕ) → Smallest n es x → Smallest n es y → x ≡ y
smallest_unique n es x y p q = go (p.first y q.solves) (q.first x p.solves)
  where
    go : (x ≡ y) ⊎ Before x y → (y ≡ x) ⊎ Before y x → x ≡ y
    go (inl e) h = e
    go (inr b) (inl e) = sym e
    go (inr b) (inr c) = absurd (before_asym x y b c)

-- it depends on which equations there are, and on nothing else
pub smallest_same : (n : ℕ) {es fs : List Equation} (x : List ℕ) → SameEquations es fs → Smallest n es x → Smallest n fs x
smallest_same n {es} {fs} x s p = record { solves = moved x p.solves s; first = λ z h. p.first z (moved z h (same_sym s)) }
  where
    moved : {ks ls : List Equation} (z : List ℕ) → Solution n ks z → SameEquations ks ls → Solution n ls z
    moved z h t = record { size = h.size; meets = same_each (Meets z) t h.meets }
