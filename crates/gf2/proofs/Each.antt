-- What holds of each element of a list.
use mathlib.Core.Path.{refl, sym, subst}
use mathlib.Core.List.{List, [], ◌∷◌, ◌++◌, Memᴰ}
use Prim.Native.Nat.{ℕ, zero, suc, ◌<◌, zero-le, suc-le-suc}
use native.Mathlib.Nat.{not-suc-le-zero, le_of_suc-le-suc}
use lib.ListN.{get_or, length, set, take, drop}
use Rattle.gf2.specs.Equation.{Each}

pub each_at : {A : Type 0} (P : A → Type 0) (l : List A) (d : A) (i : ℕ) → i < length l → Each P l → P (get_or l i d)
each_at P [] d i h k = absurd (not-suc-le-zero h)
each_at P (a ∷ l) d zero h k = k.0
each_at P (a ∷ l) d (suc i) h k = each_at P l d i (le_of_suc-le-suc h) k.1

pub each_from : {A : Type 0} (P : A → Type 0) (l : List A) (d : A) → ((i : ℕ) → i < length l → P (get_or l i d)) → Each P l
each_from P [] d f = tt
each_from P (a ∷ l) d f = (f zero (suc-le-suc zero-le), each_from P l d (λ i h. f (suc i) (suc-le-suc h)))

pub each_map : {A : Type 0} {P Q : A → Type 0} (l : List A) → ((a : A) → P a → Q a) → Each P l → Each Q l
each_map [] f k = tt
each_map (a ∷ l) f k = (f a k.0, each_map l f k.1)

pub each_mem : {A : Type 0} (P : A → Type 0) {a : A} {l : List A} → Memᴰ a l → Each P l → P a
each_mem P (Memᴰ.head e) k = subst P (sym e) k.0
each_mem P (Memᴰ.tail h) k = each_mem P h k.1

pub each_from_mem : {A : Type 0} (P : A → Type 0) (l : List A) → ((a : A) → Memᴰ a l → P a) → Each P l
each_from_mem P [] f = tt
each_from_mem P (a ∷ l) f = (f a (Memᴰ.head refl), each_from_mem P l (λ b h. f b (Memᴰ.tail h)))

pub each_set : {A : Type 0} (P : A → Type 0) (l : List A) (i : ℕ) (a : A) → P a → Each P l → Each P (set l i a)
each_set P [] i a p h = tt
each_set P (b ∷ l) zero a p h = (p, h.1)
each_set P (b ∷ l) (suc i) a p h = (h.0, each_set P l i a p h.1)

pub each_append : {A : Type 0} (P : A → Type 0) (k l : List A) → Each P k → Each P l → Each P (k ++ l)
each_append P [] l h g = g
each_append P (a ∷ k) l h g = (h.0, each_append P k l h.1 g)

pub each_take : {A : Type 0} (P : A → Type 0) (l : List A) (i : ℕ) → Each P l → Each P (take i l)
each_take P l zero h = tt
each_take P [] (suc i) h = tt
each_take P (a ∷ l) (suc i) h = (h.0, each_take P l i h.1)

pub each_drop : {A : Type 0} (P : A → Type 0) (l : List A) (i : ℕ) → Each P l → Each P (drop i l)
each_drop P l zero h = h
each_drop P [] (suc i) h = tt
each_drop P (a ∷ l) (suc i) h = each_drop P l i h.1

pub each_all : {A : Type 0} (Q : A → Type 0) (l : List A) → ((a : A) → Q a) → Each Q l
each_all Q [] f = tt
each_all Q (a ∷ l) f = (f a, each_all Q l f)
