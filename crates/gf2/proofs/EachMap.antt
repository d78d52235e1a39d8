-- What holds of each element of a list that is mapped, joined, or of which one element is written.
use mathlib.Core.Path.{◌∙◌, subst}
use mathlib.Core.List.{List, [], ◌∷◌, ◌++◌, map}
use Prim.Native.Nat.{ℕ}
use lib.ListN.{get_or, set}
use lib.Seq.{set-set, set-get_or}
use Rattle.gf2.specs.Equation.{Each}
use Rattle.gf2.proofs.Each.{each_set}

module _ {A B : Type 0} (f : A → B) where
  pub each_of_map : (P : A → Type 0) (Q : B → Type 0) (l : List A) → ((a : A) → P a → Q (f a)) → Each P l → Each Q (map f l)
  each_of_map P Q [] g h = tt
  each_of_map P Q (a ∷ l) g h = (g a h.0, each_of_map P Q l g h.1)

  -- back from the mapped list, where P is known of each element
  pub each_from_map : (P : A → Type 0) (Q : B → Type 0) (R : A → Type 0) (l : List A) → ((a : A) → P a → Q (f a) → R a) → Each P l → Each Q (map f l) → Each R l
  each_from_map P Q R [] g h k = tt
  each_from_map P Q R (a ∷ l) g h k = (g a h.0 k.0, each_from_map P Q R l g h.1 k.1)

-- back from a list of which one element is written, where P is known of what stood there
pub each_unset : {A : Type 0} (P : A → Type 0) (l : List A) (i : ℕ) (a d : A) → P (get_or l i d) → Each P (set l i a) → Each P l
each_unset P l i a d p h =
    subst (λ k. Each P k) (set-set l i a (get_or l i d) ∙ set-get_or l i d) (each_set P (set l i a) i (get_or l i d) p h)

pub each_both : {A : Type 0} (P Q : A → Type 0) (l : List A) → Each P l → Each Q l → Each (λ a. P a × Q a) l
each_both P Q [] h k = tt
each_both P Q (a ∷ l) h k = ((h.0, k.0), each_both P Q l h.1 k.1)

-- each part of two lists, one after the other
pub each_front : {A : Type 0} (P : A → Type 0) (k l : List A) → Each P (k ++ l) → Each P k
each_front P [] l h = tt
each_front P (a ∷ k) l h = (h.0, each_front P k l h.1)

pub each_back : {A : Type 0} (P : A → Type 0) (k l : List A) → Each P (k ++ l) → Each P l
each_back P [] l h = h
each_back P (a ∷ k) l h = each_back P k l h.1
