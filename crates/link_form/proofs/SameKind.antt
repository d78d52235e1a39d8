-- Two kinds are one where their numbers are.
use mathlib.Core.Path.{◌≡◌, refl}
use lib.Dec.{eqb}
use denote.Enum.Bare.{sameb}
use Rattle.link_form.specs.contracts.kind.Kind.{the_type}
use Rattle.link_form.specs.declared.kind.Kind.{Kind}
use Rattle.link_form.specs.declared.kind.Kind.TheVariants.{Sparse, Lazy, Peel}
use Rattle.link_form.specs.Kinds.{number_of_kind}

pub same_kind : (a b : Kind) → sameb the_type a b ≡ eqb (number_of_kind a) (number_of_kind b)
same_kind Sparse Sparse = refl
same_kind Sparse Lazy = refl
same_kind Sparse Peel = refl
same_kind Lazy Sparse = refl
same_kind Lazy Lazy = refl
same_kind Lazy Peel = refl
same_kind Peel Sparse = refl
same_kind Peel Lazy = refl
same_kind Peel Peel = refl
