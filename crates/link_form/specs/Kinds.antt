-- The kinds of a file in the code, and the numbers that stand for them in its bytes.
use Rattle.std.specs.Prelude.{◌≡◌, ℕ, ◌<◌, ◌⊎◌, Result, MatchResult}
use Rattle.answers.specs.declared.refusal.Refusal.{Refusal}
use Rattle.answers.specs.declared.refusal.Refusal.TheVariants.{BadFile}
use Rattle.link_form.specs.declared.kind.Kind.{Kind}
use Rattle.link_form.specs.declared.kind.Kind.TheVariants.{Sparse, Lazy, Peel}
use Rattle.link_form.specs.File.{sparse_kind, lazy_kind, peel_kind}

abbrev pub number_of_kind : Kind → ℕ
number_of_kind Sparse = sparse_kind
number_of_kind Lazy = lazy_kind
number_of_kind Peel = peel_kind

-- the kind of that number, and sparse elimination where there is none
abbrev pub StandsFor : ℕ → Kind → Type 0
StandsFor number kind = (number_of_kind kind ≡ number) ⊎ ((kind ≡ Sparse) × ((number < sparse_kind) ⊎ (peel_kind < number)))

-- the kind of that number, or 9 where there is none
abbrev pub NamesKind : ℕ → Result Kind Refusal → Type 0
NamesKind number r =
    MatchResult r (λ kind. number_of_kind kind ≡ number) (λ refusal. (refusal ≡ BadFile) × ((number < sparse_kind) ⊎ (peel_kind < number)))
