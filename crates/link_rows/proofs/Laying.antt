-- The arrays that hold a file's rows, cut to their lengths, are the system of these rows.
use mathlib.Core.Path.{◌≡◌, ap, ◌∙◌}
use mathlib.Core.List.{List}
use Prim.Native.Nat.{ℕ, ◌+◌}
use lib.ListN.{length, take, drop}
use lib.Seq.{take_at}
use mathlib.Core.Bool.{true, false}
use denote.Enum.Bare.{sameb}
use Rattle.gf2.specs.Equation.{Equation}
use Rattle.areas.specs.Stretch.{put}
use Rattle.system.specs.Fits.{listed_in}
use Rattle.sparse_rules.specs.SparseCall.{sparse_call}
use Rattle.lazy_calls.specs.LazyCall.{lazy_call}
use Rattle.link_form.specs.contracts.kind.Kind.{the_type}
use Rattle.link_form.specs.declared.kind.Kind.{Kind}
use Rattle.link_form.specs.declared.kind.Kind.TheVariants.{Lazy}
use Rattle.link_form.specs.Kinds.{number_of_kind, StandsFor}
use Rattle.link_form.proofs.SameKind.{same_kind}
use Rattle.link_form.proofs.Standing.{lazily_alike}
use Rattle.link_load.specs.Loading.{starts_of, vars_of, constants_of}
use Rattle.link_load.proofs.LaidRows.{length_starts, length_vars, length_constants}
use Rattle.link_rows.specs.RowsCall.{solver_of, laid_call, rows_call}

-- ---- the solver of a kind

-- by the code's test of the kind
pub lazy_solver : (kind : Kind) → true ≡ sameb the_type kind Lazy → solver_of (number_of_kind kind) ≡ lazy_call
unfolding solver_of
lazy_solver kind e = rw (← (same_kind kind Lazy), ← e)

pub sparse_solver : (kind : Kind) → false ≡ sameb the_type kind Lazy → solver_of (number_of_kind kind) ≡ sparse_call
unfolding solver_of
sparse_solver kind e = rw (← (same_kind kind Lazy), ← e)

-- by a number, or by the kind that stands for it
pub rows_call_alike : {number : ℕ} {kind : Kind} → StandsFor number kind → (n : ℕ) (rows : List Equation) (solution : List ℕ)
    → rows_call (number_of_kind kind) n rows solution ≡ rows_call number n rows solution
unfolding solver_of
rows_call_alike s n rows solution = rw (lazily_alike s)

-- ---- the arrays

-- what is written from the front on stands at the front
front : (k : ℕ) (s l : List ℕ) → length s ≡ k → take k (put 0 s l) ≡ s
unfolding put
front k s l e = take_at s (drop (0 + length s) l) k e

pub laid_is : (kind n m t : ℕ) (rows : List Equation) (solution starts₀ vars₀ constants₀ starts vars constants : List ℕ) → length rows ≡ m → listed_in rows ≡ t
    → starts ≡ put 0 (starts_of rows) starts₀ → vars ≡ put 0 (vars_of rows) vars₀ → constants ≡ put 0 (constants_of rows) constants₀
    → laid_call kind n m (take (m + 1) starts) (take t vars) (take m constants) solution ≡ rows_call kind n rows solution
laid_is kind n m t rows solution starts₀ vars₀ constants₀ starts vars constants em et s v c =
    rw (
      s,
      v,
      c,
      front (m + 1) (starts_of rows) starts₀ (length_starts 0 rows ∙ ap (λ (k : ℕ). k + 1) em),
      front t (vars_of rows) vars₀ (length_vars rows ∙ et),
      front m (constants_of rows) constants₀ (length_constants rows ∙ em),
      em,
    )
