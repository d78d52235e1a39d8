-- The rows of a number are read as those of the kind that stands for it.
use mathlib.Core.Path.{◌≡◌, refl, sym, ap, ◌∙◌}
use mathlib.Core.Bool.{true, false}
use mathlib.Core.List.{List, [], ◌∷◌}
use mathlib.Core.Option.{Option, none}
use mathlib.Core.Logic.{inl, inr}
use Prim.Native.Nat.{ℕ, zero, suc}
use native.Mathlib.Omega.{arith}
use lib.ListN.{length, drop}
use lib.Dec.{eqb, leb}
use borrow.Author.Tests.{ne_eqb}
use Rattle.gf2.specs.Equation.{Equation}
use Rattle.link_form.specs.declared.kind.Kind.{Kind}
use Rattle.link_form.specs.declared.rows.Rows.{Rows}
use Rattle.link_form.specs.File.{lazy_kind, peel_kind, width, header_bytes, count_bytes, count, row_bytes, row, before, read_rows}
use Rattle.link_form.specs.Kinds.{number_of_kind, StandsFor}
use Rattle.link_form.specs.Lent.{Served}
use Rattle.link_form.specs.Rows.{count_bytes_of, count_of, rows_of, StartAt}

module _ {number : ℕ} {kind : Kind} (s : StandsFor number kind) where
  pub edges_alike : eqb (number_of_kind kind) peel_kind ≡ eqb number peel_kind
  edges_alike = elim s [
    | inl e ↦ ap (λ (k : ℕ). eqb k peel_kind) e
    | inr h ↦
        ap (λ (k : Kind). eqb (number_of_kind k) peel_kind) h.0
        ∙ sym (ne_eqb number peel_kind (λ e. elim h.1 [ inl low ↦ omega arith | inr high ↦ omega arith ]))
  ]

  pub lazily_alike : eqb (number_of_kind kind) lazy_kind ≡ eqb number lazy_kind
  lazily_alike = elim s [
    | inl e ↦ ap (λ (k : ℕ). eqb k lazy_kind) e
    | inr h ↦
        ap (λ (k : Kind). eqb (number_of_kind k) lazy_kind) h.0
        ∙ sym (ne_eqb number lazy_kind (λ e. elim h.1 [ inl low ↦ omega arith | inr high ↦ omega arith ]))
  ]

  pub count_bytes_alike : (w : ℕ) → count_bytes (number_of_kind kind) w ≡ count_bytes number w
  count_bytes_alike w = rw edges_alike

  pub count_alike : (w : ℕ) (bytes : List ℕ) → count (number_of_kind kind) w bytes ≡ count number w bytes
  unfolding count
  count_alike w bytes = rw edges_alike

  row_bytes_alike : (w : ℕ) (bytes : List ℕ) → row_bytes (number_of_kind kind) w bytes ≡ row_bytes number w bytes
  unfolding row_bytes
  row_bytes_alike w bytes = rw (count_alike w bytes, edges_alike)

  row_alike : (w : ℕ) (bytes : List ℕ) → row (number_of_kind kind) w bytes ≡ row number w bytes
  unfolding row
  row_alike w bytes = rw (count_alike w bytes, edges_alike)

  pub rows_alike : (w m : ℕ) (bytes : List ℕ) → read_rows (number_of_kind kind) w m bytes ≡ read_rows number w m bytes
  unfolding read_rows
  rows_alike w zero [] = refl
  rows_alike w zero (b ∷ bytes) = refl
  rows_alike w (suc m) bytes =
      let n = row_bytes_alike w bytes in
      let rest : ◌≡◌ {A = Option (List Equation)} (read_rows (number_of_kind kind) w m (drop (row_bytes (number_of_kind kind) w bytes) bytes)) (read_rows number w m (drop (row_bytes number w bytes) bytes)) =
      ap (λ (k : ℕ). read_rows (number_of_kind kind) w m (drop k bytes)) n ∙ rows_alike w m (drop (row_bytes number w bytes) bytes) in
      whole (length bytes) n (row_alike w bytes) rest
    where
      whole : (l : ℕ) {a b : ℕ} {r q : Equation} {o p : Option (List Equation)} → a ≡ b → r ≡ q → o ≡ p
          → ◌≡◌ {A = Option (List Equation)} (elim (leb a l) [ true ↦ before r o | false ↦ none ]) (elim (leb b l) [ true ↦ before q p | false ↦ none ])
      whole l {a} {b} {r} {q} {o} {p} ea er eo =
          ap (λ (x : ℕ). elim (leb x l) [ true ↦ before r o | false ↦ none ]) ea
          ∙ ap (λ (x : Equation). elim (leb b l) [ true ↦ before x o | false ↦ none ]) er
          ∙ ap (λ (x : Option (List Equation)). elim (leb b l) [ true ↦ before q x | false ↦ none ]) eo

  -- a file that is served is served by the kind that stands for its number
  pub served_alike : {n m : ℕ} {bytes : List ℕ} → Served number n m bytes → Served (number_of_kind kind) n m bytes
  served_alike {n} {m} {bytes} f =
      let e = rows_alike width m (drop header_bytes bytes) in
      record { whole = rw e f.whole; header = f.header; short = f.short; few_variables = f.few_variables; few_rows = f.few_rows; few_listed = rw e f.few_listed }

-- the rows from `at` on are those that the definitions read there
module _ {bytes : List ℕ} {at kind w : ℕ} {rows : Rows} (s : StartAt bytes at kind w rows) where
  pub count_bytes_there : count_bytes_of rows ≡ count_bytes kind w
  count_bytes_there = rw s.width_is (count_bytes_alike s.kind_stands w)

  pub count_there : count_of rows ≡ count kind w (drop at bytes)
  count_there = rw (s.width_is, s.rest) (count_alike s.kind_stands w (drop at bytes))

  pub rows_there : (m : ℕ) → rows_of m rows ≡ read_rows kind w m (drop at bytes)
  rows_there m = rw (s.width_is, s.rest) (rows_alike s.kind_stands w m (drop at bytes))
