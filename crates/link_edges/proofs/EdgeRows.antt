-- A row of kind 3 is an edge: three numbers and eight bytes.
use mathlib.Core.Path.{◌≡◌, sym, ◌∙◌}
use mathlib.Core.List.{List}
use Prim.Native.Nat.{ℕ, ◌+◌, ◌*◌}
use native.Mathlib.Omega.{arith}
use lib.ListN.{take, drop}
use lib.Seq.{drop-drop}
use Rattle.areas.specs.Stretch.{stretch}
use Rattle.peel_rules.specs.Edges.{edge}
use Rattle.link_form.specs.declared.kind.Kind.TheVariants.{Peel}
use Rattle.link_form.specs.declared.rows.Rows.{Rows}
use Rattle.link_form.specs.Bytes.{little, fields}
use Rattle.link_form.specs.File.{peel_kind, count, row_bytes, row}
use Rattle.link_form.specs.Rows.{row_bytes_of, row_of, Passed}
use Rattle.link_form.proofs.Scanning.{passed_more}
use Rattle.link_edges.specs.Edges.{edge_of}

pub edge_bytes : (rows : Rows) → rows.kind ≡ Peel → row_bytes_of rows ≡ 3 * rows.width + 8
unfolding row_bytes count
edge_bytes rows k = rw k (omega arith)

edge_fields : (w : ℕ) (bytes : List ℕ)
    → edge_of (row peel_kind w bytes) ≡ edge (little (take w bytes)) (little (take w (drop w bytes))) (little (take w (drop (w + w) bytes))) (little (take 8 (drop (w + w + w) bytes)))
unfolding edge_of row fields count stretch
edge_fields w bytes =
    let three : 0 + 3 * w ≡ w + w + w = omega arith in
    simp (drop-drop w w bytes, three)

same_edge : {a b c v a' b' c' v' : ℕ} → a ≡ a' → b ≡ b' → c ≡ c' → v ≡ v' → edge a b c v ≡ edge a' b' c' v'
same_edge ea eb ec ev = cc

-- three variables and a constant that are read one after the other
module _ {rows r₁ r₂ r₃ r₄ : Rows} (p₁ : Passed rows.width rows r₁) (p₂ : Passed r₁.width r₁ r₂) (p₃ : Passed r₂.width r₂ r₃) (p₄ : Passed 8 r₃ r₄) where
  two : Passed (rows.width + rows.width) rows r₂
  two = rw p₁.width at (passed_more p₁ p₂)

  three : Passed (rows.width + rows.width + rows.width) rows r₃
  three = rw two.width at (passed_more two p₃)

  pub edge_passed : Passed (3 * rows.width + 8) rows r₄
  edge_passed = let e : 3 * rows.width + 8 ≡ rows.width + rows.width + rows.width + 8 = omega arith in rw e (passed_more three p₄)

  pub edge_made : {a b c value : ℕ} → rows.kind ≡ Peel → a ≡ little (take rows.width rows.rest.now) → b ≡ little (take r₁.width r₁.rest.now) → c ≡ little (take r₂.width r₂.rest.now)
      → value ≡ little (take 8 r₃.rest.now) → edge a b c value ≡ edge_of (row_of rows)
  edge_made k ea eb ec ev =
      let b = rw (p₁.width, p₁.rest) at eb in
      let c = rw (two.width, two.rest) at ec in
      let v = rw three.rest at ev in
      same_edge ea b c v ∙ rw k (sym (edge_fields rows.width rows.rest.now))
