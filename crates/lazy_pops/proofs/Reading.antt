-- What stands in the numbers that show a state.
use mathlib.Core.Path.{◌≡◌, sym, ap, ◌∙◌}
use mathlib.Core.List.{List, [], ◌∷◌, map, reverse, reverse-cons}
use mathlib.Core.Bool.{false}
use Prim.Native.Nat.{ℕ, suc, ◌+◌, ◌-◌, ◌*◌, ◌≤◌, ◌<◌}
use native.Mathlib.Nat.{add-zero, zero-add, sub-zero}
use native.Mathlib.Omega.{arith}
use lib.ListN.{length, get_or, length-map, length-reverse, get_or-map}
use lib.Seq.{get_or_at}
use Rattle.gf2.specs.Equation.{Equation}
use Rattle.gf2.specs.ByNumber.{blank, row_of}
use Rattle.areas.specs.Segments.{joined, offset}
use Rattle.areas.specs.Stretch.{stretch}
use Rattle.areas.specs.Rows.{padded}
use Rattle.areas.proofs.Stretch.{stretch_whole}
use Rattle.areas.proofs.Rows.{stretch-padded, get_or-padded, stretch_row_all}
use Rattle.lazy.specs.Lazy.{State, listing}
use Rattle.lazy_setup.specs.declared.Layout.{Layout}
use Rattle.lazy_setup.specs.Area.{mark, segments, numbers_of}
use Rattle.lazy_setup.specs.Layout.{sizes}
use Rattle.lazy_setup.proofs.Offsets.{long, at_lengths, at_lists, at_starts, at_weight, at_variables, at_idle, at_priority, at_equations, at_solved, at_pivots, at_dense}
use Rattle.lazy_pops.specs.Laid.{Laid, listed}
use Rattle.lazy_pops.proofs.Segmented.{read_cell, read_part}
use Rattle.lazy_pops.proofs.Places.{segmented}
use Rattle.lazy_pops.proofs.Listings.{start_at, start_next, start_within, list_at}

module _ {n m : ℕ} {layout : Layout} {sys : List Equation} {s : State} {numbers : List ℕ} (d : Laid n m layout sys s numbers) where
  abbrev segs : List (List ℕ)
  segs = segments n sys s

  -- how long segment k is
  pub size : (k : ℕ) → length (get_or segs k []) ≡ get_or (sizes n m (listed n sys)) k 0
  size k = long n m (listed n sys) segs (segmented d).shape k

  pub lengths_place : offset 1 segs ≡ layout.lengths
  lengths_place = at_lengths n m (listed n sys) segs (segmented d).shape ∙ sym (ap (λ (l : Layout). l.lengths) d.placed)

  pub lists_place : offset 2 segs ≡ layout.lists
  lists_place = at_lists n m (listed n sys) segs (segmented d).shape ∙ sym (ap (λ (l : Layout). l.lists) d.placed)

  pub starts_place : offset 3 segs ≡ layout.starts
  starts_place = at_starts n m (listed n sys) segs (segmented d).shape ∙ sym (ap (λ (l : Layout). l.starts) d.placed)

  pub weight_place : offset 4 segs ≡ layout.weight
  weight_place = at_weight n m (listed n sys) segs (segmented d).shape ∙ sym (ap (λ (l : Layout). l.weight) d.placed)

  pub variables_place : offset 5 segs ≡ layout.variables
  variables_place = at_variables n m (listed n sys) segs (segmented d).shape ∙ sym (ap (λ (l : Layout). l.variables) d.placed)

  pub idle_place : offset 6 segs ≡ layout.idle
  idle_place = at_idle n m (listed n sys) segs (segmented d).shape ∙ sym (ap (λ (l : Layout). l.idle) d.placed)

  pub priority_place : offset 8 segs ≡ layout.priority
  priority_place = at_priority n m (listed n sys) segs (segmented d).shape ∙ sym (ap (λ (l : Layout). l.priority) d.placed)

  pub equations_place : offset 9 segs ≡ layout.equations
  equations_place = at_equations n m (listed n sys) segs (segmented d).shape ∙ sym (ap (λ (l : Layout). l.equations) d.placed)

  pub solved_place : offset 10 segs ≡ layout.solved
  solved_place = at_solved n m (listed n sys) segs (segmented d).shape ∙ sym (ap (λ (l : Layout). l.solved) d.placed)

  pub pivots_place : offset 11 segs ≡ layout.pivots
  pivots_place = at_pivots n m (listed n sys) segs (segmented d).shape ∙ sym (ap (λ (l : Layout). l.pivots) d.placed)

  pub dense_place : offset 13 segs ≡ layout.dense
  dense_place = at_dense n m (listed n sys) segs (segmented d).shape ∙ sym (ap (λ (l : Layout). l.dense) d.placed)

  -- ---- one number

  pub read_length : (e : ℕ) → e < m → get_or numbers (layout.lengths + e) 0 ≡ length (row_of s.rows e).vars
  unfolding segments
  read_length e h = read_cell (segmented d) 1 layout.lengths lengths_place e (rw (size 1) h) ∙ get_or-map (λ (r : Equation). length r.vars) s.rows e blank

  pub read_weight : (v : ℕ) → v < n → get_or numbers (layout.weight + v) 0 ≡ get_or s.weight v 0
  unfolding segments
  read_weight v h = read_cell (segmented d) 4 layout.weight weight_place v (rw (size 4) h)

  pub read_idle : (v : ℕ) → v < n → get_or numbers (layout.idle + v) 0 ≡ mark (get_or s.idle v false)
  unfolding segments
  read_idle v h = read_cell (segmented d) 6 layout.idle idle_place v (rw (size 6) h) ∙ get_or-map mark s.idle v false

  pub read_priority : (e : ℕ) → e < m → get_or numbers (layout.priority + e) 0 ≡ get_or s.priority e 0
  unfolding segments
  read_priority e h = read_cell (segmented d) 8 layout.priority priority_place e (rw (size 8) h)

  -- the next variable, and the top of the equation list
  pub read_variable : (v : ℕ) (vs : List ℕ) → s.variables ≡ v ∷ vs → get_or numbers (layout.variables + length vs) 0 ≡ v
  unfolding segments
  read_variable v vs q =
      let l = d.sized.variables in let q' = ap (λ (l : List ℕ). length l) q in
      read_cell (segmented d) 5 layout.variables variables_place (length vs) (rw (size 5) (omega arith))
      ∙ get_or-padded n (length vs) (reverse s.variables)
      ∙ ap (λ (l : List ℕ). get_or (reverse l) (length vs) 0) q
      ∙ rw (reverse-cons v vs) (get_or_at (reverse vs) v [] 0 (length vs) (length-reverse vs))

  pub read_equation : (e : ℕ) (es : List ℕ) → s.equations ≡ e ∷ es → get_or numbers (layout.equations + length es) 0 ≡ e
  unfolding segments
  read_equation e es q =
      let l = d.sized.equations in let q' = ap (λ (l : List ℕ). length l) q in
      read_cell (segmented d) 9 layout.equations equations_place (length es) (rw (size 9) (omega (arith, d.many)))
      ∙ get_or-padded (length sys) (length es) (reverse s.equations)
      ∙ ap (λ (l : List ℕ). get_or (reverse l) (length es) 0) q
      ∙ rw (reverse-cons e es) (get_or_at (reverse es) e [] 0 (length es) (length-reverse es))

  -- ---- stretches

  pub priorities_at : stretch layout.priority m numbers ≡ s.priority
  unfolding segments
  priorities_at =
      let z = d.sized.priority in
      ap (λ (o : ℕ). stretch o m numbers) (sym (add-zero layout.priority))
      ∙ read_part (segmented d) 8 layout.priority priority_place 0 m (rw (size 8) (omega arith))
      ∙ ap (λ (k : ℕ). stretch 0 k s.priority) (d.many ∙ sym z) ∙ stretch_whole s.priority

  pub stack_at : stretch layout.equations (length s.equations) numbers ≡ reverse s.equations
  unfolding segments
  stack_at =
      let z = d.sized.equations in
      ap (λ (o : ℕ). stretch o (length s.equations) numbers) (sym (add-zero layout.equations))
      ∙ read_part (segmented d) 9 layout.equations equations_place 0 (length s.equations) (rw (size 9) (omega (arith, d.many)))
      ∙ ap (λ (k : ℕ). stretch 0 k (padded (length sys) (reverse s.equations))) (sym (length-reverse s.equations)) ∙ stretch-padded (length sys) (reverse s.equations)

  -- ---- the equations of a variable

  pub from_at : (v : ℕ) → v ≤ n → get_or numbers (layout.starts + v) 0 ≡ start_at sys 0 0 n v
  unfolding segments
  from_at v h = read_cell (segmented d) 3 layout.starts starts_place v (rw (size 3) (omega arith))

  pub to_at : (v : ℕ) → v < n → get_or numbers (layout.starts + v + 1) 0 ≡ start_at sys 0 0 n v + length (listing sys v)
  to_at v h =
      let e : layout.starts + v + 1 ≡ layout.starts + suc v = omega arith in
      let f = start_next sys 0 0 n v h in
      rw e (from_at (suc v) h ∙ (rw (zero-add v) at f))

  pub listing_at : (v : ℕ) → v < n → stretch (layout.lists + get_or numbers (layout.starts + v) 0) (get_or numbers (layout.starts + v + 1) 0 - get_or numbers (layout.starts + v) 0) numbers ≡ listing sys v
  unfolding segments
  listing_at v h =
      let a : ℕ = start_at sys 0 0 n v in
      let w = start_within sys 0 0 n (suc v) h in
      let x = start_next sys 0 0 n v h in
      let y : start_at sys 0 0 n v + length (listing sys v) ≤ listed n sys = omega (arith, (rw (zero-add v) at x)) in
      let e : start_at sys 0 0 n v + length (listing sys v) - start_at sys 0 0 n v ≡ length (listing sys v) = omega arith in
      rw (from_at v (omega arith), to_at v h, e)
      (read_part (segmented d) 2 layout.lists lists_place a (length (listing sys v)) (rw (size 2) y)
      ∙ (let l = list_at sys 0 0 n v h in rw (sub-zero, zero-add v) at l))

  -- ---- the rows

  pub row_at : (e : ℕ) → e < m → stretch (e * n) (length (row_of s.rows e).vars) numbers ≡ (row_of s.rows e).vars
  unfolding segments numbers_of joined
  row_at e h =
      let g = get_or-map (λ (r : Equation). r.vars) s.rows e blank in
      let k : e < length (map (λ (r : Equation). r.vars) s.rows) = rw (length-map s.rows (λ (r : Equation). r.vars)) (omega (arith, d.many, d.sized.rows)) in
      rw (d.shown, ← g) (stretch_row_all n e (map (λ (r : Equation). r.vars) s.rows) _ d.sized.narrow k)
