-- The solved equations filled in, one after the other.
use mathlib.Core.Path.{◌≡◌, ap, ◌∙◌}
use mathlib.Core.List.{List, ◌∷◌, map}
use Prim.Native.Nat.{ℕ, ◌+◌, ◌-◌, ◌*◌, ◌≤◌, ◌<◌}
use native.Mathlib.Nat.{add-sub_cancel_left}
use native.Mathlib.Numerals.{add-one}
use native.Mathlib.Omega.{arith}
use lib.ListN.{length, get_or, set, take, drop, length-map, length-append, drop_of_length-le, get_or-map, get_or-append}
use lib.Seq.{drop-cons}
use lib.Bits.{bit_xor}
use Rattle.gf2.specs.Equation.{Equation, Each, Rising, eval_vars}
use Rattle.gf2.specs.ByNumber.{blank, row_of}
use Rattle.gf2.proofs.Each.{each_at}
use Rattle.gf2.proofs.Order.{rising_below}
use Rattle.gf2.proofs.SymDiff.{rising_length}
use Rattle.areas.specs.Rows.{padded}
use Rattle.areas.specs.Stretch.{stretch}
use Rattle.areas.proofs.Offsets.{row_before}
use Rattle.areas.proofs.Rows.{get_or-padded}
use Rattle.lazy.specs.Lazy.{State, Solved, fill}
use Rattle.lazy_setup.specs.declared.Layout.{Layout}
use Rattle.lazy_setup.specs.Area.{segments, words_of}
use Rattle.lazy_pops.specs.Laid.{Laid}
use Rattle.lazy_pops.proofs.Places.{places, segmented}
use Rattle.lazy_pops.proofs.Reading as reading
use Rattle.lazy_pops.proofs.Segmented.{read_cell}
use Rattle.lazy_units.specs.Ending.{MeetFits, met, FillAt}

-- the part that is lent to `eval_vars`
pub part_is : (p l : ℕ) (numbers : List ℕ) → take (p + l - p) (drop p numbers) ≡ stretch p l numbers
unfolding stretch
part_is p l numbers = rw (add-sub_cancel_left p l)

abbrev nothing : Solved
nothing = record { equation = 0; pivot = 0 }

module _ {n m : ℕ} {layout : Layout} {sys : List Equation} {s : State} {k : ℕ} {numbers words : List ℕ}
    (a : FillAt n m layout sys s k numbers words) (i : ℕ) (h : i < k) where
  d : Laid n m layout sys s numbers
  d = a.laid

  abbrev one : Solved
  one = get_or s.solved i nothing

  in_solved : i < length s.solved
  in_solved = omega (arith, a.k_is)

  one_in : (one.equation < length sys) × (one.pivot < n)
  one_in = each_at (λ d. (d.equation < length sys) × (d.pivot < n)) s.solved nothing i in_solved a.solved_in

  pub equation_is : get_or numbers (layout.solved + i) 0 ≡ one.equation
  unfolding segments
  equation_is =
      let z = d.sized.solved in
      read_cell (segmented d) 10 layout.solved (reading.solved_place d) i (rw (reading.size d 10) (omega (arith, d.many, in_solved)))
      ∙ get_or-padded (length sys) i (map (λ (x : Solved). x.equation) s.solved) ∙ get_or-map (λ (x : Solved). x.equation) s.solved i nothing

  pub pivot_is : get_or numbers (layout.pivots + i) 0 ≡ one.pivot
  unfolding segments
  pivot_is =
      let z = d.sized.solved in
      read_cell (segmented d) 11 layout.pivots (reading.pivots_place d) i (rw (reading.size d 11) (omega (arith, d.many, in_solved)))
      ∙ get_or-padded (length sys) i (map (λ (x : Solved). x.pivot) s.solved) ∙ get_or-map (λ (x : Solved). x.pivot) s.solved i nothing

  abbrev e : ℕ
  e = get_or numbers (layout.solved + i) 0

  abbrev v : ℕ
  v = get_or numbers (layout.pivots + i) 0

  e_low : e < m
  e_low = omega (arith, equation_is, one_in.0, d.many)

  size_is : get_or numbers (layout.lengths + e) 0 ≡ length (row_of s.rows e).vars
  size_is = reading.read_length d e e_low

  vars_are : stretch (e * n) (get_or numbers (layout.lengths + e) 0) numbers ≡ (row_of s.rows e).vars
  vars_are = ap (λ (l : ℕ). stretch (e * n) l numbers) size_is ∙ reading.row_at d e e_low

  row_rising : Rising 0 n (row_of s.rows e).vars
  row_rising = each_at (λ (r : Equation). Rising 0 n r.vars) s.rows blank e (omega (arith, e_low, d.many, d.sized.rows)) a.rising

  words_longer : m ≤ length words
  unfolding words_of
  words_longer =
      let q = length-map s.rows (λ (r : Equation). r.c) in
      let w = ap (λ (l : List ℕ). length l) a.words_are in
      let k = length-append (map (λ (r : Equation). r.c) s.rows) (padded (length sys) (map (λ (r : Equation). r.c) s.dense)) in
      omega (arith, d.many, d.sized.rows)

  word_is : get_or words e 0 ≡ (row_of s.rows e).c
  unfolding words_of
  word_is =
      let q = length-map s.rows (λ (r : Equation). r.c) in
      ap (λ (l : List ℕ). get_or l e 0) a.words_are
      ∙ get_or-append (map (λ (r : Equation). r.c) s.rows) (padded (length sys) (map (λ (r : Equation). r.c) s.dense)) 0 e (omega (arith, e_low, d.many, d.sized.rows))
      ∙ get_or-map (λ (r : Equation). r.c) s.rows e blank

  pub meet_fits : (solution : List ℕ) → length solution ≡ n → MeetFits numbers words n layout.lengths e v solution
  meet_fits solution q =
      let p = places d in let l = e_low in let b = row_before e m n l in
      let r = rising_length 0 n (row_of s.rows e).vars (omega arith) row_rising in let z = size_is in let w = words_longer in
      let below : Each (λ u. u < n) (row_of s.rows e).vars = rising_below 0 n (row_of s.rows e).vars row_rising in
      record {
        cell = omega arith;
        row = omega arith;
        below = rw (vars_are, q) below;
        word = omega arith;
        v_in = omega (arith, pivot_is, one_in.1);
      }

  pub fill_turn : (solution : List ℕ) → fill s.rows (drop i s.solved) solution ≡ fill s.rows (drop (i + 1) s.solved) (met numbers words n layout.lengths e v solution)
  unfolding fill
  fill_turn solution =
      let split : drop i s.solved ≡ one ∷ drop (i + 1) s.solved = rw add-one (drop-cons s.solved i nothing in_solved) in
      let same : set solution one.pivot (bit_xor (row_of s.rows one.equation).c (eval_vars (row_of s.rows one.equation).vars solution)) ≡ met numbers words n layout.lengths e v solution =
      rw (vars_are, word_is, equation_is, pivot_is) in
      ap (λ (l : List Solved). fill s.rows l solution) split ∙ ap (λ (x : List ℕ). fill s.rows (drop (i + 1) s.solved) x) same

-- where the solved equations and their variables stand
pub record FillCells (solved pivots k : ℕ) (numbers : List ℕ) : Type 0 where
  pub first : solved + k ≤ length numbers
  pub second : pivots + k ≤ length numbers

pub fill_cells : {n m : ℕ} {layout : Layout} {sys : List Equation} {s : State} {k : ℕ} {numbers words : List ℕ}
    → FillAt n m layout sys s k numbers words → FillCells layout.solved layout.pivots k numbers
fill_cells a =
    let p = places a.laid in let z = a.laid.sized.solved in let q = a.k_is in let r = a.laid.many in
    record { first = omega arith; second = omega arith }

pub fill_end : {n m : ℕ} {layout : Layout} {sys : List Equation} {s : State} {k : ℕ} {numbers words : List ℕ}
    → FillAt n m layout sys s k numbers words → (i : ℕ) → k ≤ i → (solution : List ℕ) → fill s.rows (drop i s.solved) solution ≡ solution
unfolding fill
fill_end {s = s} a i h solution =
    ap (λ (l : List Solved). fill s.rows l solution) (drop_of_length-le s.solved {i = i} (omega (arith, a.k_is)))
