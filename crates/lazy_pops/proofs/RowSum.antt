-- One equation added into another.
use mathlib.Core.Path.{◌≡◌, refl, sym, ap, ap₂, ◌∙◌, subst}
use mathlib.Core.List.{List, [], ◌++◌, append-nil, map}
use Prim.Native.Nat.{ℕ, ◌+◌, ◌-◌, ◌*◌, ◌/◌, ◌≤◌, ◌<◌}
use native.Mathlib.Nat.{zero-add}
use native.Mathlib.Omega.{arith}
use lib.ListN.{length, get_or, set, replicate, length-set, length-map, length-append, length-replicate, get_or-map, get_or-append}
use lib.Seq.{set-append_left}
use lib.Bits.{bit_xor}
use Rattle.gf2.specs.Equation.{Equation, Increasing, Rising, sym_diff, sum}
use Rattle.gf2.specs.ByNumber.{blank, row_of}
use Rattle.gf2.proofs.Each.{each_at, each_set}
use Rattle.gf2.proofs.SymDiff.{rising_sym_diff, rising_length}
use Rattle.gf2.proofs.Order.{rising_increasing}
use Rattle.gf2.specs.Common.{common}
use Rattle.gf2.proofs.Common.{length-sym_diff, common_half}
use Rattle.answers.specs.Sizes.{max_variables}
use Rattle.areas.specs.Segments.{joined, offset}
use Rattle.areas.specs.Stretch.{stretch, put}
use Rattle.areas.specs.Rows.{padded, laid, Narrow}
use Rattle.areas.proofs.Offsets.{row_before, row_begins}
use Rattle.areas.proofs.Rows.{length_laid, length-padded, stretch_laid, put_laid, narrow_set}
use Rattle.areas.proofs.Segments.{offset_set}
use Rattle.areas.proofs.Stretch.{stretch_at, length-put}
use Rattle.row_sums.specs.AddFits.{AddFits}
use Rattle.rows.proofs.Put.{map-set}
use Rattle.lazy.specs.Lazy.{State}
use Rattle.lazy_setup.specs.declared.Layout.{Layout}
use Rattle.lazy_setup.specs.Area.{segments, numbers_of, lengths, rows_of, words_of}
use Rattle.lazy_pops.specs.Laid.{Laid, listed}
use Rattle.lazy_pops.specs.Adding.{with_rows, add_one, AddAt, AddDone}
use Rattle.lazy_pops.proofs.Places.{places, segmented}
use Rattle.lazy_pops.proofs.Reading.{size, lengths_place, dense_place, row_at, read_length}
use Rattle.lazy_pops.proofs.Segmented.{Segmented, read_part, write_cell, write_part}
use Rattle.lazy_pops.proofs.Writing.{relaid}

abbrev vars_of : Equation → List ℕ
vars_of r = r.vars

pub record AddCells (n m lengths scratch f e : ℕ) (numbers words : List ℕ) : Type 0 where
  pub first : lengths + f < length numbers
  pub second : lengths + e < length numbers
  pub f_row : f * n + n ≤ scratch
  pub e_row : e * n + n ≤ scratch
  pub room : scratch + n ≤ length numbers
  pub f_word : f < length words
  pub e_word : e < length words
  pub short : n ≤ max_variables
  pub f_short : get_or numbers (lengths + f) 0 ≤ n
  pub e_short : get_or numbers (lengths + e) 0 ≤ n

module _ {n m : ℕ} {layout : Layout} {sys : List Equation} {s : State} {f e : ℕ} {numbers words : List ℕ} (a : AddAt n m layout sys s f e numbers words) where
  d : Laid n m layout sys s numbers
  d = a.rows.laid

  many_rows : length s.rows ≡ m
  many_rows = omega (arith, d.many, d.sized.rows)

  row_rising : (x : ℕ) → x < m → Rising 0 n (row_of s.rows x).vars
  row_rising x h = each_at (λ (r : Equation). Rising 0 n r.vars) s.rows blank x (omega (arith, many_rows)) a.rows.rising

  words_longer : m ≤ length words
  unfolding words_of
  words_longer =
      let q = length-map s.rows (λ (r : Equation). r.c) in
      let w = ap (λ (l : List ℕ). length l) a.rows.words_are in
      let k = length-append (map (λ (r : Equation). r.c) s.rows) (padded (length sys) (map (λ (r : Equation). r.c) s.dense)) in
      omega (arith, many_rows)

  word_at : (x : ℕ) → x < m → get_or words x 0 ≡ (row_of s.rows x).c
  unfolding words_of
  word_at x h =
      let q = length-map s.rows (λ (r : Equation). r.c) in
      ap (λ (l : List ℕ). get_or l x 0) a.rows.words_are
      ∙ get_or-append (map (λ (r : Equation). r.c) s.rows) (padded (length sys) (map (λ (r : Equation). r.c) s.dense)) 0 x (omega (arith, many_rows))
      ∙ get_or-map (λ (r : Equation). r.c) s.rows x blank

  length_at : (x : ℕ) → x < m → get_or numbers (layout.lengths + x) 0 ≡ length (row_of s.rows x).vars
  length_at x h = read_length d x h

  vars_at : (x : ℕ) → x < m → stretch (x * n) (get_or numbers (layout.lengths + x) 0) numbers ≡ (row_of s.rows x).vars
  vars_at x h = rw (length_at x h) (row_at d x h)

  narrow_at : (x : ℕ) → x < m → get_or numbers (layout.lengths + x) 0 ≤ n
  narrow_at x h = let l = rising_length 0 n (row_of s.rows x).vars (omega arith) (row_rising x h) in omega (arith, length_at x h)

  pub add_cells : AddCells n m layout.lengths (layout.dense + m * n) f e numbers words
  add_cells =
      let p = places d in
      let x = row_before f m n a.f_in in let y = row_before e m n a.e_in in let w = words_longer in
      let i = a.f_in in let j = a.e_in in let k = a.rows.small in
      record { first = omega arith; second = omega arith; f_row = omega arith; e_row = omega arith; room = omega arith; f_word = omega arith; e_word = omega arith; short = k; f_short = narrow_at f i; e_short = narrow_at e j }

  row_padded : (x : ℕ) → x < m → stretch (x * n) n numbers ≡ padded n (row_of s.rows x).vars
  unfolding segments numbers_of joined
  row_padded x h =
      let g = get_or-map (λ (r : Equation). r.vars) s.rows x blank in
      let k : x < length (map (λ (r : Equation). r.vars) s.rows) = rw (length-map s.rows (λ (r : Equation). r.vars)) (omega (arith, many_rows)) in
      rw (d.shown, ← g) (stretch_laid n x (map (λ (r : Equation). r.vars) s.rows) _ d.sized.narrow k)

  scratch_zeros : stretch (layout.dense + m * n) n numbers ≡ replicate n 0
  unfolding segments
  scratch_zeros =
      let vs : List (List ℕ) = map (λ (r : Equation). r.vars) s.dense in
      let k = length-map s.dense (λ (r : Equation). r.vars) in
      let l = length_laid n vs d.sized.dense_narrow in
      let z = d.sized.dense in
      let o : length (laid n vs) ≤ length sys * n = rw (l, k) (row_begins (length s.dense) (length sys) n z) in
      read_part (segmented d) 13 layout.dense (dense_place d) (m * n) n (rw (size d 13) (omega arith))
      ∙ stretch_at (m * n) n (padded (length sys * n) (laid n vs)) (replicate n 0) (padded (length sys) (lengths s.dense))
      (length-padded (length sys * n) (laid n vs) o ∙ ap (λ (k : ℕ). k * n) (sym d.many)) (length-replicate {A = ℕ} n 0)

  pub add_fits : AddFits numbers n (f * n) (get_or numbers (layout.lengths + f) 0) (e * n) (get_or numbers (layout.lengths + e) 0) (layout.dense + m * n)
  add_fits =
      let c = add_cells in
      record {
        left_before = c.f_row;
        right_before = c.e_row;
        inside = c.room;
        left_short = narrow_at f a.f_in;
        right_short = narrow_at e a.e_in;
        left_rises = rw (vars_at f a.f_in) (row_rising f a.f_in);
        right_rises = rw (vars_at e a.e_in) (row_rising e a.e_in);
        left_padded = row_padded f a.f_in ∙ ap (λ (l : List ℕ). padded n l) (sym (vars_at f a.f_in));
        scratch = scratch_zeros;
      }

  abbrev total : Equation
  total = sum (row_of s.rows f) (row_of s.rows e)

  total_rising : Rising 0 n total.vars
  total_rising = rising_sym_diff 0 n (row_of s.rows f).vars (row_of s.rows e).vars (row_rising f a.f_in) (row_rising e a.e_in)

  total_short : length total.vars ≤ n
  total_short = let l = rising_length 0 n total.vars (omega arith) total_rising in omega arith

  module _ {len : ℕ} {numbers₁ : List ℕ}
      (q : (len ≡ length (sym_diff (stretch (f * n) (get_or numbers (layout.lengths + f) 0) numbers) (stretch (e * n) (get_or numbers (layout.lengths + e) 0) numbers)))
      × (numbers₁ ≡ put (f * n) (padded n (sym_diff (stretch (f * n) (get_or numbers (layout.lengths + f) 0) numbers) (stretch (e * n) (get_or numbers (layout.lengths + e) 0) numbers))) numbers)) where
    len_is : len ≡ length total.vars
    len_is = q.0 ∙ ap₂ (λ (x y : List ℕ). length (sym_diff x y)) (vars_at f a.f_in) (vars_at e a.e_in)

    pub len_short : len ≤ n
    len_short = omega (arith, len_is, total_short)

    -- the lengths that were read, and what they say of the sum
    rises : (x : ℕ) → x < m → Increasing (row_of s.rows x).vars
    rises x h = rising_increasing 0 n (row_of s.rows x).vars (row_rising x h)

    pub len_within : len ≤ get_or numbers (layout.lengths + f) 0 + get_or numbers (layout.lengths + e) 0
    len_within =
        let k = length-sym_diff (row_of s.rows f).vars (row_of s.rows e).vars (rises f a.f_in) (rises e a.e_in) in
        omega (arith, len_is, length_at f a.f_in, length_at e a.e_in)

    pub len_shares : (get_or numbers (layout.lengths + f) 0 + get_or numbers (layout.lengths + e) 0 - len) / 2 ≡ common (row_of s.rows f).vars (row_of s.rows e).vars
    len_shares =
        ap₂ (λ (x y : ℕ). (x + y - len) / 2) (length_at f a.f_in) (length_at e a.e_in)
        ∙ common_half (row_of s.rows f).vars (row_of s.rows e).vars len (rises f a.f_in) (rises e a.e_in) len_is

    numbers_are : numbers₁ ≡ put (f * n) (padded n total.vars) numbers
    numbers_are = q.1 ∙ ap₂ (λ (x y : List ℕ). put (f * n) (padded n (sym_diff x y)) numbers) (vars_at f a.f_in) (vars_at e a.e_in)

    rows_written : put (f * n) (padded n total.vars) (rows_of n s.rows) ≡ rows_of n (set s.rows f total)
    rows_written =
        let vs : List (List ℕ) = map (λ (r : Equation). r.vars) s.rows in
        let k : f < length vs = rw (length-map s.rows (λ (r : Equation). r.vars)) (omega (arith, many_rows, a.f_in)) in
        let p = put_laid n f total.vars vs [] d.sized.narrow total_short k in
        rw (append-nil (laid n vs), append-nil (laid n (set vs f total.vars))) at p ∙ ap (λ (l : List (List ℕ)). laid n l) (sym (map-set vars_of s.rows f total))

    words_written : set words f (bit_xor (get_or words f 0) (get_or words e 0)) ≡ words_of sys (add_one f e s)
    unfolding words_of add_one with_rows
    words_written =
        let z : length (map (λ (r : Equation). r.c) s.rows) ≡ m = length-map s.rows (λ (r : Equation). r.c) ∙ many_rows in
        rw (word_at f a.f_in, word_at e a.e_in)
        (ap (λ (l : List ℕ). set l f total.c) a.rows.words_are
        ∙ set-append_left (map (λ (r : Equation). r.c) s.rows) (padded (length sys) (map (λ (r : Equation). r.c) s.dense)) f total.c (omega (arith, a.f_in))
        ∙ ap (λ (l : List ℕ). l ++ padded (length sys) (map (λ (r : Equation). r.c) s.dense)) (sym (map-set (λ (r : Equation). r.c) s.rows f total)))

    pub add_done : AddDone n m layout sys (add_one f e s) (set numbers₁ (layout.lengths + f) len) (set words f (bit_xor (get_or words f 0) (get_or words e 0)))
    unfolding segments add_one with_rows offset
    add_done =
        let z = d.sized in
        let b = row_before f m n a.f_in in
        let lp = length-padded n total.vars total_short in
        let one = write_part (segmented d) 0 0 refl (f * n) (padded n total.vars) (rw (size d 0) (omega arith)) in
        let one' : Segmented n m (listed n sys) (set (segments n sys s) 0 (put (f * n) (padded n total.vars) (rows_of n s.rows))) numbers₁ =
        rw numbers_are (rw zero-add at one) in
        let two = write_cell one' 1 layout.lengths (lengths_after) f len (rw (size d 1) a.f_in) in
        record {
          laid = relaid d (add_one f e s) two
              (ap₂ (λ (x y : List ℕ). set (set (segments n sys s) 0 x) 1 y) rows_written
              (ap (λ (k : ℕ). set (lengths s.rows) f k) len_is ∙ sym (map-set (λ (r : Equation). length r.vars) s.rows f total)))
              (record {
                rows = length-set s.rows f total ∙ z.rows;
                narrow = subst (λ (l : List (List ℕ)). Narrow n l) (sym (map-set vars_of s.rows f total))
                    (narrow_set n f total.vars (map vars_of s.rows) total_short z.narrow);
                weight = z.weight;
                variables = z.variables;
                idle = z.idle;
                priority = z.priority;
                equations = z.equations;
                solved = z.solved;
                dense = z.dense;
                dense_narrow = z.dense_narrow;
              });
          words_are = words_written;
          rising = each_set (λ (r : Equation). Rising 0 n r.vars) s.rows f total total_rising a.rows.rising;
        }
      where
        lengths_after : offset 1 (set (segments n sys s) 0 (put (f * n) (padded n total.vars) (rows_of n s.rows))) ≡ layout.lengths
        lengths_after =
            let b = row_before f m n a.f_in in
            let lp = length-padded n total.vars total_short in
            let r = size d 0 in
            offset_set 1 0 (put (f * n) (padded n total.vars) (rows_of n s.rows)) (segments n sys s)
            (length-put (f * n) (padded n total.vars) (rows_of n s.rows) (omega arith))
            ∙ lengths_place d
