-- What `add_rows` asks for and leaves, in the values that it reads.
use mathlib.Core.Path.{◌≡◌, sym, ap, ap₂, ◌∙◌, subst}
use mathlib.Core.List.{List}
use Prim.Native.Nat.{ℕ, ◌+◌, ◌-◌, ◌*◌, ◌≤◌, ◌<◌}
use native.Mathlib.Omega.{arith}
use lib.ListN.{length, get_or, set}
use lib.Bits.{bit_xor}
use Rattle.areas.specs.Stretch.{stretch, put}
use Rattle.areas.specs.Rows.{padded}
use Rattle.areas.proofs.Offsets.{row_before}
use Rattle.row_sums.specs.AddFits.{AddFits}
use Rattle.gf2.specs.Equation.{Equation, Rising, sym_diff, sum}
use Rattle.gf2.proofs.SymDiff.{rising_sym_diff}
use Rattle.gf2.proofs.Order.{rising_increasing}
use Rattle.gf2.specs.Common.{common}
use Rattle.gf2.proofs.Common.{length-sym_diff}
use Rattle.rows.specs.Picture.{Drawn, row_at, added}
use Rattle.rows.proofs.Holding.{rising_narrow, row_rising, row_narrow, row_length, row_front, row_vars, row_constant, scratch_zero, store}

module _ {n m : ℕ} {rows : List Equation} {rest rest' numbers words : List ℕ} (d : Drawn n m rows rest rest' numbers words) (i j : ℕ) (h : i < j) (l : j < m) where
  i_in : i < m
  i_in = omega arith

  -- the variables of a row, by the length that is read
  row_read : (x : ℕ) → x < m → stretch (x * n) (get_or numbers (m * n + n + x) 0) numbers ≡ (row_at rows x).vars
  row_read x g = ap (λ (k : ℕ). stretch (x * n) k numbers) (row_length d x g) ∙ row_vars d x g

  pub add_fits : AddFits numbers n (i * n) (get_or numbers (m * n + n + i) 0) (j * n) (get_or numbers (m * n + n + j) 0) (m * n)
  add_fits =
      record {
        left_before = row_before i m n i_in;
        right_before = row_before j m n l;
        inside = omega (arith, d.numbers_room);
        left_short = omega (arith, row_length d i i_in, row_narrow d i i_in);
        right_short = omega (arith, row_length d j l, row_narrow d j l);
        left_rises = subst (Rising 0 n) (sym (row_read i i_in)) (row_rising d i i_in);
        right_rises = subst (Rising 0 n) (sym (row_read j l)) (row_rising d j l);
        left_padded = row_front d i i_in n (row_narrow d i i_in) (omega arith) ∙ ap (padded n) (sym (row_read i i_in));
        scratch = scratch_zero d;
      }

  total : List ℕ
  total = sym_diff (row_at rows i).vars (row_at rows j).vars

  total_rising : Rising 0 n total
  unfolding total
  total_rising = rising_sym_diff 0 n (row_at rows i).vars (row_at rows j).vars (row_rising d i i_in) (row_rising d j l)

  total_short : length total ≤ n
  total_short = rising_narrow n total total_rising

  module _ (r : ℕ) (e : r ≡ length (sym_diff (stretch (i * n) (get_or numbers (m * n + n + i) 0) numbers) (stretch (j * n) (get_or numbers (m * n + n + j) 0) numbers))) where
    long : r ≡ length total
    unfolding total
    long = e ∙ ap₂ (λ (a b : List ℕ). length (sym_diff a b)) (row_read i i_in) (row_read j l)

    pub sum_short : r ≤ n
    sum_short = omega (arith, long, total_short)

    -- the lengths that were read, and what they say of the sum
    pub sum_within : r ≤ get_or numbers (m * n + n + i) 0 + get_or numbers (m * n + n + j) 0
    unfolding total
    sum_within =
        let a = length-sym_diff (row_at rows i).vars (row_at rows j).vars (rising_increasing 0 n (row_at rows i).vars (row_rising d i i_in)) (rising_increasing 0 n (row_at rows j).vars (row_rising d j l)) in
        omega (arith, long, row_length d i i_in, row_length d j l)

    pub sum_falls : (fallen : ℕ) → fallen + (get_or numbers (m * n + n + i) 0 + get_or numbers (m * n + n + j) 0) - r ≡ fallen + 2 * common (row_at rows i).vars (row_at rows j).vars
    unfolding total
    sum_falls fallen =
        let a = length-sym_diff (row_at rows i).vars (row_at rows j).vars (rising_increasing 0 n (row_at rows i).vars (row_rising d i i_in)) (rising_increasing 0 n (row_at rows j).vars (row_rising d j l)) in
        omega (arith, long, row_length d i i_in, row_length d j l)

    pub add_done : (numbers' : List ℕ)
        → numbers' ≡ put (i * n) (padded n (sym_diff (stretch (i * n) (get_or numbers (m * n + n + i) 0) numbers) (stretch (j * n) (get_or numbers (m * n + n + j) 0) numbers))) numbers
        → Drawn n m (added i j rows) rest rest' (set numbers' (m * n + n + i) r) (set words i (bit_xor (get_or words i 0) (get_or words j 0)))
    unfolding total
    add_done numbers' p =
        rw (p, long, row_read i i_in, row_read j l, row_constant d i i_in, row_constant d j l)
        (store d i i_in (sum (row_at rows i) (row_at rows j)) n total_rising total_short (row_narrow d i i_in) (omega arith))
