-- What `swap_rows` asks for and leaves, in the values that it reads.
use mathlib.Core.Path.{◌≡◌}
use mathlib.Core.List.{List}
use Prim.Native.Nat.{ℕ, ◌+◌, ◌*◌, ◌≤◌, ◌<◌, max}
use native.Mathlib.Omega.{arith}
use lib.ListN.{length, get_or, set, length-set}
use Rattle.areas.proofs.Offsets.{row_before}
use Rattle.gf2.specs.Equation.{Equation}
use Rattle.rows.specs.Front.{Exchanged}
use Rattle.rows.specs.Picture.{Drawn, swapped}
use Rattle.rows.proofs.Holding.{row_narrow, row_length, row_constant, exchange_rows}

module _ {n m : ℕ} {rows : List Equation} {rest rest' numbers words : List ℕ} (d : Drawn n m rows rest rest' numbers words) (i j k : ℕ) (h : i < j) (l : j < m)
    (longer : k ≡ max (get_or numbers (m * n + n + i) 0) (get_or numbers (m * n + n + j) 0)) where
  i_in : i < m
  i_in = omega arith

  -- no row is longer than n
  narrow : k ≤ n
  narrow = omega (arith, longer, row_length d i i_in, row_narrow d i i_in, row_length d j l, row_narrow d j l)

  pub swap_length : length (set (set numbers (m * n + n + i) (get_or numbers (m * n + n + j) 0)) (m * n + n + j) (get_or numbers (m * n + n + i) 0)) ≡ length numbers
  swap_length = simp length-set

  pub swap_fits : (k ≤ n) × (i * n + n ≤ j * n) × (j * n + n ≤ length (set (set numbers (m * n + n + i) (get_or numbers (m * n + n + j) 0)) (m * n + n + j) (get_or numbers (m * n + n + i) 0)))
  swap_fits = (narrow, row_before i j n h, rw swap_length (omega (arith, row_before j m n l, d.numbers_room)))

  pub swap_done : (numbers' : List ℕ) (r : ℕ)
      → Exchanged (set (set numbers (m * n + n + i) (get_or numbers (m * n + n + j) 0)) (m * n + n + j) (get_or numbers (m * n + n + i) 0)) (i * n) (j * n) k n numbers' r
      → Drawn n m (swapped i j rows) rest rest' numbers' (set (set words i (get_or words j 0)) j (get_or words i 0))
  swap_done numbers' r x =
      let a = row_length d i i_in in
      let b = row_length d j l in
      rw (x.done, a, b, row_constant d i i_in, row_constant d j l)
      (exchange_rows d i j r h l (omega (arith, longer, x.enough)) (omega (arith, longer, x.enough)) x.within)
