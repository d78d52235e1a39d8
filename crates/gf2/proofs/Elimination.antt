-- Steps of an elimination keep the span: one row added to another, rows moved or dropped.
use mathlib.Core.Path.{◌≡◌}
use mathlib.Core.Logic.{◌≢◌}
use mathlib.Core.List.{List}
use Prim.Native.Nat.{ℕ, ◌<◌}
use lib.ListN.{get_or, length, set}
use lib.Bits.{bit_xor}
use Rattle.gf2.specs.Equation.{Equation, Increasing, Sorted, sum}
use Rattle.gf2.proofs.XorLaws.{xor_laws}
use Rattle.gf2.proofs.VarLists.{sym_diff_twice}
use Rattle.gf2.proofs.Each.{each_at}

-- a row added twice falls away
pub sum_twice : (r s : Equation) → Increasing r.vars → Increasing s.vars → sum (sum r s) s ≡ r
sum_twice r s h k = λ i. record { vars = sym_diff_twice r.vars s.vars h k i; c = constants i }
  where
    constants : bit_xor (bit_xor r.c s.c) s.c ≡ r.c
    constants = simp xor_laws

-- row i is added to row j
module _ (rs : List Equation) (d : Equation) (i j : ℕ) (hi : i < length rs) (hj : j < length rs) (ne : i ≢ j) (s : Sorted rs) where
  abbrev pub added : List Equation
  added = set rs j (sum (get_or rs j d) (get_or rs i d))

  at_i : Increasing (get_or rs i d).vars
  at_i = each_at (λ e. Increasing e.vars) rs d i hi s

  at_j : Increasing (get_or rs j d).vars
  at_j = each_at (λ e. Increasing e.vars) rs d j hj s
