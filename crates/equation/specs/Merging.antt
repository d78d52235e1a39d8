-- The end of a merge of two increasing lists.
use Rattle.std.specs.Prelude.{◌≡◌, List, ◌++◌, ℕ, ◌+◌, ◌-◌, ◌≤◌, length, drop}
use Rattle.gf2.specs.Equation.{sym_diff}

-- i of l, j of r and d variables of the sum are done, and one of the lists has ended: what is left of the lists is what is left of the sum
pub record Ended (l r : List ℕ) (i j d : ℕ) : Type 0 where
  pub in_left : i ≤ length l
  pub in_right : j ≤ length r
  pub size : d + (length l - i) + (length r - j) ≡ length (sym_diff l r)
  pub rest : drop i l ++ drop j r ≡ drop d (sym_diff l r)
