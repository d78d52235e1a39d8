-- The walk that takes the XOR of the values of the listed variables.
use mathlib.Core.Path.{◌≡◌, refl, sym, ◌∙◌}
use mathlib.Core.List.{List}
use Prim.Native.Nat.{ℕ, suc, ◌+◌, ◌<◌, ◌≤◌, zero-le}
use native.Mathlib.Numerals.{add-one}
use native.Mathlib.Omega.{arith}
use lib.ListN.{length, drop, get_or, drop_of_length-le}
use lib.Seq.{drop-cons}
use lib.Bits.{bit_xor, xor_zero_r}
use Rattle.gf2.specs.Equation.{Each, eval_vars}
use Rattle.gf2.proofs.XorLaws.{xor_assoc}
use Rattle.gf2.proofs.Each.{each_at}

-- i variables are passed: what is summed and the rest together are the whole
pub record Evaluating (vars values : List ℕ) (sum i : ℕ) : Type 0 where
  pub within : i ≤ length vars
  pub low : Each (λ v. v < length values) vars
  pub rest : bit_xor sum (eval_vars (drop i vars) values) ≡ eval_vars vars values

pub evaluating_begin : (vars values : List ℕ) → Each (λ v. v < length values) vars → Evaluating vars values 0 0
evaluating_begin vars values h = record { within = zero-le; low = h; rest = refl }

pub evaluating_low : {vars values : List ℕ} {sum i : ℕ} → Evaluating vars values sum i → i < length vars → get_or vars i 0 < length values
evaluating_low {vars} {values} {sum} {i} w h = each_at (λ v. v < length values) vars 0 i h w.low

pub evaluating_turn : {vars values : List ℕ} {sum i : ℕ} → Evaluating vars values sum i → i < length vars → Evaluating vars values (bit_xor sum (get_or values (get_or vars i 0) 0)) (i + 1)
unfolding eval_vars
evaluating_turn {vars} {values} {sum} {i} w h =
    record {
      within = omega arith;
      low = w.low;
      rest =
          rw (add-one i) (xor_assoc sum (get_or values (get_or vars i 0) 0) (eval_vars (drop (suc i) vars) values))
          ∙ rw (drop-cons vars i 0 h) at w.rest;
    }

pub evaluating_end : {vars values : List ℕ} {sum i : ℕ} → Evaluating vars values sum i → length vars ≤ i → sum ≡ eval_vars vars values
unfolding eval_vars
evaluating_end {vars} {values} {sum} w h = sym (xor_zero_r sum) ∙ rw (drop_of_length-le vars h) at w.rest
