-- The call that adds two equations: its result, and what it leaves in `out`.
use Rattle.std.specs.Prelude.{◌≡◌, List, ◌&&◌, ℕ, ◌+◌, length, leb, Result, Ok, Err}
use Rattle.std.specs.Int.Bits.{bit_xor}
use Rattle.gf2.specs.Equation.{sym_diff}
use Rattle.areas.specs.Stretch.{put}
use Rattle.areas.specs.Rows.{padded}
use Rattle.answers.specs.Sizes.{max_summed}
use Rattle.answers.specs.Numbers.{number_of, place_of}
use Rattle.answers.specs.Calls.{pick}
use Rattle.answers.specs.declared.refusal.Refusal.{Refusal}
use Rattle.answers.specs.Answers.{Answer, Solved, TooLarge, BadEntry, ShortArea, answer_of}
use Rattle.equation.specs.declared.Summed as code
use Rattle.equation.specs.Increase.{rises}
use Rattle.gf2.specs.Common.{common}

pub record Summed : Type 0 where
  pub answer : Answer
  pub len : ℕ
  pub constant : ℕ
  -- how many variables stood in both lists
  pub cancelled : ℕ

pub record SumCall : Type 0 where
  pub result : Summed
  pub out : List ℕ

-- a refused sum hands back length 0, constant 0 and 0 cancelled
abbrev pub failed : Answer → Summed
failed answer = record { answer = answer; len = 0; constant = 0; cancelled = 0 }

-- .. and writes nothing
abbrev pub refused_sum : Answer → List ℕ → SumCall
refused_sum answer out = record { result = failed answer; out = out }

-- the variables found in one list only, in order, then zeros up to the two lengths together; what lies past them is unchanged
abbrev pub made_sum : List ℕ → List ℕ → ℕ → ℕ → List ℕ → SumCall
made_sum l r lc rc out =
    record {
      result = record { answer = Solved; len = length (sym_diff l r); constant = bit_xor lc rc; cancelled = common l r };
      out = put 0 (padded (length l + length r) (sym_diff l r)) out;
    }

-- 1 if a list is longer than the longest; 3 if not increasing (place 0 left, also if both; 1 right); 5 if `out` is shorter than both together
unfoldable pub sum_call : List ℕ → List ℕ → ℕ → ℕ → List ℕ → SumCall
sum_call l r lc rc out =
    pick (leb (length l) max_summed && leb (length r) max_summed)
    (pick (rises l)
    (pick (rises r)
    (pick (leb (length l + length r) (length out)) (made_sum l r lc rc out) (refused_sum ShortArea out))
    (refused_sum (BadEntry 1) out))
    (refused_sum (BadEntry 0) out))
    (refused_sum TooLarge out)

-- what the call tells, in the numbers of the rules, and what it leaves in `out` are as its definition says
pub record TellsSum (c : SumCall) (number place len constant cancelled : ℕ) (out : List ℕ) : Type 0 where
  pub number_is : number ≡ number_of c.result.answer
  pub place_is : place ≡ place_of c.result.answer
  pub len_is : len ≡ c.result.len
  pub constant_is : constant ≡ c.result.constant
  pub cancelled_is : cancelled ≡ c.result.cancelled
  pub out_is : out ≡ c.out

-- what the code hands back of a sum, and 0 where it refuses one
abbrev pub handed : (code.Summed → ℕ) → Result code.Summed Refusal → ℕ
handed f (Ok s) = f s
handed f (Err r) = 0

-- what the code's result comes to
abbrev pub summed_of : Result code.Summed Refusal → Summed
summed_of r =
    record {
      answer = answer_of r;
      len = handed (λ s. s.len) r;
      constant = handed (λ s. s.constant) r;
      cancelled = handed (λ s. s.cancelled) r;
    }

-- the code's result and `out` tell the call
abbrev pub ToldBy : Result code.Summed Refusal → List ℕ → SumCall → Type 0
ToldBy r out c =
    TellsSum c (number_of (summed_of r).answer) (place_of (summed_of r).answer) (summed_of r).len (summed_of r).constant (summed_of r).cancelled out
