-- What the sum tells: from its definition, and told on.
use mathlib.Core.Path.{◌≡◌, refl, sym, ap, ◌∙◌}
use mathlib.Core.List.{List}
use Prim.Native.Nat.{ℕ}
use Rattle.std.specs.Prelude.{Result, Ok, Err}
use Rattle.answers.specs.declared.refusal.Refusal.{Refusal}
use Rattle.answers.specs.Numbers.{number_of, place_of}
use Rattle.answers.proofs.Numbers.{same_answer}
use Rattle.answers.proofs.Determined.{same_refusal, same_result}
use Rattle.equation.specs.declared.Summed.{Summed}
use Rattle.equation.specs.Sums.{SumCall, TellsSum, ToldBy}

-- the definition's own result
pub sum_tells : {c : SumCall} → TellsSum c (number_of c.result.answer) (place_of c.result.answer) c.result.len c.result.constant c.result.cancelled c.out
sum_tells = record { number_is = refl; place_is = refl; len_is = refl; constant_is = refl; cancelled_is = refl; out_is = refl }

-- told on by its number and its place
pub sum_told_on : {c : SumCall} {number place number' place' len constant cancelled : ℕ} {out : List ℕ} → TellsSum c number place len constant cancelled out
    → number' ≡ number → place' ≡ place → TellsSum c number' place' len constant cancelled out
sum_told_on t e f =
    record { number_is = e ∙ t.number_is; place_is = f ∙ t.place_is; len_is = t.len_is; constant_is = t.constant_is; cancelled_is = t.cancelled_is; out_is = t.out_is }

module _ {c : SumCall} {out out' : List ℕ} where
  same : (r q : Result Summed Refusal) → ToldBy r out c → ToldBy q out' c → r ≡ q
  same (Ok a) (Ok b) s t = λ i. Ok (record { len = (s.len_is ∙ sym t.len_is) i; constant = (s.constant_is ∙ sym t.constant_is) i; cancelled = (s.cancelled_is ∙ sym t.cancelled_is) i })
  same (Err a) (Err b) s t = ap Err (same_refusal a b (same_answer _ _ (s.number_is ∙ sym t.number_is) (s.place_is ∙ sym t.place_is)))
  same (Ok a) (Err b) s t = let e = same_result (Ok tt) (Err b) (same_answer _ _ (s.number_is ∙ sym t.number_is) (s.place_is ∙ sym t.place_is)) in absurd (cc)
  same (Err a) (Ok b) s t = let e = same_result (Err a) (Ok tt) (same_answer _ _ (s.number_is ∙ sym t.number_is) (s.place_is ∙ sym t.place_is)) in absurd (cc)

  -- two results that meet the sum's promise are equal
  pub sum_one : (r q : Result Summed Refusal) → ToldBy r out c → ToldBy q out' c → (r ≡ q) × (out ≡ out')
  sum_one r q s t = (same r q s t, s.out_is ∙ sym t.out_is)
