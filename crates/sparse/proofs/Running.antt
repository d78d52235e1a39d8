-- What the run comes to: load, solve, clear; and what it counts.
use mathlib.Core.Path.{◌≡◌, refl, ap, ◌∙◌, subst}
use mathlib.Core.List.{List}
use Prim.Native.Nat.{ℕ}
use native.Mathlib.Omega.{arith}
use lib.ListN.{take, drop}
use lib.Seq.{take_all}
use Rattle.areas.specs.Stretch.{cleared}
use Rattle.areas.proofs.Stretch.{cleared_same}
use Rattle.gf2.specs.Equation.{Equation}
use Rattle.gf2.specs.Result.{Result}
use Rattle.answers.specs.Calls.{ran}
use Rattle.answers.specs.Sizes.{sparse_numbers, sparse_words}
use Rattle.answers.specs.Answers.{Answer}
use Rattle.answers.specs.Answers.{Solved, Unsolvable as Refusal}
use Rattle.rows.specs.Picture.{Kept, Became, rows_of}
use Rattle.rows.proofs.Holding.{rest_kept, rows_are}
use Rattle.sparse_rules.specs.Eliminate.{gaussian_elimination}
use Rattle.sparse_rules.specs.Cancelled.{sparse_cancels}
use Rattle.sparse_rows.specs.Reduce.{FinishedBy, left, filled}
use Rattle.sparse_rows.specs.Reduction.{Reduction}
use Rattle.sparse_rows.specs.Reduction.{Unsolvable, Reduced}

module _ (n m : ℕ) (es : List Equation) (numbers words numbers₁ words₁ numbers₂ words₂ numbers₃ words₃ : List ℕ) (d : Became n m numbers words es numbers₁ words₁)
    (k : Kept n m (drop (sparse_numbers n m) numbers₁) (drop (sparse_words m) words₁) numbers₂ words₂)
    (a : numbers₃ ≡ cleared (sparse_numbers n m) numbers₂) (w : words₃ ≡ cleared (sparse_words m) words₂) {t : ℕ} (count : t ≡ sparse_cancels (take m (rows_of n m numbers₁ words₁))) where
  numbers_end : numbers₃ ≡ cleared (sparse_numbers n m) numbers
  numbers_end = a ∙ cleared_same (sparse_numbers n m) numbers₂ numbers (k.numbers_kept ∙ (rest_kept d).numbers_kept)

  words_end : words₃ ≡ cleared (sparse_words m) words
  words_end = w ∙ cleared_same (sparse_words m) words₂ words (k.words_kept ∙ (rest_kept d).words_kept)

  whole : take m (rows_of n m numbers₁ words₁) ≡ es
  whole = ap (take m) (rows_are d) ∙ take_all m es (omega (arith, d.count))

  counted : t ≡ sparse_cancels es
  counted = count ∙ ap sparse_cancels whole

  abbrev Ends : Answer → Result (List ℕ) → List ℕ → List ℕ → Type 0
  Ends answer o x x' =
      (answer ≡ (ran (sparse_numbers n m) (sparse_words m) o x numbers words).answer)
      × ((x' ≡ (ran (sparse_numbers n m) (sparse_words m) o x numbers words).solution)
      × ((numbers₃ ≡ (ran (sparse_numbers n m) (sparse_words m) o x numbers words).numbers)
      × ((words₃ ≡ (ran (sparse_numbers n m) (sparse_words m) o x numbers words).words) × (t ≡ sparse_cancels es))))

  ends_refused : (o : Result (List ℕ)) (x x' : List ℕ) {r : Reduction} → FinishedBy o x x' r → r ≡ Unsolvable → Ends Refusal o x x'
  ends_refused o x x' (left e q) p = rw e (refl, (q, (numbers_end, (words_end, counted))))
  ends_refused o x x' (filled e) p = absurd (let z : ◌≡◌ {A = ℕ} 0 1 = cc in omega arith)

  ends_solved : (o : Result (List ℕ)) (x x' : List ℕ) {r : Reduction} → FinishedBy o x x' r → r ≡ Reduced → Ends Solved o x x'
  ends_solved o x x' (left e q) p = absurd (let z : ◌≡◌ {A = ℕ} 0 1 = cc in omega arith)
  ends_solved o x x' (filled e) p = rw e (refl, (refl, (numbers_end, (words_end, counted))))

  module _ (x x' : List ℕ) {r : Reduction} (f : FinishedBy (gaussian_elimination n (take m (rows_of n m numbers₁ words₁))) x x' r) where
    said : FinishedBy (gaussian_elimination n es) x x' r
    said = subst (λ (l : List Equation). FinishedBy (gaussian_elimination n l) x x' r) whole f

    pub run_refused : r ≡ Unsolvable → Ends Refusal (gaussian_elimination n es) x x'
    run_refused p = ends_refused (gaussian_elimination n es) x x' said p

    pub run_solved : r ≡ Reduced → Ends Solved (gaussian_elimination n es) x x'
    run_solved p = ends_solved (gaussian_elimination n es) x x' said p
