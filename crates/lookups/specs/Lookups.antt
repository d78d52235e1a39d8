-- A lookup's answer as the code hands it back, and its number and place.
use Rattle.std.specs.Prelude.{◌≡◌, List, ℕ, Result, Ok, Err, length, leb}
use Rattle.answers.specs.declared.refusal.Refusal.{Refusal}
use Rattle.answers.specs.Answers.{Answer, Solved, refusal_of}
use Rattle.answers.specs.Sizes.{max_variables}
use Rattle.answers.specs.Calls.{pick}
use Rattle.answers.specs.Numbers.{number_of, place_of}
use Rattle.peel_rules.specs.Edges.{edge, is_valid}
use Rattle.peel_rules.specs.Calls.{LookupCall}

pub record Found : Type 0 where
  pub answer : Answer
  -- the XOR of the three cells, 0 with a refusal
  pub bib : ℕ

-- what the code's result of a lookup comes to
abbrev pub found_by : Result ℕ Refusal → Found
found_by (Ok bib) = record { answer = Solved; bib = bib }
found_by (Err r) = record { answer = refusal_of r; bib = 0 }

abbrev pub found_of : LookupCall → Found
found_of c = record { answer = c.answer; bib = c.bib }

-- 1 for a table above the largest, 3 for a number past the table or two alike, else 0
abbrev pub lookup_number : List ℕ → ℕ → ℕ → ℕ → ℕ
lookup_number table a b c = pick (leb (length table) max_variables) (pick (is_valid (length table) (edge a b c 0)) 0 3) 1

pub record FoundNumber (table : List ℕ) (a b c : ℕ) (r : Found) : Type 0 where
  pub number : number_of r.answer ≡ lookup_number table a b c
  pub place : place_of r.answer ≡ 0
