-- The number of a lookup's answer.
use mathlib.Core.Path.{◌≡◌, refl}
use mathlib.Core.List.{List}
use mathlib.Core.Bool.{Bool, true, false}
use Prim.Native.Nat.{ℕ}
use lib.ListN.{length}
use lib.Dec.{leb}
use Rattle.answers.specs.Sizes.{max_variables}
use Rattle.answers.specs.Calls.{pick}
use Rattle.answers.specs.Numbers.{number_of, place_of}
use Rattle.answers.specs.Answers.{Solved, TooLarge, BadEntry}
use Rattle.peel_rules.specs.Peel.{edge_xor}
use Rattle.peel_rules.specs.Calls.{LookupCall, lookup_call}
use Rattle.peel_rules.specs.Edges.{edge, is_valid}
use Rattle.lookups.specs.Lookups.{found_of, FoundNumber}

-- the number and the place of each case
by_cases : (small valid : Bool) (x : ℕ)
    → let call : LookupCall = pick small (pick valid (record { answer = Solved; bib = x }) (record { answer = BadEntry 0; bib = 0 })) (record { answer = TooLarge; bib = 0 }) in
    (number_of call.answer ≡ pick small (pick valid 0 3) 1) × (place_of call.answer ≡ 0)
by_cases true true x = (refl, refl)
by_cases true false x = (refl, refl)
by_cases false valid x = (refl, refl)

-- what a lookup hands back has the rules' number, and place 0
pub lookup_number_lem : (table : List ℕ) (a b c : ℕ) → FoundNumber table a b c (found_of (lookup_call table a b c))
lookup_number_lem table a b c =
    let k = by_cases (leb (length table) max_variables) (is_valid (length table) (edge a b c 0)) (edge_xor table (edge a b c 0)) in
    record { number = k.0; place = k.1 }
