-- What is to be concluded from what a case says.
use Rattle.std.specs.Prelude.{Bool, ◌&&◌, List, ℕ, ltb, eqb, length, get_or}
use Rattle.answers.specs.Calls.{pick}
use Rattle.answers.specs.Numbers.{number_of, place_of}
use Rattle.answers.specs.Answers.{Answer}
use Rattle.replay_cases.specs.declared.said.Said.{Said}
use Rattle.replay_cases.specs.declared.said.Verdict.{Verdict}
use Rattle.replay_cases.specs.declared.said.Verdict.TheVariants.{Same, Refused, Departed, Different}

-- given before a run: 1 to 5
abbrev pub is_refusal : ℕ → Bool
is_refusal number = ltb 0 number && ltb number 6

-- no panic, and the number and the place
abbrev pub plainly : ℕ → ℕ → Said
plainly number place = record { number = number; place = place; panicked = 0 }

-- the list's first three numbers; of a shorter list, the largest number, which no call answers
abbrev pub said_by : List ℕ → Said
said_by list =
    pick (ltb (length list) 3) (plainly 18446744073709551615 0)
    (record { number = get_or list 0 0; place = get_or list 1 0; panicked = get_or list 2 0 })

-- the number and the place are those of the case
abbrev pub agreement : Answer → Said → Bool
agreement answer said = eqb (number_of answer) said.number && eqb (place_of answer) said.place

-- what came of a case whose calls agreed with it or not
abbrev pub verdict_of : Bool → Said → Verdict
verdict_of agreed said =
    pick agreed (pick (eqb said.panicked 1) Refused (pick (is_refusal said.number) Departed Same)) Different
