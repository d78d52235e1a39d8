-- What counting an answer or a comparison adds to a tally.
use Rattle.std.specs.Prelude.{ℕ, ◌+◌, ◌*◌, ◌%◌, ◌^◌, Bool, List, slice_index, slice_set}
use Rattle.answers.specs.Calls.{pick}
use Rattle.answers.specs.Numbers.{number_of}
use Rattle.answers.specs.Answers.{Answer}
use Rattle.bench_checks.specs.declared.tally.Caller.{Caller}
use Rattle.bench_checks.specs.declared.tally.Caller.TheVariants.{Sparse, Dense, Lazy, Check, High, Low, Lookup, Slow}

-- the row of what gave an answer
abbrev pub row_of : Caller → ℕ
row_of Sparse = 0
row_of Dense = 1
row_of Lazy = 2
row_of Check = 3
row_of High = 4
row_of Low = 5
row_of Lookup = 6
row_of Slow = 7

-- one more in a cell; a count past a 64-bit word begins anew
unfoldable pub one_more : ℕ → List ℕ → List ℕ
one_more k tally = slice_set tally k ((slice_index tally k + 1) % 2 ^ 64)

-- the answer's column in the row of what gave it
abbrev pub counted_in : ℕ → Answer → List ℕ → List ℕ
counted_in row answer tally = one_more (row * 11 + number_of answer) tally

-- a comparison, and a difference if it was not good
abbrev pub held_to : Bool → List ℕ → List ℕ
held_to good tally = pick good (one_more 88 tally) (one_more 89 (one_more 88 tally))
