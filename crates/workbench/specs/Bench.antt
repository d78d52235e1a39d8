-- The sums on the workbench: cases, and what is seen after a case by the definition of its public call.
use Rattle.std.specs.Prelude.{◌≡◌, List, [], ◌∷◌, ◌++◌, ℕ, ◌+◌, ◌-◌, length, take, drop, replicate, leb, Float}
use Rattle.std.specs.Float.{binary64}
use Rattle.std.specs.Float.Ieee.{div}
use Rattle.areas.specs.Stretch.{zeros}
use Rattle.answers.specs.Sizes.{sparse_numbers, sparse_words, lazy_numbers, lazy_words, dense_numbers, dense_words, peel_high_numbers, peel_high_bytes, peel_low_numbers, peel_low_bytes}
use Rattle.answers.specs.Calls.{Call, pick}
use Rattle.answers.specs.Numbers.{number_of, place_of}
use Rattle.equation.specs.Sums.{SumCall, sum_call}
use Rattle.sparse_rules.specs.SparseCall.{sparse_call}
use Rattle.dense.specs.Call.{dense_call}
use Rattle.slow_rules.specs.SlowCall.{slow_call}
use Rattle.lazy_calls.specs.LazyCall.{lazy_call}
use Rattle.peeling.specs.declared.numbers.Edge.{Edge}
use Rattle.peel_rules.specs.Edges.{edge}
use Rattle.peel_rules.specs.Report.{count}
use Rattle.peel_rules.specs.Calls.{PeelCall, peel_high_call, peel_low_call}

-- what is put on the bench
pub data Case : Type 0 where
  -- n, starts, variables, constants
  by_sparse : ℕ → List ℕ → List ℕ → List ℕ → Case
  by_lazy : ℕ → List ℕ → List ℕ → List ℕ → Case
  -- n, row words, rows, constants
  by_dense : ℕ → ℕ → List ℕ → List ℕ → Case
  by_slow : ℕ → ℕ → List ℕ → List ℕ → Case
  -- n, edges
  by_high : ℕ → List Edge → Case
  by_low : ℕ → List Edge → Case
  -- two lists with their constants
  by_sum : List ℕ → ℕ → List ℕ → ℕ → Case

-- what a line says of it
pub data Outcome : Type 0 where
  -- solved
  values : List ℕ → Outcome
  -- number and place
  refusal : ℕ → ℕ → Outcome
  -- 8: place, and the percentage unpeeled
  stuck_at : ℕ → Float → Outcome
  -- the variables and the constant of a sum
  summed : List ℕ → ℕ → Outcome

-- ---- what is seen after a call

-- number and place; the percentage unpeeled; the constant of a sum; the slice that is written; the areas: numbers, and words or bytes
pub record Seen : Type 0 where
  pub number : ℕ
  pub place : ℕ
  pub unpeeled : Float
  pub constant : ℕ
  pub written : List ℕ
  pub numbers : List ℕ
  pub others : List ℕ

abbrev pub of_solver : Call → Seen
of_solver call = record {
  number = number_of call.answer;
  place = place_of call.answer;
  unpeeled = count 0;
  constant = 0;
  written = call.solution;
  numbers = call.numbers;
  others = call.words;
}

abbrev pub of_peeler : PeelCall → Seen
of_peeler call = record {
  number = number_of call.answer;
  place = place_of call.answer;
  unpeeled = call.report.unpeeled;
  constant = 0;
  written = call.solution;
  numbers = call.numbers;
  others = call.bytes;
}

-- the sum, and in the place of an area what follows it
abbrev pub of_sum : SumCall → Seen
of_sum call = record {
  number = number_of call.result.answer;
  place = place_of call.result.answer;
  unpeeled = count 0;
  constant = call.result.constant;
  written = take call.result.len call.out;
  numbers = drop call.result.len call.out;
  others = [];
}

-- ---- a case on the bench

-- the cells of the slice that is written, and the room of the areas
pub record BenchRoom : Type 0 where
  pub written : ℕ
  pub numbers : ℕ
  pub others : ℕ

abbrev pub room : ℕ → ℕ → ℕ → BenchRoom
room written numbers others = record { written = written; numbers = numbers; others = others }

abbrev pub room_of : Case → BenchRoom
room_of (by_sparse n starts vars constants) = room n (sparse_numbers n (length constants)) (sparse_words (length constants))
room_of (by_lazy n starts vars constants) = room n (lazy_numbers n (length constants) (length vars)) (lazy_words (length constants))
room_of (by_dense n w rows constants) = room n (dense_numbers (length constants)) (dense_words (length constants) w)
room_of (by_slow n w rows constants) = room n (dense_numbers (length constants)) (dense_words (length constants) w)
room_of (by_high n edges) = room n (peel_high_numbers n (length edges)) (peel_high_bytes n (length edges))
room_of (by_low n edges) = room n (peel_low_numbers n) (peel_low_bytes n)
room_of (by_sum left left-c right right-c) = room (length left + length right) 0 0

-- k nines
abbrev pub nines : ℕ → List ℕ
nines k = replicate k 9

-- a call lent nines: a solution of its length, and of each area one more than its room
abbrev pub on_nines : {A : Type 0} → (List ℕ → List ℕ → List ℕ → A) → BenchRoom → A
on_nines call r = call (nines r.written) (nines (r.numbers + 1)) (nines (r.others + 1))

-- a case with its room, by the definition of its public call
abbrev pub seen_by : Case → BenchRoom → Seen
seen_by (by_sparse n starts vars constants) r = of_solver (on_nines (sparse_call n (length constants) starts vars constants) r)
seen_by (by_lazy n starts vars constants) r = of_solver (on_nines (lazy_call n (length constants) starts vars constants) r)
seen_by (by_dense n w rows constants) r = of_solver (on_nines (dense_call n (length constants) w rows constants) r)
seen_by (by_slow n w rows constants) r = of_solver (on_nines (slow_call n (length constants) w rows constants) r)
seen_by (by_high n edges) r = of_peeler (on_nines (peel_high_call n edges) r)
seen_by (by_low n edges) r = of_peeler (on_nines (peel_low_call n edges) r)
seen_by (by_sum left left-c right right-c) r = of_sum (sum_call left right left-c right-c (nines r.written))

unfoldable pub comes_to : Case → Seen
comes_to c = seen_by c (room_of c)

-- ---- what must be seen

-- after a run the room of each area is zero, and the nine past it is untouched
abbrev pub after_run : BenchRoom → ℕ → ℕ → Float → List ℕ → Seen
after_run r number place percent written = record {
  number = number;
  place = place;
  unpeeled = percent;
  constant = 0;
  written = written;
  numbers = zeros r.numbers ++ (9 ∷ []);
  others = zeros r.others ++ (9 ∷ []);
}

abbrev pub all_as_lent : BenchRoom → ℕ → ℕ → Seen
all_as_lent r number place = record {
  number = number;
  place = place;
  unpeeled = count 0;
  constant = 0;
  written = nines r.written;
  numbers = nines (r.numbers + 1);
  others = nines (r.others + 1);
}

-- every number but 0 keeps the solution as lent, and 1 to 5 the areas too; a sum is followed by zeros
abbrev pub due : BenchRoom → Outcome → Seen
due r (values x) = after_run r 0 0 (count 0) x
due r (refusal number place) = pick (leb number 5) (all_as_lent r number place) (after_run r number place (count 0) (nines r.written))
due r (stuck_at place percent) = after_run r 8 place percent (nines r.written)
due r (summed vars constant) = record {
  number = 0;
  place = 0;
  unpeeled = count 0;
  constant = constant;
  written = vars;
  numbers = zeros (r.written - length vars);
  others = [];
}

-- ---- the table

-- a case, and what its call must tell
pub record Line : Type 0 where
  pub case : Case
  pub outcome : Outcome

abbrev pub must : Case → Outcome → Line
must c o = record { case = c; outcome = o }

-- P1: no equations. P2: an empty equation. P3: {0,1}=5, {1,2}=3, {0,2}=6. P4: the last constant 7. P5: {0,1}=1, {0,2}=2
abbrev pub sparse_lines : List Line
sparse_lines =
    must (by_sparse 3 (0 ∷ []) [] []) (values (0 ∷ 0 ∷ 0 ∷ []))
    ∷ must (by_sparse 0 (0 ∷ 0 ∷ []) [] (0 ∷ [])) (values [])
    ∷ must (by_sparse 0 (0 ∷ 0 ∷ []) [] (1 ∷ [])) (refusal 6 0)
    ∷ must (by_sparse 3 (0 ∷ 2 ∷ 4 ∷ 6 ∷ []) (0 ∷ 1 ∷ 1 ∷ 2 ∷ 0 ∷ 2 ∷ []) (5 ∷ 3 ∷ 6 ∷ [])) (values (6 ∷ 3 ∷ 0 ∷ []))
    ∷ must (by_sparse 3 (0 ∷ 2 ∷ 4 ∷ 6 ∷ []) (0 ∷ 1 ∷ 1 ∷ 2 ∷ 0 ∷ 2 ∷ []) (5 ∷ 3 ∷ 7 ∷ [])) (refusal 6 0)
    ∷ must (by_sparse 3 (0 ∷ 2 ∷ 4 ∷ []) (0 ∷ 1 ∷ 0 ∷ 2 ∷ []) (1 ∷ 2 ∷ [])) (values (2 ∷ 3 ∷ 0 ∷ []))
    ∷ []

-- the same by the lazy rules; P5 differs
abbrev pub lazy_lines : List Line
lazy_lines =
    must (by_lazy 3 (0 ∷ []) [] []) (values (0 ∷ 0 ∷ 0 ∷ []))
    ∷ must (by_lazy 0 (0 ∷ 0 ∷ []) [] (0 ∷ [])) (values [])
    ∷ must (by_lazy 0 (0 ∷ 0 ∷ []) [] (1 ∷ [])) (refusal 6 0)
    ∷ must (by_lazy 3 (0 ∷ 2 ∷ 4 ∷ 6 ∷ []) (0 ∷ 1 ∷ 1 ∷ 2 ∷ 0 ∷ 2 ∷ []) (5 ∷ 3 ∷ 6 ∷ [])) (values (6 ∷ 3 ∷ 0 ∷ []))
    ∷ must (by_lazy 3 (0 ∷ 2 ∷ 4 ∷ 6 ∷ []) (0 ∷ 1 ∷ 1 ∷ 2 ∷ 0 ∷ 2 ∷ []) (5 ∷ 3 ∷ 7 ∷ [])) (refusal 6 0)
    ∷ must (by_lazy 3 (0 ∷ 2 ∷ 4 ∷ []) (0 ∷ 1 ∷ 0 ∷ 2 ∷ []) (1 ∷ 2 ∷ [])) (values (0 ∷ 1 ∷ 2 ∷ []))
    ∷ []

-- P6: (0,1,2)=5, (1,2,3)=6. P7: (0,1,2) twice, equal values or not. P8: that and (2,3,4)
abbrev pub peel_lines : (ℕ → List Edge → Case) → List Line
peel_lines by =
    must (by 4 (edge 0 1 2 5 ∷ edge 1 2 3 6 ∷ [])) (values (0 ∷ 0 ∷ 5 ∷ 3 ∷ []))
    ∷ must (by 3 (edge 0 1 2 5 ∷ edge 0 1 2 5 ∷ [])) (stuck_at 0 (count 100))
    ∷ must (by 3 (edge 0 1 2 5 ∷ edge 0 1 2 6 ∷ [])) (stuck_at 0 (count 100))
    ∷ must (by 5 (edge 0 1 2 5 ∷ edge 0 1 2 5 ∷ edge 2 3 4 7 ∷ [])) (stuck_at 1 (div binary64 (count 200) (count 3)))
    ∷ []

-- P9: a row with bits 0 and 1; and the bits at the edge of a word
abbrev pub dense_lines : (ℕ → ℕ → List ℕ → List ℕ → Case) → List Line
dense_lines by =
    must (by 2 1 (3 ∷ []) (7 ∷ [])) (values (7 ∷ 0 ∷ []))
    ∷ must (by 64 1 (9223372036854775808 ∷ []) (9 ∷ [])) (values (zeros 63 ++ (9 ∷ [])))
    ∷ must (by 65 2 (0 ∷ 1 ∷ []) (9 ∷ [])) (values (zeros 64 ++ (9 ∷ [])))
    ∷ must (by 64 2 (0 ∷ 1 ∷ []) (9 ∷ [])) (refusal 3 0)
    ∷ []

-- P10: {1,3,5} plus {3,4}, and a list plus itself
abbrev pub sum_lines : List Line
sum_lines =
    must (by_sum (1 ∷ 3 ∷ 5 ∷ []) 6 (3 ∷ 4 ∷ []) 5) (summed (1 ∷ 4 ∷ 5 ∷ []) 3)
    ∷ must (by_sum (2 ∷ 7 ∷ []) 4 (2 ∷ 7 ∷ []) 4) (summed [] 0)
    ∷ []

abbrev pub table : List Line
table = sparse_lines ++ (lazy_lines ++ (peel_lines by_high ++ (peel_lines by_low ++ (dense_lines by_dense ++ (dense_lines by_slow ++ sum_lines)))))

-- the call tells what it must, and every cell that it was lent is as it must be
abbrev pub Comes : Line → Type 0
Comes l = comes_to l.case ≡ due (room_of l.case) l.outcome
