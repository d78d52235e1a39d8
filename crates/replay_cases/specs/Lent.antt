-- Lengths that the replay has memory for, and what must come of a call that was lent them.
use Rattle.std.specs.Prelude.{Bool, true, false, ◌&&◌, List, ℕ, ◌+◌, ◌-◌, ◌≤◌, ltb, leb, eqb}
use Rattle.answers.specs.Calls.{pick}
use Rattle.answers.specs.Answers.{Answer}
use Rattle.lent_cells.specs.Cells.{same_cells, left_cells}
use Rattle.replay_cases.specs.declared.lend.Room.{Room}
use Rattle.replay_cases.specs.declared.lend.Way.{Way}
use Rattle.replay_cases.specs.declared.lend.Way.TheVariants.{Exact, More, ShortNumbers, ShortOthers, LongSolution}
use Rattle.replay_cases.specs.declared.said.Said.{Said}
use Rattle.replay_cases.specs.Judged.{is_refusal, plainly, agreement}

pub record Lendable (r : Room) : Type 0 where
  pub solution : r.solution ≤ 1024
  pub numbers : r.numbers ≤ 65536
  pub others : r.others ≤ 1024

abbrev pub no_room : Room
no_room = record { solution = 0; numbers = 0; others = 0 }

abbrev pub room_of : ℕ → ℕ → ℕ → Room
room_of solution numbers others = record { solution = solution; numbers = numbers; others = others }

-- the way of each number: 0 and what is past the last are exactly the room
abbrev pub way_of : ℕ → Way
way_of k = pick (eqb k 1) More (pick (eqb k 2) ShortNumbers (pick (eqb k 3) ShortOthers (pick (eqb k 4) LongSolution Exact)))

-- exactly the room; more; one number too few; one word or byte too few; one cell of the solution too many
abbrev pub lengths_for : Way → Room → Room
lengths_for Exact room = room
lengths_for More room = room_of room.solution (room.numbers + 3) (room.others + 2)
lengths_for ShortNumbers room = room_of room.solution (room.numbers - 1) room.others
lengths_for ShortOthers room = room_of room.solution room.numbers (room.others - 1)
lengths_for LongSolution room = room_of (room.solution + 1) room.numbers room.others

-- the lengths to lend: none where there is no memory for that much
abbrev pub lent_for : Way → Room → Room
lent_for way room =
    pick (leb room.solution 1021 && (leb room.numbers 65533 && leb room.others 1021)) (lengths_for way room) no_room

-- a work area is lent one cell too few
abbrev pub lacking : Way → Room → Bool
lacking ShortNumbers room = ltb 0 room.numbers
lacking ShortOthers room = ltb 0 room.others
lacking _ room = false

-- the solution is lent one cell too many
abbrev pub overlong : Way → Bool
overlong LongSolution = true
overlong _ = false

-- a refusal that the case says, then 5 for a work area, then 4 for the solution, else what the case says
abbrev pub wanted_for : Way → Room → Said → Said
wanted_for way room said =
    pick (is_refusal said.number) said (pick (lacking way room) (plainly 5 0) (pick (overlong way) (plainly 4 0) said))

-- all of the room after a run, none of it after a refusal
abbrev pub zeros_after : ℕ → ℕ → ℕ
zeros_after number room = pick (is_refusal number) 0 room

-- the expected solution after 0, the marks after every other number
abbrev pub solution_left : ℕ → List ℕ → List ℕ → Bool
solution_left number solution expected = pick (eqb number 0) (same_cells solution expected) (left_cells 0 solution)

-- the answer, the solution, and both areas: zeros in the room after a run, and the marks everywhere else
abbrev pub judged_by : Answer → Said → Room → List ℕ → List ℕ → List ℕ → List ℕ → Bool
judged_by answer want room solution found numbers words =
    agreement answer want
    && (solution_left want.number solution found
    && (left_cells (zeros_after want.number room.numbers) numbers && left_cells (zeros_after want.number room.others) words))
