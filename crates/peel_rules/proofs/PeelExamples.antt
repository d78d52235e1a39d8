-- The sums on the workbench that peel.
use mathlib.Core.Path.{◌≡◌, refl}
use mathlib.Core.List.{List, [], ◌∷◌, ◌++◌}
use Prim.Native.Nat.{ℕ, zero, suc, ◌+◌, ◌*◌}
use lib.ListN.{replicate}
use lib.Ieee.{binary64, mul, div, of_int, round, units, odd, span, climb, size}
use Rattle.areas.specs.Stretch.{zeros, cleared}
use Rattle.answers.specs.Answers.{Solved, CrowdedVertex, Stuck}
use Rattle.peeling.specs.declared.numbers.Edge.{Edge}
use Rattle.peel_rules.specs.Edges.{edge, bad_edge, touches, degree, edge_at, without, side_of, pivot, first, second}
use Rattle.peel_rules.specs.Peel.{push, popped, pop, step, run, ones, start, peel, fill_one, fill, verdict, answer, crowded_from, crowded_vertex}
use Rattle.peel_rules.specs.Report.{count, no_report, report_of, percentage}
use Rattle.peel_rules.specs.Calls.{peel_high_call, peel_low_call}

-- two edges, solved; the numbers and bytes past the room stay
pub P6_low : peel_low_call 4 (edge 0 1 2 5 ∷ edge 1 2 3 6 ∷ []) (9 ∷ 9 ∷ 9 ∷ 9 ∷ []) (replicate 9 7) (replicate 6 7)
    ≡ record { answer = Solved; report = no_report; solution = 0 ∷ 0 ∷ 5 ∷ 3 ∷ []; numbers = zeros 8 ++ 7 ∷ []; bytes = zeros 4 ++ 7 ∷ 7 ∷ [] }
unfolding bad_edge touches degree edge_at without side_of pivot first second push popped pop step run ones start peel fill_one fill verdict answer crowded_from crowded_vertex cleared
P6_low = refl

pub P6_high : peel_high_call 4 (edge 0 1 2 5 ∷ edge 1 2 3 6 ∷ []) (9 ∷ 9 ∷ 9 ∷ 9 ∷ []) (replicate 11 7) (replicate 6 7)
    ≡ record { answer = Solved; report = no_report; solution = 0 ∷ 0 ∷ 5 ∷ 3 ∷ []; numbers = zeros 10 ++ 7 ∷ []; bytes = zeros 6 }
unfolding bad_edge touches degree edge_at without side_of pivot first second push popped pop step run ones start peel fill_one fill verdict answer crowded_from crowded_vertex cleared
P6_high = refl

-- an edge twice, its values equal or not: nothing can be peeled
pub P7 : (v w : ℕ) → peel_low_call 3 (edge 0 1 2 v ∷ edge 0 1 2 w ∷ []) (9 ∷ 9 ∷ 9 ∷ []) (zeros 6) (zeros 3)
    ≡ record { answer = Stuck 0; report = report_of 0 2; solution = 9 ∷ 9 ∷ 9 ∷ []; numbers = zeros 6; bytes = zeros 3 }
unfolding bad_edge touches degree edge_at without side_of pivot first second push popped pop step run ones start peel fill_one fill verdict answer crowded_from crowded_vertex cleared
P7 v w = refl

-- 100.0 percent
pub P7_percent : percentage 2 2 ≡ count 100
unfolding of_int mul div round units odd span climb size
P7_percent = refl

-- that and another edge: one of three is peeled
pub P8 : (u v w : ℕ) → peel_low_call 5 (edge 0 1 2 u ∷ edge 0 1 2 v ∷ edge 2 3 4 w ∷ []) (zeros 5) (zeros 10) (zeros 5)
    ≡ record { answer = Stuck 1; report = report_of 1 3; solution = zeros 5; numbers = zeros 10; bytes = zeros 5 }
unfolding bad_edge touches degree edge_at without side_of pivot first second push popped pop step run ones start peel fill_one fill verdict answer crowded_from crowded_vertex cleared
P8 u v w = refl

-- 200.0 divided by 3.0
pub P8_percent : percentage 2 3 ≡ div binary64 (count 200) (count 3)
unfolding of_int mul div round units odd span climb size
P8_percent = refl

-- vertex 0 on k edges, whose other vertices are 2i + 1 and 2i + 2
abbrev star : ℕ → List Edge
star zero = []
star (suc i) = edge 0 (2 * i + 1) (2 * i + 2) 0 ∷ star i

-- a vertex on 63 edges is served, on 64 it is a crowd
pub served : (peel_low_call 127 (star 63) (zeros 127) (zeros 254) (zeros 127)).answer ≡ Solved
unfolding bad_edge touches degree edge_at without side_of pivot first second push popped pop step run ones start peel fill_one fill verdict answer crowded_from crowded_vertex cleared
served = refl

pub crowded : (peel_low_call 129 (star 64) (zeros 129) (zeros 258) (zeros 129)).answer ≡ CrowdedVertex 0
unfolding bad_edge touches degree edge_at without side_of pivot first second push popped pop step run ones start peel fill_one fill verdict answer crowded_from crowded_vertex cleared
crowded = refl
