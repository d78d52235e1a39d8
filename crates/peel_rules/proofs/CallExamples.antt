-- Isolation of the peelers' calls at work: two builds that share our edges, computed, and what the theorem says of them.
use mathlib.Core.Path.{◌≡◌, refl}
use mathlib.Core.List.{[], ◌∷◌}
use mathlib.Core.Bool.{Bool, true}
use Prim.Native.Nat.{ℕ}
use lib.Dec.{ltb}
use lib.ListN.{get_or, replicate}
use Rattle.gf2.specs.Equation.{Each}
use Rattle.areas.specs.Stretch.{cleared}
use Rattle.answers.specs.Answers.{Solved}
use Rattle.peel_rules.specs.Edges.{edge, bad_edge, touches, degree, edge_at, without, side_of, pivot, first, second}
use Rattle.peel_rules.specs.Peel.{push, popped, pop, step, run, ones, start, peel, fill_one, fill, verdict, answer, crowded_from, crowded_vertex}
use Rattle.peel_rules.specs.Ours.{Closed, keep}
use Rattle.peel_rules.specs.Calls.{peel_high_call, peel_low_call}
use Rattle.peel_rules.proofs.CallTheorems.{LentToPeel, high_room, low_room, peel_on, peel_call_isolated}

-- cells 0 to 3 are ours: P6
abbrev ours : ℕ → Bool
ours w = ltb w 4

-- P6, then an edge of others
abbrev saturday : LentToPeel
saturday = record {
  es = edge 0 1 2 5 ∷ edge 4 5 6 7 ∷ edge 1 2 3 6 ∷ [];
  solution = replicate 8 9;
  numbers = replicate 19 9;
  bytes = replicate 11 9;
}

-- P6 among two other edges of others
abbrev sunday : LentToPeel
sunday = record {
  es = edge 5 6 7 1 ∷ edge 0 1 2 5 ∷ edge 4 5 7 2 ∷ edge 1 2 3 6 ∷ [];
  solution = replicate 8 9;
  numbers = replicate 16 9;
  bytes = replicate 8 9;
}

pub saturday_filled : ((peel_high_call 8 saturday.es saturday.solution saturday.numbers saturday.bytes).answer ≡ Solved)
    × ((peel_high_call 8 saturday.es saturday.solution saturday.numbers saturday.bytes).solution ≡ 0 ∷ 0 ∷ 5 ∷ 3 ∷ 0 ∷ 0 ∷ 7 ∷ 0 ∷ [])
unfolding bad_edge touches degree edge_at without side_of pivot first second push popped pop step run ones start peel fill_one fill verdict answer crowded_from crowded_vertex cleared
saturday_filled = (refl, refl)

pub sunday_filled : ((peel_low_call 8 sunday.es sunday.solution sunday.numbers sunday.bytes).answer ≡ Solved)
    × ((peel_low_call 8 sunday.es sunday.solution sunday.numbers sunday.bytes).solution ≡ 0 ∷ 0 ∷ 5 ∷ 3 ∷ 0 ∷ 0 ∷ 3 ∷ 2 ∷ [])
unfolding bad_edge touches degree edge_at without side_of pivot first second push popped pop step run ones start peel fill_one fill verdict answer crowded_from crowded_vertex cleared
sunday_filled = (refl, refl)

saturday_closed : Each (Closed ours) saturday.es
saturday_closed = (record { same_b = refl; same_c = refl }, (record { same_b = refl; same_c = refl }, (record { same_b = refl; same_c = refl }, tt)))

sunday_closed : Each (Closed ours) sunday.es
sunday_closed = (
  record { same_b = refl; same_c = refl },
  (record { same_b = refl; same_c = refl }, (record { same_b = refl; same_c = refl }, (record { same_b = refl; same_c = refl }, tt))),
)

same_ours : keep ours saturday.es ≡ keep ours sunday.es
unfolding keep
same_ours = refl

-- one build by the high-memory peeler, the other by the low-memory peeler: our four cells are the same
pub days_agree : (w : ℕ) → ours w ≡ true → get_or (peel_on (high_room 8 saturday) 8 saturday).solution w 0 ≡ get_or (peel_on (low_room 8 sunday) 8 sunday).solution w 0
days_agree =
    peel_call_isolated ours 8 (high_room 8 saturday) (low_room 8 sunday) saturday sunday saturday_closed sunday_closed same_ours saturday_filled.0 sunday_filled.0
