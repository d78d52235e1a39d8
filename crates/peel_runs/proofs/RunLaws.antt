-- The parts of a peeler's run, put together.
use mathlib.Core.Path.{◌≡◌, refl, ap, ◌∙◌}
use Rattle.std.proofs.Common.{Option, Some, None}
use mathlib.Core.List.{List, []}
use mathlib.Core.Bool.{Bool, true, false}
use Prim.Native.Nat.{ℕ}
use native.Mathlib.Omega.{arith}
use lib.ListN.{length}
use lib.Dec.{ltb}
use borrow.Author.Tests.{lt-ltb, le-ltb}
use Rattle.areas.specs.Stretch.{cleared}
use Rattle.areas.proofs.Stretch.{cleared_same}
use Rattle.answers.specs.Numbers.{number_of, place_of}
use Rattle.answers.specs.Answers.{CrowdedVertex}
use Rattle.peeling.specs.declared.numbers.Edge.{Edge}
use Rattle.peeling.specs.declared.numbers.Vertex.{Vertex}
use Rattle.peel_rules.specs.Peel.{Outcome, solved, stuck, answer, crowded_vertex}
use Rattle.peel_rules.specs.Report.{no_report}
use Rattle.peel_rules.specs.Calls.{PeelCall, ended, ran}
use Rattle.peel_gates.specs.Ends.{Peeling}
use Rattle.peel_gates.specs.Rooms.{numbers_room, bytes_room}
use Rattle.peel_gates.specs.Rooms.{Left}
use Rattle.peel_turns.proofs.PictureLaws.{drop_agrees}
use Rattle.peel_parts.specs.Parts.{GraphBuilt, Says, ran_says, Past}
use Rattle.peel_runs.specs.Runs.{BuiltAsks, Leaves, run_says, run_call}
use Rattle.peel_parts.proofs.PartLaws.{room_least}

-- number and place go with the answer
pub leaves : {c : PeelCall} {r : Peeling} {s n b : List ℕ} → r.answer ≡ c.answer → r.report ≡ c.report → s ≡ c.solution → n ≡ c.numbers → b ≡ c.bytes → Leaves c r s n b
leaves a e x y z = record { answer = a; number = ap number_of a; place = ap place_of a; report = e; solution_is = x; numbers_are = y; bytes_are = z }

pub past_more : {high : Bool} {n : ℕ} {T : List Edge} {numbers bytes d b d' b' : List ℕ} → Past high n T numbers bytes d b → Past high n T d b d' b' → Past high n T numbers bytes d' b'
past_more p q = record { long = q.long ∙ p.long; long_b = q.long_b ∙ p.long_b; rest = q.rest ∙ p.rest; rest_b = q.rest_b ∙ p.rest_b }

-- ---- a vertex lies on a crowd of edges, or none does

pub ends_crowded : {high : Bool} {n : ℕ} {v : Vertex} {T : List Edge} {cells numbers bytes : List ℕ} → BuiltAsks high n (Some v) T cells numbers bytes
    → Says (run_says high n T cells) (record { answer = CrowdedVertex v.0; report = no_report }) cells
unfolding run_says
ends_crowded {n = n} {v = v} {T = T} a =
    let c : ltb (crowded_vertex n T) n ≡ true = lt-ltb (crowded_vertex n T) n (omega (arith, a.crowd, a.found)) in
    simp c (record { answer = ap CrowdedVertex a.crowd; report = refl; solution_is = refl })

module _ {high : Bool} {n : ℕ} {T : List Edge} {cells numbers bytes : List ℕ} (a : BuiltAsks high n None T cells numbers bytes) where
  pub ran_on : {r : Peeling} {x : List ℕ} → Says (ran_says high n T cells) r x → Says (run_says high n T cells) r x
  unfolding ran_says run_says
  ran_on l = simp (le-ltb (crowded_vertex n T) n (omega (arith, a.crowd))) l

-- ---- the run of an admitted call

pub past_building : {high : Bool} {n : ℕ} {T : List Edge} {numbers bytes d b : List ℕ} {low : Option Vertex} → GraphBuilt n T numbers bytes d b low → Past high n T numbers bytes d b
past_building {high} {n} {T} {numbers} {bytes} {d} {b} g = record {
  long = g.long;
  long_b = g.long_b;
  rest = drop_agrees n (numbers_room high n (length T)) d numbers (omega (arith, (room_least high n (length T)).0)) g.rest;
  rest_b = drop_agrees n (bytes_room high n (length T)) b bytes (room_least high n (length T)).1 g.rest_b;
}

pub run_left : {high : Bool} {n : ℕ} {T : List Edge} (cells : List ℕ) {numbers bytes x d b d' b' : List ℕ} {r : Peeling} → Says (run_says high n T cells) r x → Past high n T numbers bytes d b
    → Left high n (length T) d b d' b' → Leaves (run_call high n T cells numbers bytes) r x d' b'
unfolding run_says run_call
run_left {high} {n} {T} cells {numbers} {bytes} {x} {d} {b} {d'} {b'} {r} says past l = go (ltb (crowded_vertex n T) n) refl (answer n T) refl says
  where
    z : (d' ≡ cleared (numbers_room high n (length T)) numbers) × (b' ≡ cleared (bytes_room high n (length T)) bytes)
    z = (
      l.numbers_left ∙ cleared_same (numbers_room high n (length T)) d numbers past.rest,
      l.bytes_left ∙ cleared_same (bytes_room high n (length T)) b bytes past.rest_b,
    )

    go : (t : Bool) → ltb (crowded_vertex n T) n ≡ t → (o : Outcome) → answer n T ≡ o → Says (run_says high n T cells) r x → Leaves (run_call high n T cells numbers bytes) r x d' b'
    go true q o ho k =
        let c : Says (ended (numbers_room high n (length T)) (bytes_room high n (length T)) (CrowdedVertex (crowded_vertex n T)) no_report cells [] []) r x = rw q at k in
        rw q (leaves c.answer c.report c.solution_is z.0 z.1)
    go false q (solved y) ho k =
        let c : Says (ran (numbers_room high n (length T)) (bytes_room high n (length T)) (length T) (solved y) cells [] []) r x = rw (q, ho) at k in
        rw (q, ho) (leaves c.answer c.report c.solution_is z.0 z.1)
    go false q (stuck j) ho k =
        let c : Says (ran (numbers_room high n (length T)) (bytes_room high n (length T)) (length T) (stuck j) cells [] []) r x = rw (q, ho) at k in
        rw (q, ho) (leaves c.answer c.report c.solution_is z.0 z.1)
