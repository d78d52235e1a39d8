-- A turn of the peeling that is handed the edge of the vertex on top, and tells the next one.
use Rattle.std.specs.Prelude.{◌≡◌, List, Bool, ℕ, ◌+◌, ◌-◌, ◌%◌, ◌≤◌, ◌<◌, length, get_or}
use Rattle.answers.specs.Sizes.{max_variables}
use Rattle.peeling.specs.declared.numbers.Edge.{Edge}
use Rattle.peel_turns.specs.declared.visiting.Heads.{Heads}
use Rattle.peel_steps.specs.Pictures.{kept_numbers, kept_bytes}
use Rattle.peel_turns.specs.Steps.{TakesOff, TakenOff, Keeps, top_of, next_of, Tops}

-- what a vertex that has an edge asks
pub record BusyOn (high : Bool) (n stack peeled : ℕ) (e : Edge) (numbers bytes : List ℕ) (v i t : ℕ) : Type 0 where
  pub keeps : Keeps high n peeled numbers bytes
  pub takes : TakesOff n (stack - 1) (kept_numbers high n peeled v i numbers) (kept_bytes high n peeled t bytes) v i t e

-- what a turn asks: the vertex below can be read too, since its edge is told
pub record TurnsOn (high : Bool) (n stack peeled : ℕ) (e : Edge) (numbers bytes : List ℕ) : Type 0 where
  pub some_left : 0 < stack
  pub tops : Tops n stack numbers bytes
  pub next< : Tops n (stack - 1) numbers bytes
  pub few : peeled < max_variables
  pub busy : 4 ≤ get_or bytes (top_of n stack numbers) 0
      → BusyOn high n stack peeled e numbers bytes (top_of n stack numbers) (get_or numbers (top_of n stack numbers) 0) (get_or bytes (top_of n stack numbers) 0 % 4)

-- what it leaves, and the edge to read next
pub record TurnedOn (high : Bool) (n stack peeled : ℕ) (e : Edge) (numbers bytes numbers' bytes' : List ℕ) (r : Heads) : Type 0 where
  pub next : r.next ≡ next_of n r.stack numbers' bytes'
  pub long : length numbers' ≡ length numbers
  pub long_b : length bytes' ≡ length bytes
  pub skipped : get_or bytes (top_of n stack numbers) 0 < 4 → (numbers' ≡ numbers) × (bytes' ≡ bytes) × (r.stack ≡ stack - 1) × (r.peeled ≡ peeled)
  pub took : 4 ≤ get_or bytes (top_of n stack numbers) 0
      → TakenOff n (stack - 1) (kept_numbers high n peeled (top_of n stack numbers) (get_or numbers (top_of n stack numbers) 0) numbers)
      (kept_bytes high n peeled (get_or bytes (top_of n stack numbers) 0 % 4) bytes) numbers' bytes'
      (top_of n stack numbers) (get_or numbers (top_of n stack numbers) 0) (get_or bytes (top_of n stack numbers) 0 % 4) e r.stack
      × (r.peeled ≡ peeled + 1)
