-- The call of both peelers.
use Rattle.std.specs.Prelude.{List, Bool, ℕ, length}
use Rattle.peeling.specs.declared.numbers.Edge.{Edge}
use Rattle.peel_rules.specs.Calls.{PeelCall, peel_call}
use Rattle.peel_gates.specs.Rooms.{numbers_room, bytes_room}

-- the call of the peeler that is named by what it keeps
unfoldable pub peeling_call : Bool → ℕ → List Edge → List ℕ → List ℕ → List ℕ → PeelCall
peeling_call high n T cells numbers bytes = peel_call (numbers_room high n (length T)) (bytes_room high n (length T)) n T cells numbers bytes
