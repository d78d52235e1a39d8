-- What a call on a graph or a stack replies, in the three numbers that the file has for it.
use Rattle.std.specs.Prelude.{Bool, ◌&&◌, List, ℕ, ◌+◌, leb, eqb, length, get_or, Result, Ok, Err, Option, Some, None}
use Rattle.answers.specs.Numbers.{number_of}
use Rattle.answers.specs.Answers.{Answer}
use Rattle.answers.specs.Answers.{Solved}
use Rattle.peeling.specs.declared.numbers.Vertex.{Vertex}
use Rattle.stack_steps.specs.Stacks.{Popped, Got, Empty, Refused}
use Rattle.replay_graphs.specs.declared.replies.Reply.{Reply}

abbrev pub valued_reply : Answer → ℕ → ℕ → Reply
valued_reply answer value side = record { number = number_of answer; value = value; side = side }

-- what the code's result of a pop comes to, by what its reasons come to
abbrev pub popped_by : {E : Type 0} → (E → Answer) → Result (Option Vertex) E → Popped
popped_by f (Ok (Some v)) = Got v
popped_by f (Ok None) = Empty
popped_by f (Err e) = Refused (f e)

-- the vertex popped, or 11 where there is none
abbrev pub popped_reply : Popped → Reply
popped_reply (Got v) = valued_reply Solved v.0 0
popped_reply Empty = record { number = 11; value = 0; side = 0 }
popped_reply (Refused answer) = valued_reply answer 0 0

-- the three numbers from `at` on are there, and are the reply
abbrev pub is_reply : Reply → List ℕ → ℕ → Bool
is_reply reply replies at =
    leb (at + 3) (length replies)
    && (eqb reply.number (get_or replies at 0) && (eqb reply.value (get_or replies (at + 1) 0) && eqb reply.side (get_or replies (at + 2) 0)))
