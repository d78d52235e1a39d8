-- A stack's pop comes to what it says.
use Rattle.std.proofs.Common.{◌≡◌, refl, Result, Ok, Err, Option, Some, None}
use Rattle.answers.specs.declared.refusal.Refusal.{Refusal}
use Rattle.answers.specs.Answers.{refusal_of}
use Rattle.peeling.specs.declared.numbers.Vertex.{Vertex}
use Rattle.stack_steps.specs.Stacks.{popped_of}
use Rattle.replay_graphs.specs.Replies.{popped_by}

pub popped_by_refusals : (r : Result (Option Vertex) Refusal) → popped_by refusal_of r ≡ popped_of r
popped_by_refusals (Ok (Some v)) = refl
popped_by_refusals (Ok None) = refl
popped_by_refusals (Err r) = refl
