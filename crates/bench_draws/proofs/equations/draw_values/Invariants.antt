use Rattle.std.proofs.Common.{◌≡◌, take}
use Rattle.bench_draws.specs.Draws.{after, values_of}
use Rattle.bench_draws.proofs.equations.draw_values.Given as goal

abbrev pub invariant-loop-value : goal.invariant-loop-value
invariant-loop-value l =
    (l.random ≡ after l.value-index l.fn.random) × (take l.value-index l.value-items ≡ values_of l.bits l.value-index l.fn.random)
