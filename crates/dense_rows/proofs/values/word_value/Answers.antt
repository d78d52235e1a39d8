-- The laws of `Valuing`.
use Rattle.std.proofs.Common.{rules}
use Rattle.dense_rows.proofs.SetBits.{valuing_place, valuing_turn, valuing_end}
use Rattle.dense_rows.proofs.values.word_value.Goals as goal

pub overflow_add-value : goal.overflow_add-value
overflow_add-value c = let h = valuing_place c.loop-left.invariant c.loop-left-test.true in search rules

pub offset_bounds-values-base : goal.offset_bounds-values-base
offset_bounds-values-base c = let h = valuing_place c.loop-left.invariant c.loop-left-test.true in search rules

pub bounds-values-base : goal.bounds-values-base
bounds-values-base c = let h = valuing_place c.loop-left.invariant c.loop-left-test.true in search rules

pub loop-left-preserved : goal.loop-left-preserved
loop-left-preserved c = search (rules, valuing_turn)

pub returns : goal.returns
returns c = search (rules, valuing_end)
