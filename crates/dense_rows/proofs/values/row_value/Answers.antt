-- The laws of `Summing`.
use Rattle.std.proofs.Common.{rules}
use Rattle.dense_rows.proofs.SetBits.{summing_listed, summing_turn, summing_end}
use Rattle.dense_rows.proofs.values.row_value.Goals as goal

pub word_value-value-requires : goal.word_value-value-requires
word_value-value-requires c = summing_listed c.loop-j.invariant c.loop-j-test.true

pub loop-j-preserved : goal.loop-j-preserved
loop-j-preserved c = summing_turn c.loop-j.invariant c.loop-j-test.true c.word_value-value.ensures

pub returns : goal.returns
returns c = search (rules, summing_end)
