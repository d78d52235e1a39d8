use Rattle.sparse.proofs.Loading.{loading_begin, loading_held, loading_empty, loading_turn, loading_end, equation_lent, loaded_all}
use Rattle.sparse.proofs.load.load.Goals as goal

pub loop-i-init : goal.loop-i-init
loop-i-init c = loading_begin _ _ _ _ _ _ _ c.requires.0.many c.clear.ensures.numbers_after c.clear.ensures.words_after

pub store_row-requires-clause-held : goal.store_row-requires-clause-held
store_row-requires-clause-held c = (loading_held c.loop-i.invariant, c.loop-i-test.true, c.requires.0.few_variables)

pub store_row-requires-clause-i_len : goal.store_row-requires-clause-i_len
store_row-requires-clause-i_len c = loading_empty c.loop-i.invariant c.loop-i-test.true

pub loop-i-preserved : goal.loop-i-preserved
loop-i-preserved c =
    loading_turn c.loop-i.invariant c.loop-i-test.true _ _ _ (equation_lent _ _ _ _ _ _ c.loop-i-test.true c.variables.ensures) c.store_row.ensures

pub returns : goal.returns
returns c =
    loaded_all _ _ c.clear.ensures.numbers_after c.clear.ensures.words_after (loading_end c.loop-i.invariant c.loop-i-test.false)
