-- The two XORs, lifted to rows.
use Rattle.std.proofs.Common.{arith}
use Rattle.dense_steps.proofs.AreaSteps.{rows_within, apart_rows, xored_became}
use Rattle.dense_steps.proofs.xor_row_in.Goals as goal

pub xor_words-requires : goal.xor_words-requires
xor_words-requires c =
    let a = c.args in
    let h = rows_within a.i a.j a.m a.w c.requires.1 c.requires.2 in
    (apart_rows a.i a.j a.w a.word c.requires.3 c.requires.0, omega (arith, c.requires.4), omega (arith, c.requires.4))

pub returns : goal.returns
returns c =
    let a = c.args in
    xored_became a.m a.w a.words.now c.requires.4 a.word a.i a.j c.requires.0 c.requires.1 c.requires.2 c.requires.3 _ _ c.xor_words.ensures c.xor_words-2.ensures
