-- A row that has no variables takes an equation.
use Rattle.std.proofs.Common.{arith}
use Rattle.areas.proofs.Offsets.{row_before}
use Rattle.rows.proofs.Loading.{store_short, store_fits, store_done}
use Rattle.rows.proofs.store_row.Goals as goal

pub overflow_mul-i : goal.overflow_mul-i
overflow_mul-i c =
    let h = row_before c.args.i c.args.m c.args.n c.requires.held.1 in record { fits = omega (arith, c.requires.held.0.numbers_room) }

pub copy-requires : goal.copy-requires
copy-requires c = store_fits c.requires.held.0 c.args.i c.requires.held.1 c.args.vars.now c.requires.rising

pub overflow_cast-numbers : goal.overflow_cast-numbers
overflow_cast-numbers c =
    let h = store_short c.requires.held.0 c.args.i c.requires.held.1 c.args.vars.now c.requires.rising in omega (arith, c.requires.held.2)

pub returns : goal.returns
returns c = store_done c.requires.held.0 c.args.i c.requires.held.1 c.args.vars.now c.requires.rising _ _ c.requires.i_len c.copy.ensures
