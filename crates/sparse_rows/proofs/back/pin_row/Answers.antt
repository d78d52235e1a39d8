-- The first variable of a row that is not empty gets the value that meets the row.
use native.Mathlib.Omega.{arith}
use Rattle.sparse_rows.proofs.Backward.{row_fits, pin_skip, pin_listed, pin_place, pin_done}
use Rattle.sparse_rows.proofs.back.pin_row.Goals as goal

pub returns-then-l-eq0 : goal.returns-then-l-eq0
returns-then-l-eq0 c = pin_skip c.requires.0 _ c.requires.1 _ c.requires.2 c.if-l-eq0.true

pub slice_bounds-eval_vars-end : goal.slice_bounds-eval_vars-end
slice_bounds-eval_vars-end c = let h = row_fits c.requires.0 _ c.requires.1 in omega (arith, c.requires.0.numbers_room)

pub eval_vars-sum-requires : goal.eval_vars-sum-requires
eval_vars-sum-requires c = pin_listed c.requires.0 _ c.requires.1 c.args.solution.now c.requires.2

pub bounds-solution-v : goal.bounds-solution-v
bounds-solution-v c = pin_place c.requires.0 _ c.requires.1 c.args.solution.now c.requires.2 c.if-l-eq0.false

pub returns : goal.returns
returns c = pin_done c.requires.0 _ c.requires.1 c.args.solution.now c.requires.2 c.if-l-eq0.false _ c.eval_vars-sum.ensures
