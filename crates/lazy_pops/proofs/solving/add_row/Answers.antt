use Rattle.std.proofs.Common.{arith}
use Rattle.lazy_pops.proofs.RowSum.{add_cells, add_fits, len_short, len_within, len_shares, add_done}
use Rattle.lazy_pops.proofs.solving.add_row.Goals as goal

pub overflow_mul-scratch : goal.overflow_mul-scratch
overflow_mul-scratch c = let b = add_cells c.requires.at in omega arith

pub overflow_add-scratch : goal.overflow_add-scratch
overflow_add-scratch c = let b = add_cells c.requires.at in omega arith

pub overflow_add-lf : goal.overflow_add-lf
overflow_add-lf c = let b = add_cells c.requires.at in omega arith

pub offset_bounds-numbers-lengths : goal.offset_bounds-numbers-lengths
offset_bounds-numbers-lengths c = let b = add_cells c.requires.at in omega arith

pub bounds-numbers-lengths : goal.bounds-numbers-lengths
bounds-numbers-lengths c = let b = add_cells c.requires.at in omega arith

pub overflow_add-le : goal.overflow_add-le
overflow_add-le c = let b = add_cells c.requires.at in omega arith

pub offset_bounds-numbers-lengths-2 : goal.offset_bounds-numbers-lengths-2
offset_bounds-numbers-lengths-2 c = let b = add_cells c.requires.at in omega arith

pub bounds-numbers-lengths-2 : goal.bounds-numbers-lengths-2
bounds-numbers-lengths-2 c = let b = add_cells c.requires.at in omega arith

pub overflow_mul-f : goal.overflow_mul-f
overflow_mul-f c = let b = add_cells c.requires.at in omega arith

pub overflow_mul-e : goal.overflow_mul-e
overflow_mul-e c = let b = add_cells c.requires.at in omega arith

pub add_into-len-requires : goal.add_into-len-requires
add_into-len-requires c = add_fits c.requires.at

pub overflow_cast-numbers : goal.overflow_cast-numbers
overflow_cast-numbers c = let b = add_cells c.requires.at in let l = len_short c.requires.at (c.add_into-len.ensures.value, c.add_into-len.ensures.area_after) in omega arith

pub overflow_add-numbers : goal.overflow_add-numbers
overflow_add-numbers c = let b = add_cells c.requires.at in omega arith

pub offset_bounds-numbers-lengths-3 : goal.offset_bounds-numbers-lengths-3
offset_bounds-numbers-lengths-3 c = let b = add_cells c.requires.at in omega arith

pub bounds-numbers-lengths-3 : goal.bounds-numbers-lengths-3
bounds-numbers-lengths-3 c = let b = add_cells c.requires.at in omega arith

pub offset_bounds-words-e : goal.offset_bounds-words-e
offset_bounds-words-e c = let b = add_cells c.requires.at in omega arith

pub bounds-words-e : goal.bounds-words-e
bounds-words-e c = let b = add_cells c.requires.at in omega arith

pub offset_bounds-words-f : goal.offset_bounds-words-f
offset_bounds-words-f c = let b = add_cells c.requires.at in omega arith

pub bounds-words-f : goal.bounds-words-f
bounds-words-f c = let b = add_cells c.requires.at in omega arith

pub bounds-words-f-2 : goal.bounds-words-f-2
bounds-words-f-2 c = let b = add_cells c.requires.at in omega arith

pub overflow_sub-result : goal.overflow_sub-result
overflow_sub-result c = let b = len_within c.requires.at (c.add_into-len.ensures.value, c.add_into-len.ensures.area_after) in omega arith

pub returns-clause-add_done : goal.returns-clause-add_done
returns-clause-add_done c = λ sys s a. add_done a (c.add_into-len.ensures.value, c.add_into-len.ensures.area_after)

pub returns-clause-value : goal.returns-clause-value
returns-clause-value c = λ sys s a. len_shares a (c.add_into-len.ensures.value, c.add_into-len.ensures.area_after)
