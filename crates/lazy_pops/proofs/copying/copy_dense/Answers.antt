use Rattle.std.proofs.Common.{arith}
use Rattle.lazy_pops.proofs.DenseWriting.{copy_cells, copy_done}
use Rattle.lazy_pops.proofs.copying.copy_dense.Goals as goal

pub overflow_mul-e : goal.overflow_mul-e
overflow_mul-e c = let b = copy_cells c.requires.at in omega arith

pub overflow_mul-d : goal.overflow_mul-d
overflow_mul-d c = let b = copy_cells c.requires.at in omega arith

pub overflow_add-dense : goal.overflow_add-dense
overflow_add-dense c = let b = copy_cells c.requires.at in omega arith

pub copy_within-requires : goal.copy_within-requires
copy_within-requires c = let b = copy_cells c.requires.at in (omega arith, omega arith)

pub overflow_cast-numbers : goal.overflow_cast-numbers
overflow_cast-numbers c = let b = copy_cells c.requires.at in omega arith

pub overflow_mul-numbers : goal.overflow_mul-numbers
overflow_mul-numbers c = let b = copy_cells c.requires.at in omega arith

pub overflow_add-numbers : goal.overflow_add-numbers
overflow_add-numbers c = let b = copy_cells c.requires.at in omega arith

pub overflow_add-numbers-2 : goal.overflow_add-numbers-2
overflow_add-numbers-2 c = let b = copy_cells c.requires.at in omega arith

pub overflow_add-numbers-3 : goal.overflow_add-numbers-3
overflow_add-numbers-3 c = let b = copy_cells c.requires.at in omega arith

pub offset_bounds-numbers-dense : goal.offset_bounds-numbers-dense
offset_bounds-numbers-dense c = let b = copy_cells c.requires.at in omega arith

pub bounds-numbers-dense : goal.bounds-numbers-dense
bounds-numbers-dense c = let b = copy_cells c.requires.at in omega arith

pub offset_bounds-words-e : goal.offset_bounds-words-e
offset_bounds-words-e c = let b = copy_cells c.requires.at in omega arith

pub bounds-words-e : goal.bounds-words-e
bounds-words-e c = let b = copy_cells c.requires.at in omega arith

pub overflow_add-words : goal.overflow_add-words
overflow_add-words c = let b = copy_cells c.requires.at in omega arith

pub offset_bounds-words-m : goal.offset_bounds-words-m
offset_bounds-words-m c = let b = copy_cells c.requires.at in omega arith

pub bounds-words-m : goal.bounds-words-m
bounds-words-m c = let b = copy_cells c.requires.at in omega arith

pub returns : goal.returns
returns c = λ sys s a. rw c.copy_within.ensures (copy_done a)
