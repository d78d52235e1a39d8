use Rattle.std.proofs.Common.{arith, length-set}
use Rattle.lazy_pops.proofs.Recording.{solved_cells, solved_done}
use Rattle.lazy_pops.proofs.solving.record_solved.Goals as goal

pub overflow_add-numbers : goal.overflow_add-numbers
overflow_add-numbers c = let b = solved_cells c.requires.at in omega arith

pub offset_bounds-numbers-layout : goal.offset_bounds-numbers-layout
offset_bounds-numbers-layout c = let b = solved_cells c.requires.at in omega arith

pub bounds-numbers-layout : goal.bounds-numbers-layout
bounds-numbers-layout c = let b = solved_cells c.requires.at in omega arith

pub overflow_add-numbers-2 : goal.overflow_add-numbers-2
overflow_add-numbers-2 c = let b = solved_cells c.requires.at in omega arith

pub offset_bounds-numbers-layout-2 : goal.offset_bounds-numbers-layout-2
offset_bounds-numbers-layout-2 c = let b = solved_cells c.requires.at in omega arith

pub bounds-numbers-layout-2 : goal.bounds-numbers-layout-2
bounds-numbers-layout-2 c = let b = solved_cells c.requires.at in simp length-set (omega arith)

pub overflow_add-numbers-3 : goal.overflow_add-numbers-3
overflow_add-numbers-3 c = let b = solved_cells c.requires.at in omega arith

pub offset_bounds-numbers-layout-3 : goal.offset_bounds-numbers-layout-3
offset_bounds-numbers-layout-3 c = let b = solved_cells c.requires.at in omega arith

pub bounds-numbers-layout-3 : goal.bounds-numbers-layout-3
bounds-numbers-layout-3 c = let b = solved_cells c.requires.at in simp length-set (omega arith)

pub returns : goal.returns
returns c = λ n m sys s a. solved_done _ a
