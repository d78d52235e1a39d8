use Rattle.std.proofs.Common.{arith}
use Rattle.lazy_pops.proofs.SolvePop.{row_cells, row_fits, idle_found, idle_value, solved_at, others_at, lower_at, solve_count, solve_done}
use Rattle.lazy_pops.proofs.solving.solve_for.Goals as goal

pub overflow_add-len : goal.overflow_add-len
overflow_add-len c = let b = row_cells c.requires.at in omega arith

pub offset_bounds-numbers-layout : goal.offset_bounds-numbers-layout
offset_bounds-numbers-layout c = let b = row_cells c.requires.at in omega arith

pub bounds-numbers-layout : goal.bounds-numbers-layout
bounds-numbers-layout c = let b = row_cells c.requires.at in omega arith

pub overflow_mul-row : goal.overflow_mul-row
overflow_mul-row c = let b = row_cells c.requires.at in omega arith

pub first_idle-requires : goal.first_idle-requires
first_idle-requires c = row_fits c.requires.at

pub unwrap-v-requires : goal.unwrap-v-requires
unwrap-v-requires c = idle_found c.requires.at _ c.first_idle.ensures

pub record_solved-requires : goal.record_solved-requires
record_solved-requires c =
    let q = idle_value c.requires.at _ c.first_idle.ensures c.unwrap-v.ensures in
    record { n = c.args.layout.n; m = c.args.layout.m; sys = c.requires.sys; s = _; at = solved_at c.requires.at q }

pub add_to_others-cancelled-requires : goal.add_to_others-cancelled-requires
add_to_others-cancelled-requires c =
    let w = c.requires in
    let q = idle_value w.at _ c.first_idle.ensures c.unwrap-v.ensures in
    record { sys = w.sys; s = _; at = others_at w.at q (c.record_solved.ensures _ _ w.sys _ (solved_at w.at q)) }

pub lower_listed-equations-requires : goal.lower_listed-equations-requires
lower_listed-equations-requires c =
    let w = c.requires in
    let q = idle_value w.at _ c.first_idle.ensures c.unwrap-v.ensures in
    let o = c.add_to_others-cancelled.ensures.add_done w.sys _ (others_at w.at q (c.record_solved.ensures _ _ w.sys _ (solved_at w.at q))) in
    record { n = c.args.layout.n; sys = w.sys; s = _; at = lower_at w.at q o }

pub overflow_add-end : goal.overflow_add-end
overflow_add-end c = let b = row_cells c.requires.at in omega arith

pub returns-clause-solve_done : goal.returns-clause-solve_done
returns-clause-solve_done c = λ sys s es a.
    let q = idle_value a _ c.first_idle.ensures c.unwrap-v.ensures in
    let o = c.add_to_others-cancelled.ensures.add_done sys _ (others_at a q (c.record_solved.ensures _ _ sys _ (solved_at a q))) in
    solve_done a q o (c.lower_listed-equations.ensures _ sys _ (lower_at a q o))

pub returns-clause-cancelled_value : goal.returns-clause-cancelled_value
returns-clause-cancelled_value c = λ sys s es a.
    let q = idle_value a _ c.first_idle.ensures c.unwrap-v.ensures in
    solve_count a q (c.add_to_others-cancelled.ensures.value sys _ (others_at a q (c.record_solved.ensures _ _ sys _ (solved_at a q))))
