use Rattle.std.proofs.Common.{arith, length-set}
use Rattle.lazy_pops.proofs.EquationPop.{first_equation, top_cells, dense_at, solve_at, dense_after, solve_after, dense_count, solve_count}
use Rattle.lazy_pops.proofs.popping.pop_equation.Goals as goal

pub overflow_sub-next : goal.overflow_sub-next
overflow_sub-next c = let w = c.requires in let t = first_equation w.0.at w.1 in let b = top_cells w.0.at t.first t.rest t.is in omega arith

pub overflow_sub-next-2 : goal.overflow_sub-next-2
overflow_sub-next-2 c = let w = c.requires in let t = first_equation w.0.at w.1 in let b = top_cells w.0.at t.first t.rest t.is in omega arith

pub overflow_add-last : goal.overflow_add-last
overflow_add-last c = let w = c.requires in let t = first_equation w.0.at w.1 in let b = top_cells w.0.at t.first t.rest t.is in omega arith

pub offset_bounds-numbers-last : goal.offset_bounds-numbers-last
offset_bounds-numbers-last c = let w = c.requires in let t = first_equation w.0.at w.1 in let b = top_cells w.0.at t.first t.rest t.is in omega arith

pub bounds-numbers-last : goal.bounds-numbers-last
bounds-numbers-last c = let w = c.requires in let t = first_equation w.0.at w.1 in let b = top_cells w.0.at t.first t.rest t.is in omega arith

pub bounds-numbers-last-2 : goal.bounds-numbers-last-2
bounds-numbers-last-2 c = let w = c.requires in let t = first_equation w.0.at w.1 in let b = top_cells w.0.at t.first t.rest t.is in omega arith

pub overflow_add-layout : goal.overflow_add-layout
overflow_add-layout c = let w = c.requires in let t = first_equation w.0.at w.1 in let b = top_cells w.0.at t.first t.rest t.is in omega arith

pub offset_bounds-numbers-layout : goal.offset_bounds-numbers-layout
offset_bounds-numbers-layout c = let w = c.requires in let t = first_equation w.0.at w.1 in let b = top_cells w.0.at t.first t.rest t.is in omega arith

pub bounds-numbers-layout : goal.bounds-numbers-layout
bounds-numbers-layout c = let w = c.requires in let t = first_equation w.0.at w.1 in let b = top_cells w.0.at t.first t.rest t.is in simp length-set (omega arith)

pub pop_dense-end-requires : goal.pop_dense-end-requires
pop_dense-end-requires c =
    let w = c.requires in let t = first_equation w.0.at w.1 in
    record { sys = w.0.sys; s = w.0.s; es = t.rest; at = dense_at w.0.at t.first t.rest t.is c.if-numbers-layout-eq0.true }

pub solve_for-solving-requires : goal.solve_for-solving-requires
solve_for-solving-requires c =
    let w = c.requires in let t = first_equation w.0.at w.1 in
    record { sys = w.0.sys; s = w.0.s; es = t.rest; at = solve_at w.0.at t.first t.rest t.is c.if-numbers-layout-eq0.false }

pub returns-then-numbers-layout-eq0 : goal.returns-then-numbers-layout-eq0
returns-then-numbers-layout-eq0 c =
    let k = c.requires.1 in
    let z = c.if-numbers-layout-eq0.true in
    record {
      after = λ sys s a. let t = first_equation a k in
          dense_after a t.first t.rest t.is _ _ _ z (c.pop_dense-end.ensures sys s t.rest (dense_at a t.first t.rest t.is z));
      cancelled_value = λ sys s a. let t = first_equation a k in dense_count a t.first t.rest t.is z;
    }

pub returns : goal.returns
returns c =
    let k = c.requires.1 in
    let z = c.if-numbers-layout-eq0.false in
    let e = c.solve_for-solving.ensures in
    record {
      after = λ sys s a. let t = first_equation a k in solve_after a t.first t.rest t.is _ _ _ z (e.solve_done sys s t.rest (solve_at a t.first t.rest t.is z));
      cancelled_value = λ sys s a. let t = first_equation a k in
          solve_count a t.first t.rest t.is z (e.cancelled_value sys s t.rest (solve_at a t.first t.rest t.is z));
    }

pub offset_bounds-numbers-last-2 : goal.offset_bounds-numbers-last-2
offset_bounds-numbers-last-2 c = let w = c.requires in let t = first_equation w.0.at w.1 in let b = top_cells w.0.at t.first t.rest t.is in omega arith
