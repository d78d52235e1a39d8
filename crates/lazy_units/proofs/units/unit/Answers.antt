use Rattle.std.proofs.Common.{arith, ◌∙◌}
use Rattle.lazy_units.proofs.UnitCases.{pop_at, pop_gone, done_fits, clear_at, clear_gone, last_gone, pop_counted, clear_counted, last_counted}
use Rattle.lazy_units.proofs.units.unit.Goals as goal

pub pop-requires : goal.pop-requires
pop-requires c = let w = c.requires in record { sys = w.sys; s = w.s; at = pop_at w.at c.if-stand-ne0.true }

pub overflow_add-stand : goal.overflow_add-stand
overflow_add-stand c = let b = done_fits c.requires.at in omega arith

pub clear_row-requires : goal.clear_row-requires
clear_row-requires c = let w = c.requires in record { sys = w.sys; s = w.s; at = clear_at w.at c.if-stand-ne0.false c.if-stand.true }

pub finish-requires : goal.finish-requires
finish-requires c = c.requires

pub returns-then-stand-ne0 : goal.returns-then-stand-ne0
returns-then-stand-ne0 c =
    let z = c.if-stand-ne0.true in
    let e = c.pop.ensures in
    let g = c.going.ensures in
    record {
      gone = λ sys s a. rw g.end_value (pop_gone a _ _ _ z (e.after sys s (pop_at a z)));
      cancelled_value = λ sys s a. g.cancelled_value ∙ pop_counted a z (e.cancelled_value sys s (pop_at a z));
    }

pub returns-then-stand : goal.returns-then-stand
returns-then-stand c =
    let z = c.if-stand-ne0.false in
    let h = c.if-stand.true in
    let e = c.clear_row.ensures in
    let g = c.going-then-stand.ensures in
    record {
      gone = λ sys s a. rw g.end_value (clear_gone a _ _ _ z h (e.going sys s (clear_at a z h)));
      cancelled_value = λ sys s a. g.cancelled_value ∙ clear_counted a z h (e.cancelled_value sys s (clear_at a z h));
    }

pub returns-in-Ok : goal.returns-in-Ok
returns-in-Ok c =
    let z = c.if-stand-ne0.false in
    let h = c.if-stand.false in
    record { gone = λ sys s a. last_gone a _ _ z h (c.in-Ok.ensures sys s a); cancelled_value = λ sys s a. last_counted a z h }

pub returns-in-Err : goal.returns-in-Err
returns-in-Err c =
    let z = c.if-stand-ne0.false in
    let h = c.if-stand.false in
    record { gone = λ sys s a. last_gone a _ _ z h (c.in-Err.ensures sys s a); cancelled_value = λ sys s a. last_counted a z h }
