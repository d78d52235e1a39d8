use Rattle.std.proofs.Common.{◌≡◌, refl, arith, ap, Option, Some, None, Result, Ok}
use Rattle.rows.specs.declared.counted.Unsolvable.{Unsolvable}
use Rattle.lazy_setup.specs.declared.Stand.{Stand}
use Rattle.lazy_pops.specs.Step.{More, Solved}
use Rattle.lazy_units.specs.Units.{unit_step_of}
use Rattle.lazy_units.proofs.RunTurns.{run_begin, run_turn, run_nearer, run_solved, run_refused, count_solved, count_refused, run_room}
use Rattle.lazy_units.proofs.units.run_units.Goals as goal

more_is : (r : Result (Option Stand) Unsolvable) (o : Option Stand) (x : Stand) → r ≡ Ok o → o ≡ Some x → unit_step_of r ≡ More x
more_is r o x p q = rw (p, q) refl

solved_is : (r : Result (Option Stand) Unsolvable) (o : Option Stand) → r ≡ Ok o → o ≡ None → unit_step_of r ≡ Solved
solved_is r o p q = rw (p, q) refl

pub loop-next-init : goal.loop-next-init
loop-next-init c = λ sys s a. run_begin a

pub unit-went-requires : goal.unit-went-requires
unit-went-requires c = let w = c.requires.0 in let i = c.loop-next.invariant w.sys w.s w.at in record { sys = w.sys; s = i.s'; at = i.at }

pub overflow_add-cancelled : goal.overflow_add-cancelled
overflow_add-cancelled c =
    let p = c.requires in let w = p.0 in let i = c.loop-next.invariant w.sys w.s w.at in
    let r = run_room i w.at p.1 (c.unit-went.ensures.cancelled_value w.sys i.s' i.at) in
    omega arith

pub loop-next-smaller : goal.loop-next-smaller
loop-next-smaller c =
    let w = c.requires.0 in let i = c.loop-next.invariant w.sys w.s w.at in
    run_nearer i _ _ _ _ (c.unit-went.ensures.gone w.sys i.s' i.at) (more_is _ _ _ c.in-Ok-Some.is (rw c.in-Ok-Some.is at c.in-Ok-Some.field-0-is))

pub loop-next-preserved : goal.loop-next-preserved
loop-next-preserved c = λ sys s a.
    let e = c.unit-went.ensures in
    let i = c.loop-next.invariant sys s a in
    run_turn i _ _ _ _ (e.gone sys i.s' i.at) (more_is _ _ _ c.in-Ok-Some.is (rw c.in-Ok-Some.is at c.in-Ok-Some.field-0-is)) (e.cancelled_value sys i.s' i.at)

pub returns-in-Ok-None : goal.returns-in-Ok-None
returns-in-Ok-None c =
    let e = c.unit-went.ensures in
    let q = solved_is _ _ c.in-Ok-None.is (rw c.in-Ok-None.is at c.in-Ok-None.field-0-is) in
    record {
      ran = λ sys s a. let i = c.loop-next.invariant sys s a in run_solved i _ _ _ (e.gone sys i.s' i.at) q;
      ran_count = λ sys s a. let i = c.loop-next.invariant sys s a in count_solved i _ _ _ (e.gone sys i.s' i.at) q (e.cancelled_value sys i.s' i.at);
    }

pub returns-in-Err : goal.returns-in-Err
returns-in-Err c =
    let e = c.unit-went.ensures in
    let q = ap unit_step_of c.in-Err.is in
    record {
      ran = λ sys s a. let i = c.loop-next.invariant sys s a in run_refused i _ _ _ (e.gone sys i.s' i.at) q;
      ran_count = λ sys s a. let i = c.loop-next.invariant sys s a in count_refused i _ _ _ (e.gone sys i.s' i.at) q (e.cancelled_value sys i.s' i.at);
    }
