use Rattle.std.proofs.Common.{arith}
use Rattle.lazy_pops.proofs.AddTurns.{adding_begin, list_in, adding_skip, adding_fits, adding_room, rows_in, adding_turn, adding_end, adding_count}
use Rattle.lazy_pops.proofs.solving.add_listed.Goals as goal
use Rattle.lazy_pops.proofs.solving.add_listed.Goals.{then-f-e, else-f-e}

pub loop-k-init : goal.loop-k-init
loop-k-init c = λ sys s v a. adding_begin a

pub overflow_add-f : goal.overflow_add-f
overflow_add-f c = let b = list_in (c.loop-k.invariant _ _ _ c.requires.at) in omega arith

pub offset_bounds-numbers-list : goal.offset_bounds-numbers-list
offset_bounds-numbers-list c = let b = list_in (c.loop-k.invariant _ _ _ c.requires.at) in omega arith

pub bounds-numbers-list : goal.bounds-numbers-list
bounds-numbers-list c = let b = list_in (c.loop-k.invariant _ _ _ c.requires.at) in omega arith

pub add_row-requires : goal.add_row-requires
add_row-requires c = record { sys = c.requires.sys; s = _; at = adding_fits (c.loop-k.invariant _ _ _ c.requires.at) c.loop-k-test.true }

pub overflow_add-cancelled : goal.overflow_add-cancelled
overflow_add-cancelled c =
    let i = c.loop-k.invariant _ _ _ c.requires.at in
    let h = c.loop-k-test.true in
    let r = adding_room i h c.if-f-e.true (c.add_row.ensures.value _ _ (adding_fits i h)) in
    let l = rows_in i in
    omega arith

pub loop-k-preserved : goal.loop-k-preserved
loop-k-preserved c =
    let h = c.loop-k-test.true in
    elim c.if-f-e.branch [
      | then-f-e w ↦ rw (w.numbers-is, w.words-is, w.cancelled-is) (λ sys s v a.
          let i = c.loop-k.invariant sys s v a in
          let f = adding_fits i h in
          adding_turn i h w.if-f-e.true (w.add_row.ensures.add_done sys _ f) (w.add_row.ensures.value sys _ f))
      | else-f-e w ↦ rw (w.numbers-is, w.words-is, w.cancelled-is) (λ sys s v a. adding_skip (c.loop-k.invariant sys s v a) h w.if-f-e.false)
    ]

pub returns-clause-add_done : goal.returns-clause-add_done
returns-clause-add_done c = λ sys s v a. adding_end (c.loop-k.invariant sys s v a) c.loop-k-test.false

pub returns-clause-value : goal.returns-clause-value
returns-clause-value c = λ sys s v a. adding_count (c.loop-k.invariant sys s v a) c.loop-k-test.false
