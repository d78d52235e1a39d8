use Rattle.std.proofs.Common.{rules}
use Rattle.link_form.specs.File.{rows_in}
use Rattle.link_form.specs.Rows.{rows_of}
use Rattle.link_load.proofs.Loading.{loading_begin, constant_room, loading_room, loading_small, loading_turn}
use Rattle.link_load.proofs.load_rows.Goals as goal

pub loop-i-init : goal.loop-i-init
loop-i-init c =
    let a = c.args in
    let r = c.requires.room in
    loading_begin a.rows.now a.m (rows_in (rows_of a.m a.rows.now)) a.starts.now a.vars.now a.constants.now c.requires.whole r.0 r.1 r.2

pub load_vars-count-requires : goal.load_vars-count-requires
load_vars-count-requires c = let r = loading_room c.loop-i.invariant c.loop-i-test.true in record { there = r.0; room = r.1 }

pub overflow_add-listed : goal.overflow_add-listed
overflow_add-listed c =
    let s = loading_small c.loop-i.invariant c.loop-i-test.true in
    let e = c.load_vars-count.ensures.value in
    let b = c.requires.short in
    search rules

pub constant-requires : goal.constant-requires
constant-requires c =
    let r = loading_room c.loop-i.invariant c.loop-i-test.true in
    constant_room r.0 c.load_vars-count.ensures.rows_after

pub overflow_cast-starts : goal.overflow_cast-starts
overflow_cast-starts c =
    let s = loading_small c.loop-i.invariant c.loop-i-test.true in
    let e = c.load_vars-count.ensures.value in
    let b = c.requires.short in
    search rules

pub loop-i-preserved : goal.loop-i-preserved
loop-i-preserved c =
    let v = c.load_vars-count.ensures in
    loading_turn c.loop-i.invariant c.loop-i-test.true v.value v.vars_after v.rows_after c.constant.ensures.value c.constant.ensures.passed
