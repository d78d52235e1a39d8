use Rattle.std.proofs.Common.{◌≡◌, ◌∙◌, arith}
use Rattle.link_load.proofs.Loading.{noting_begin, noting_room, noting_turn, row_rooms, row_vars, vars_room}
use Rattle.link_load.proofs.load_vars.Goals as goal

pub count-count-requires : goal.count-count-requires
count-count-requires c = let r = row_rooms c.args.rows.now c.requires.there in omega arith

pub loop-i-init : goal.loop-i-init
loop-i-init c = noting_begin c.count-count.new.self c.args.vars.now c.args.to (omega (arith, c.requires.room))

-- the variables behind the count are there
pub variable-requires : goal.variable-requires
variable-requires c =
    let k = c.count-count.ensures in
    noting_room c.count-count.result c.loop-i.invariant c.loop-i-test.true (rw k.value (vars_room c.requires.there k.passed))

pub loop-i-preserved : goal.loop-i-preserved
loop-i-preserved c =
    noting_turn c.count-count.result c.loop-i.invariant c.loop-i-test.true (omega (arith, c.requires.room, c.count-count.ensures.value)) c.variable.ensures.value c.variable.ensures.passed

pub returns-clause-vars_after : goal.returns-clause-vars_after
returns-clause-vars_after c =
    let k = c.count-count.ensures in
    let n = c.loop-i.invariant in
    let e : c.loop-i.i ≡ c.count-count.result = omega arith in
    n.so_far ∙ rw (e, k.value, k.passed.width, k.passed.rest, row_vars c.args.rows.now)
