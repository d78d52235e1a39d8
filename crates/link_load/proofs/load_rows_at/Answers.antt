use lib.ListN.{length-drop}
use Rattle.std.proofs.Common.{arith}
use Rattle.link_form.proofs.Standing.{rows_there}
use Rattle.link_load.proofs.load_rows_at.Goals as goal

pub load_rows-requires : goal.load_rows-requires
load_rows-requires c =
    let a = c.args in
    let s = c.starting_at-rows.ensures in
    let e = rows_there s a.m in
    let d = length-drop a.at a.bytes.now in
    let r = c.requires.rows_room in
    record { whole = rw e c.requires.whole; short = rw s.rest (omega (arith, c.requires.inside.1)); room = rw e (c.requires.starts_room, r.0, r.1) }

pub returns : goal.returns
returns c = rw (rows_there c.starting_at-rows.ensures c.args.m) at c.load_rows.ensures
