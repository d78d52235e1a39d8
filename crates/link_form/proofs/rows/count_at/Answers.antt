use lib.ListN.{length-drop}
use Rattle.std.proofs.Common.{◌∙◌, arith}
use Rattle.link_form.proofs.Standing.{count_bytes_there, count_there}
use Rattle.link_form.proofs.rows.count_at.Goals as goal

pub count-requires : goal.count-requires
count-requires c =
    let s = c.starting_at.ensures in
    let d = length-drop c.args.at c.args.bytes.now in
    rw (count_bytes_there s, s.rest) (omega (arith, c.requires))

pub returns-clause-value : goal.returns-clause-value
returns-clause-value c = c.count.ensures.value ∙ count_there c.starting_at.ensures
