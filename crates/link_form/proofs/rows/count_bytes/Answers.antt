use Rattle.std.proofs.Common.{[], sym, ◌∙◌}
use Rattle.link_form.proofs.Scanning.{counted}
use Rattle.link_form.proofs.Standing.{count_bytes_alike}
use Rattle.link_form.proofs.rows.count_bytes.Goals as goal

pub returns-in-Sparse : goal.returns-in-Sparse
returns-in-Sparse c = sym (counted c.standing_for.result c.args.w [] c.in-Sparse.is).1 ∙ count_bytes_alike c.standing_for.ensures c.args.w

pub returns-in-Peel : goal.returns-in-Peel
returns-in-Peel c = rw c.in-Peel.is at (count_bytes_alike c.standing_for.ensures c.args.w)
