-- What the merge and the two copies write, put together by `gather`.
use mathlib.Core.Path.{refl}
use native.Mathlib.Omega.{arith}
use Rattle.equation.proofs.Gather.{part_from, gather}
use Rattle.equation.proofs.merge.add_ptr.Goals as goal

pub returns-clause-out_after : goal.returns-clause-out_after
returns-clause-out_after c =
    let m = c.merge-i in
    gather c.args.out.now 0 m.ensures.ended (omega (arith, c.requires)) m.ensures.out_after (part_from c.args.left.now m.result.left) (omega arith) c.copy.ensures
    (part_from c.args.right.now m.result.right) refl c.copy-2.ensures
