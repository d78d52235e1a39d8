use native.Mathlib.Omega.{arith}
use Rattle.sparse_rows.proofs.Passing.{passing_begin, passing_held, k_in, passing_above, passing_swap, passing_same, passing_empty}
use Rattle.sparse_rows.proofs.echelon.pass_rows.Goals as goal
use Rattle.sparse_rows.proofs.echelon.pass_rows.Goals.{then-v-u+else-v-u-2+else-numbers-lens-eq0, else-v-u}

pub loop-k-init : goal.loop-k-init
loop-k-init c = passing_begin c.requires.0 c.requires.1 c.requires.2 c.requires.3 c.requires.4

pub returns-then-v-u-2-clause-passes : goal.returns-then-v-u-2-clause-passes
returns-then-v-u-2-clause-passes c = passing_same c.loop-k.invariant c.loop-k-test.true c.if-v-u-2.true

pub returns-then-numbers-lens-eq0-clause-passes : goal.returns-then-numbers-lens-eq0-clause-passes
returns-then-numbers-lens-eq0-clause-passes c = passing_empty c.loop-k.invariant c.loop-k-test.true c.if-numbers-lens-eq0.true

pub swap_rows-requires : goal.swap_rows-requires
swap_rows-requires c = let l = c.loop-k.invariant in (passing_held l, l.stands.i_below, k_in l c.loop-k-test.true)

pub loop-k-preserved : goal.loop-k-preserved
loop-k-preserved c =
    let s = c.loop-k.invariant in
    let h = c.loop-k-test.true in
    elim c.if-v-u.branch [
      | then-v-u+else-v-u-2+else-numbers-lens-eq0 w ↦
          rw (w.numbers-is, w.words-is, w.u-is) (passing_swap s h (omega (arith, w.if-v-u.true, w.if-v-u-2.false)) w.if-numbers-lens-eq0.false w.swap_rows.ensures)
      | else-v-u w ↦ rw (w.numbers-is, w.words-is, w.u-is) (passing_above s h w.if-v-u.false)
    ]
