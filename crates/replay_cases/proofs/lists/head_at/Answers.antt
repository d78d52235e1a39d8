use Rattle.std.proofs.Common.{arith, sym, ◌+◌, length}
use borrow.Author.Tests.{le-leb, lt-leb}
use Rattle.link_form.specs.Bytes.{power}
use Rattle.replay_cases.specs.Lists.{head_at}
use Rattle.replay_cases.proofs.lists.head_at.Goals as goal
use Rattle.replay_cases.proofs.lists.head_at.Goals.{then-end-at-via-then-end-at, then-end-at-via-else-end-at+then-end-at-lt3}

pub returns-then-end-at : goal.returns-then-end-at
unfolding head_at
returns-then-end-at c =
    elim c.then-end-at.branch [
      | then-end-at-via-then-end-at w ↦ simp (lt-leb (c.args.at + 3) (length c.args.bytes.now) (omega arith))
      | then-end-at-via-else-end-at+then-end-at-lt3 w ↦ simp (lt-leb (c.args.at + 3) (length c.args.bytes.now) (omega arith))
    ]

pub whole_list-requires : goal.whole_list-requires
unfolding power
whole_list-requires c = (c.read_number-width.ensures.upper_bound, c.read_number-count.ensures.upper_bound, omega arith)

pub returns : goal.returns
unfolding head_at
returns c =
    simp (
      le-leb (c.args.at + 3) (length c.args.bytes.now) (omega arith),
      sym c.read_number-width.ensures.value,
      sym c.read_number-count.ensures.value,
    )
    c.whole_list.ensures
