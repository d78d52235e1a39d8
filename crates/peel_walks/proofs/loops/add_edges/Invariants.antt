use Rattle.peel_walks.proofs.TableLaws.{Building}
use Rattle.peel_walks.proofs.loops.add_edges.Given as goal

-- the edges before `i` are taken in
abbrev pub invariant-loop-i : goal.invariant-loop-i
invariant-loop-i l = Building l.fn.edges l.fn.numbers l.fn.bytes l.i l.numbers l.bytes l.low
