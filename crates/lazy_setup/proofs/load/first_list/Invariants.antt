-- The equations from i on are listed.
use Rattle.lazy_setup.proofs.Loading.{Listing}
use Rattle.lazy_setup.proofs.load.first_list.Given as goal

abbrev pub invariant-loop-i : goal.invariant-loop-i
invariant-loop-i l = Listing l.at.m l.at.priority l.at.equations l.initial.numbers l.i l.top l.numbers
