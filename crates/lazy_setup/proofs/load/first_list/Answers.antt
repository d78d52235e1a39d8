-- The test of an equation's priority is found by search.
use Rattle.std.proofs.Common.{rules, arith}
use Rattle.std.proofs.lemmas.Bool.Decides.{nat_tests}
use Rattle.lazy_setup.proofs.Loading.{listing_begin, listing_room, listing_push, listing_pass, listing_end}
use Rattle.lazy_setup.proofs.load.first_list.Goals as goal

pub loop-i-init : goal.loop-i-init
loop-i-init c = listing_begin _ _ _ _ c.requires.1 c.requires.2

pub overflow_add-numbers : goal.overflow_add-numbers
overflow_add-numbers c = let h = listing_room c.loop-i.invariant c.loop-i-test.true (grind (arith, nat_tests)) in search rules

pub offset_bounds-numbers-at-then-first : goal.offset_bounds-numbers-at-then-first
offset_bounds-numbers-at-then-first c = let h = listing_room c.loop-i.invariant c.loop-i-test.true (grind (arith, nat_tests)) in search rules

pub bounds-numbers-at-then-first : goal.bounds-numbers-at-then-first
bounds-numbers-at-then-first c = let h = listing_room c.loop-i.invariant c.loop-i-test.true (grind (arith, nat_tests)) in search rules

pub overflow_add-top : goal.overflow_add-top
overflow_add-top c = let h = listing_room c.loop-i.invariant c.loop-i-test.true (grind (arith, nat_tests)) in search rules

pub loop-i-preserved-then-first : goal.loop-i-preserved-then-first
loop-i-preserved-then-first c = listing_push c.loop-i.invariant c.loop-i-test.true (grind (arith, nat_tests))

pub loop-i-preserved : goal.loop-i-preserved
loop-i-preserved c = listing_pass c.loop-i.invariant c.loop-i-test.true (grind (arith, nat_tests))

pub returns-clause-value : goal.returns-clause-value
returns-clause-value c = (listing_end c.loop-i.invariant c.loop-i-test.false).0

pub returns-clause-numbers_after : goal.returns-clause-numbers_after
returns-clause-numbers_after c = (listing_end c.loop-i.invariant c.loop-i-test.false).1
