use Rattle.std.proofs.Common.{refl, rules, length-set}
use Rattle.gf2.proofs.Tests.{eqb_ne}
use Rattle.lazy_pops.proofs.lowering.lower.Goals as goal

pub returns-then-p-ne2 : goal.returns-then-p-ne2
returns-then-p-ne2 c = simp (eqb_ne _ 2 c.if-p-ne2.true) (record { value = refl; numbers_after = refl })

pub overflow_add-numbers : goal.overflow_add-numbers
overflow_add-numbers c = let h = c.requires.place c.if-p-ne2.false in search rules

pub offset_bounds-numbers-layout : goal.offset_bounds-numbers-layout
offset_bounds-numbers-layout c = let h = c.requires.place c.if-p-ne2.false in search rules

pub bounds-numbers-layout : goal.bounds-numbers-layout
bounds-numbers-layout c = let h = c.requires.place c.if-p-ne2.false in simp length-set h

pub overflow_add-result : goal.overflow_add-result
overflow_add-result c = let h = c.requires.place c.if-p-ne2.false in search rules

pub returns : goal.returns
returns c = simp c.if-p-ne2.false (record { value = refl; numbers_after = refl })
