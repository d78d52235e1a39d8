-- The test of the constant is found by search.
use Rattle.std.proofs.Common.{arith}
use Rattle.std.proofs.lemmas.Bool.Decides.{nat_tests}
use Rattle.lazy_pops.proofs.DensePop.{copy_at, equation_cells, pop_copied, pop_clash, pop_identity}
use Rattle.lazy_pops.proofs.copying.pop_dense.Goals as goal

pub overflow_add-len : goal.overflow_add-len
overflow_add-len c = let b = equation_cells c.requires.at in omega arith

pub offset_bounds-numbers-layout : goal.offset_bounds-numbers-layout
offset_bounds-numbers-layout c = let b = equation_cells c.requires.at in omega arith

pub bounds-numbers-layout : goal.bounds-numbers-layout
bounds-numbers-layout c = let b = equation_cells c.requires.at in omega arith

pub copy_dense-requires : goal.copy_dense-requires
copy_dense-requires c = record { sys = c.requires.sys; s = _; at = copy_at c.requires.at }

pub overflow_add-result : goal.overflow_add-result
overflow_add-result c = let b = equation_cells c.requires.at in omega arith

pub offset_bounds-words-e : goal.offset_bounds-words-e
offset_bounds-words-e c = let b = equation_cells c.requires.at in omega arith

pub bounds-words-e : goal.bounds-words-e
bounds-words-e c = let b = equation_cells c.requires.at in omega arith

pub returns-then-len-ne0 : goal.returns-then-len-ne0
returns-then-len-ne0 c = λ sys s es a. pop_copied a c.if-len-ne0.true (c.copy_dense.ensures sys _ (copy_at a))

pub returns-then-clash : goal.returns-then-clash
returns-then-clash c = λ sys s es a. pop_clash a c.if-len-ne0.false (λ z. grind (arith, nat_tests, z, c.if-clash.true))

pub returns : goal.returns
returns c = λ sys s es a. pop_identity a c.if-len-ne0.false (grind (arith, nat_tests, c.if-clash.false))
