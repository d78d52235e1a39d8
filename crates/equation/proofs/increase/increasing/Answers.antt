use borrow.Author.Rules.{rules}
use lib.Dec.{ltb}
use Rattle.std.proofs.lemmas.List.Sorted.{answers_always}
use Rattle.equation.proofs.Rise.{rises_adjacent}
use Rattle.equation.proofs.increase.increasing.Goals as goal

pub returns : goal.returns
returns c = rises_adjacent c.args.s.now c.is_sorted_by.result (c.is_sorted_by.ensures.cases ltb (answers_always _ _ _ (λ f a r f' k. search rules)))
