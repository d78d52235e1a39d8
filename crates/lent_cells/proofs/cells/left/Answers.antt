use Rattle.std.proofs.Common.{rules, eqb, ◌∙◌}
use borrow.Author.Tests.{tests}
use Rattle.std.proofs.lemmas.Iterator.{YieldsList-from_slice}
use Rattle.std.proofs.lemmas.Iterator.Consumers.{YieldsList-from_enumerate}
use Rattle.std.proofs.lemmas.Iterator.Search.{all_from_yields_List}
use Rattle.lent_cells.specs.Cells.{left_at}
use Rattle.lent_cells.proofs.Same.{left_by}
use Rattle.lent_cells.proofs.cells.left.Goals as goal

pub returns : goal.returns
returns g c =
    all_from_yields_List (λ p. eqb (g.T.Cell.wide p.1) (left_at c.args.room p.0)) _ _ _ c.all.ensures.ran
    (YieldsList-from_enumerate (YieldsList-from_slice c.args.cells.now cc) cc)
    (λ x b q k. search (rules, tests))
    ∙ left_by g.T.Cell.wide c.args.room c.args.cells.now
