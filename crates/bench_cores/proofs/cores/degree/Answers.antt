use Rattle.std.proofs.Common.{rules, ◌∙◌}
use borrow.Author.Tests.{tests}
use Rattle.std.proofs.lemmas.Iterator.{YieldsList-from_slice, YieldsList-from_zip}
use Rattle.std.proofs.lemmas.Iterator.Consumers.{YieldsList-at, YieldsList-from_filter, count_from_yields_List}
use Rattle.peel_rules.specs.Edges.{touches}
use Rattle.bench_cores.proofs.Counting.{alive_filters}
use Rattle.bench_cores.proofs.cores.degree.Goals as goal

pub returns : goal.returns
returns c =
    count_from_yields_List c.filter-2.result _ c.count.ensures.ran
    (YieldsList-from_filter _ (λ p. touches c.args.v.0 p.0)
    (YieldsList-at c.filter-2.ensures.source
    (YieldsList-from_filter _ (λ p. p.1)
    (YieldsList-at c.filter.ensures.source (YieldsList-from_zip (YieldsList-from_slice c.args.edges.now cc) (YieldsList-from_slice c.args.alive.now cc)))
    c.filter.ensures.closure (λ x r q k. search (rules, tests))))
    c.filter-2.ensures.closure (λ x r q k. search (rules, tests)))
    ∙ alive_filters c.args.v.0 c.args.alive.now c.args.edges.now
