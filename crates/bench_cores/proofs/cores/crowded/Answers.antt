use Rattle.std.proofs.Common.{rules, arith, true, length, take, replicate}
use borrow.Author.Tests.{tests}
use Rattle.std.proofs.lemmas.Iterator.{YieldsList-from_range}
use Rattle.std.proofs.lemmas.Iterator.Search.{find_from_yields_List}
use Rattle.peel_rules.specs.Core.{pick}
use Rattle.bench_cores.proofs.Counting.{crowds, crowd_found}
use Rattle.bench_cores.proofs.cores.crowded.Goals as goal

pub returns-clause-lowest : goal.returns-clause-lowest
returns-clause-lowest c =
    let edges = c.args.edges.now in
    let alive = take (length edges) (replicate 256 true) in
    crowd_found c.args.n edges c.find.result (omega arith)
    (find_from_yields_List (crowds (pick alive edges)) _ _ c.find.result c.find.ensures.ran
    (YieldsList-from_range 0 c.args.n c.args.n (cc) (omega arith)) (λ x b q k. search (rules, tests)))
