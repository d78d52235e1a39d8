use Rattle.std.proofs.Common.{not, rules}
use Rattle.std.proofs.lemmas.Iterator.{YieldsList-from_slice}
use Rattle.std.proofs.lemmas.Iterator.Search.{position_from_yields_List}
use Rattle.peel_rules.specs.Edges.{is_valid}
use Rattle.peel_gates.proofs.GateLaws.{bad_is_position}
use Rattle.peel_gates.proofs.rules.bad_edge.Goals as goal

pub returns : goal.returns
returns c =
    bad_is_position c.args.n c.args.edges.now
    (position_from_yields_List (λ e. not (is_valid c.args.n e)) _ _ _ c.position.ensures.ran (YieldsList-from_slice c.args.edges.now cc) (λ x b q k. search (rules, k)))
