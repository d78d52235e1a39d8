use Rattle.std.proofs.Common.{◌≡◌, ◌∙◌}
use Rattle.peel_rules.specs.Edges.{bad_edge}
use Rattle.peel_gates.proofs.GateLaws.{counted_or}
use Rattle.peel_gates.proofs.rules.judge_lent.Goals as goal

pub returns : goal.returns
returns g c =
    let lowest : c.unwrap_or-bad.result ≡ bad_edge c.args.n c.args.edges.now = c.unwrap_or-bad.ensures ∙ counted_or _ _ c.bad_edge.result c.bad_edge.ensures in
    rw (← lowest) c.judge.ensures
