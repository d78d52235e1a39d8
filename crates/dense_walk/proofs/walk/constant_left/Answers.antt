-- A look at the rows from the rank on.
use Rattle.std.proofs.Common.{◌∙◌, ◌-◌, refl, rules, arith, tests}
use Rattle.std.proofs.lemmas.Iterator.{YieldsList-from_range}
use Rattle.std.proofs.lemmas.Iterator.Search.{any_from_yields_List}
use Rattle.dense_rows.specs.Areas.{rows_seen}
use Rattle.dense_rows.proofs.Holding.{seen_count}
use Rattle.dense_walk.proofs.Walking.{constant_set, residue_any}
use Rattle.dense_walk.proofs.walk.constant_left.Goals as goal

pub returns : goal.returns
returns c =
    let v = c.args.view in
    let rank = c.args.rank in
    let rows = rows_seen v in
    let count = seen_count v in
    any_from_yields_List (constant_set rows) _ _ c.any.result c.any.ensures.ran (YieldsList-from_range rank v.m (v.m - rank) refl refl) (λ x b q k. search (rules, tests))
    ∙ residue_any rank (v.m - rank) rows (omega arith)
