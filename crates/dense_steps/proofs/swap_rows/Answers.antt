-- The two exchanges, lifted to rows.
use Rattle.std.proofs.Common.{refl, ◌<◌, arith}
use Rattle.dense_steps.proofs.AreaSteps.{swapped_became}
use Rattle.dense_steps.proofs.swap_rows.Goals as goal

pub returns : goal.returns
returns c =
    let a = c.args.area.now in
    let h : c.args.i < a.m = omega arith in
    record {
      same = record { same_m = refl; same_w = refl; same_reference = refl };
      became = swapped_became a.m a.w a.words.now a.room c.args.word c.args.i c.args.j c.requires.0 h c.requires.2 c.requires.1 _ _ c.exchange.ensures c.exchange-2.ensures;
    }
