-- The two copies, as rows.
use Rattle.std.proofs.Common.{refl}
use Rattle.dense.proofs.Running.{loaded_became}
use Rattle.dense.proofs.run.load.Goals as goal

pub returns : goal.returns
returns c =
    let s = c.args.system.now in
    let a = c.args.area.now in
    let room = rw (c.requires.2, c.requires.3) at a.room in
    record {
      same = record { same_m = refl; same_w = refl; same_reference = refl };
      became = rw (c.requires.2, c.requires.3) (loaded_became s.m s.w s.rows.now s.constants.now a.words.now _ _ c.requires.0 c.requires.1 room c.copy.ensures c.copy-2.ensures);
    }
