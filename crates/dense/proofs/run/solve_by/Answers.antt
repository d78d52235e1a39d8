use Rattle.std.proofs.Common.{sym}
use Rattle.dense_rows.proofs.Lending.{dense_kept_sound}
use Rattle.dense.proofs.run.solve_by.Goals as goal

pub dense_words-room-requires : goal.dense_words-room-requires
dense_words-room-requires g c =
    let s = c.args.system.now in
    let h = dense_kept_sound s.n s.m s.w s.rows.now s.constants.now (sym c.in_ok-rules.ensures) in
    (h.few_rows, h.few_words)
