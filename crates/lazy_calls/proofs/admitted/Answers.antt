use Rattle.std.proofs.Common.{sym}
use Rattle.std.proofs.lemmas.Result.{err_from_is_err_and}
use Rattle.system.proofs.Soundness.{kept_sound}
use Rattle.lazy_calls.proofs.admitted.Goals as goal

pub returns-in_err-rules : goal.returns-in_err-rules
returns-in_err-rules c =
    let p = err_from_is_err_and c.from_residual.result c.from_residual.ensures.1 in
    rw (p.1, p.2, ← c.in_err-rules.ensures)

pub lazy_numbers-numbers_room-requires : goal.lazy_numbers-numbers_room-requires
lazy_numbers-numbers_room-requires c = let f = kept_sound _ _ _ _ _ (sym c.in_ok-rules.ensures) in (f.few_variables, f.few_equations, f.few_listed)

pub lazy_words-words_room-requires : goal.lazy_words-words_room-requires
lazy_words-words_room-requires c = (kept_sound _ _ _ _ _ (sym c.in_ok-rules.ensures)).few_equations

pub returns : goal.returns
returns c =
    rw (← c.in_ok-rules.ensures) (rw (c.lazy_numbers-numbers_room.ensures, c.lazy_words-words_room.ensures) at c.lengths_kept.ensures)
