use Rattle.lazy_calls.specs.LazyCall.{lazy_answer_in}
use Rattle.lazy_calls.proofs.Closing.{room_zero, ends}
use Rattle.lazy_calls.proofs.whole.run.Goals as goal

pub returns : goal.returns
returns c =
    let l = c.build.new in let e = c.build.ensures in let p = c.requires in
    let q = ends _ _ _ l.solution _ _ _ _
    (room_zero _ _ _ c.args.numbers.now c.lazy_numbers-numbers_room.ensures p.2 e.numbers_after)
    (room_zero _ _ _ c.args.words.now c.lazy_words-words_room.ensures p.3 e.words_after)
    (lazy_answer_in c.args.system.now) _ e.answers in
    record { answer_value = q.0; solution_after = q.1.0; numbers_after = q.1.1.0; words_after = q.1.1.1; cancelled_value = e.cancelled_value }
