-- A search over the numbers of the rows.
use Rattle.std.proofs.Common.{◌≡◌, true, false, get_or, rules, tests}
use Rattle.std.proofs.lemmas.Iterator.{first_from_Range}
use Rattle.dense_rows.specs.Bits.{has_bit}
use Rattle.dense_rows.specs.Steps.{no_row}
use Rattle.dense_rows.specs.Areas.{rows_seen}
use Rattle.dense_rows.proofs.HeldLaws.{held_length}
use Rattle.dense_rows.proofs.Searching.{searched}
use Rattle.dense_rows.proofs.view.View.find_pivot.Goals as goal

pub returns : goal.returns
returns c =
    let a = c.args.self in
    let col = c.args.col in
    searched col c.args.rank a.m (rows_seen a) (held_length a.m a.w a.words.now a.room) c.requires.0 c.find.result
    (first_from_Range _ _ _ _ (λ i. has_bit col (get_or (rows_seen a) i no_row) ≡ true) (λ i. has_bit col (get_or (rows_seen a) i no_row) ≡ false) c.find.ensures.ran
    (λ x q k. search (rules, tests)) (λ x q k. search (rules, tests)))
